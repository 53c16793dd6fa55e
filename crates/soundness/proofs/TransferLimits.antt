-- The limits of the transfers, which the code decides before it looks at each package: that is what the definitions ask, and what they tell
-- of the packages. Assumes nothing.
use Prim.Native.Nat.{ℕ, ◌+◌, ◌≤◌}
use mathlib.Core.Path.{◌≡◌, sym, ap, ◌∙◌}
use mathlib.Core.Bool.{Bool, true, ◌&&◌}
use lib.Dec.{leb}
use lib.ListN.{length}
use borrow.Author.Tests.{leb-true}
use Rattle.base.proofs.Tests.{and_left, and_right}
use Rattle.model.specs.Areas.{declared}
use Rattle.model.specs.Sound.{store_most, packages_most, id_most, store_sound, packages_rise, transfers_sound}
use Rattle.state.specs.declared.transfers.Transfers.{Transfers}
use Rattle.state.specs.View.{view_packages, view_transfers}
use Rattle.state.proofs.Views.{packages-fit}
use Rattle.soundness.proofs.Order.{limits-first}

abbrev pub within_limits : Transfers → ℕ → Bool
within_limits t store_length = leb t.count packages_most && (leb store_length store_most && (leb 1 t.next && leb t.next (id_most + 1)))

pub transfers-limits : (t : Transfers) (store_length : ℕ) → store_sound (view_packages t) store_length && transfers_sound (view_transfers t)
    ≡ within_limits t store_length && (packages_rise 0 t.next (view_packages t) && leb (declared (view_packages t)) store_length)
unfolding store_sound transfers_sound
transfers-limits t store_length =
    limits-first (leb store_length store_most) (leb (declared (view_packages t)) store_length) (leb (length (view_packages t)) packages_most) (leb 1 t.next)
    (leb t.next (id_most + 1)) (packages_rise 0 t.next (view_packages t))
    ∙ ap (λ (few : Bool). (few && (leb store_length store_most && (leb 1 t.next && leb t.next (id_most + 1)))) && (packages_rise 0 t.next (view_packages t) && leb (declared (view_packages t)) store_length)) (packages-fit t)

pub limits-told : (t : Transfers) (store_length : ℕ) → store_sound (view_packages t) store_length && transfers_sound (view_transfers t) ≡ true
    → (t.count ≤ packages_most) × (packages_rise 0 t.next (view_packages t) ≡ true)
limits-told t store_length h =
    let e = sym (transfers-limits t store_length) ∙ h in
    let limits = within_limits t store_length in (
      leb-true _ _ (and_left _ _ (and_left limits _ e)),
      and_left (packages_rise 0 t.next (view_packages t)) _ (and_right limits _ e),
    )
