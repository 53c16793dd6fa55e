-- The declared sizes of the packages that a loop went along so far. Assumes nothing.
use Prim.Native.Nat.{ℕ, zero, suc, ◌+◌, ◌≤◌, ◌<◌}
use mathlib.Core.Path.{◌≡◌, ap, ◌∙◌}
use mathlib.Core.List.{List, [], ◌∷◌}
use native.Mathlib.Numerals.{add-one}
use native.Mathlib.Omega.{arith}
use lib.ListN.{length, take, get_or}
use lib.Seq.{take_all}
use Rattle.model.specs.State as model
use Rattle.model.specs.Areas.{declared}
use Rattle.model.specs.Sound.{packages_most}
use Rattle.state.specs.declared.transfers.Transfers.{Transfers}
use Rattle.state.specs.View.{view_package, cleared_package, view_packages}
use Rattle.state.proofs.PackagesAlong.{packages-length, package-at}

-- the declared sizes of the first packages, one more and one more
declared-next : (ps : List model.Package) (i : ℕ) (d : model.Package) → i < length ps
    → declared (take (suc i) ps) ≡ declared (take i ps) + (get_or ps i d).size
unfolding declared
declared-next [] i d h = absurd (omega arith)
declared-next (p ∷ ps) zero d h = omega arith
declared-next (p ∷ ps) (suc i) d h = let ih = declared-next ps i d (omega arith) in omega arith

module _ (t : Transfers) (few : t.count ≤ packages_most) (long : length t.packages ≡ packages_most) where
  -- the first of all that count are all
  pub start-last : declared (take t.count (view_packages t)) ≡ declared (view_packages t)
  start-last = ap declared (take_all t.count (view_packages t) (rw (packages-length t few long) (omega arith)))

  pub start-next : (i : ℕ) → i < t.count
      → declared (take (i + 1) (view_packages t)) ≡ declared (take i (view_packages t)) + (get_or t.packages i cleared_package).size
  start-next i h =
      rw add-one
      (declared-next (view_packages t) i (view_package cleared_package) (rw (packages-length t few long) h)
      ∙ ap (λ (p : model.Package). declared (take i (view_packages t)) + p.size) (package-at t few long i h))
