-- `payload::payload_on_sound` meets its contract: the part of the store at the place. Assumes nothing.
use mathlib.Core.Path.{◌≡◌, refl, sym, ap}
use Prim.Native.Nat.{ℕ, ◌+◌, ◌≤◌}
use lib.ListN.{length, take, drop}
use borrow.Author.Rules.{rules}
use native.Mathlib.Omega.{arith}
use Rattle.std.proofs.lemmas.Result.{IfOk-at_ok}
use Rattle.state.specs.View.{view_state}
use Rattle.areas.proofs.FoundPackage.{areas-fit}
use Rattle.payload.specs.Place.{no_place, place_on_sound}
use Rattle.payload.proofs.PayloadLaws.{sound-place, place-lies, refused-place}
use Rattle.payload.proofs.Parts.{part_at, none-taken}
use Rattle.payload.proofs.payload_on_sound.Goals.{In-Ok}
use Rattle.payload.proofs.payload_on_sound.Goals as goal

-- the place that the code found, which lies in the store
place_found : (c : In-Ok) → (c.in-Ok.place ≡ place_on_sound (view_state c.args.s) c.args.store.now c.args.id)
place_found c = IfOk-at_ok _ c.in-Ok.is (c.payload_place.ensures.place (view_state c.args.s) refl)

lies : (c : In-Ok) → (c.in-Ok.place.start + c.in-Ok.place.count ≤ length c.args.store.now)
lies c =
    rw (place_found c, sound-place (view_state c.args.s) c.args.store.now c.args.id c.requires) (place-lies (view_state c.args.s) c.args.store.now c.args.id).inside

pub payload_place-requires : goal.payload_place-requires
payload_place-requires c = areas-fit c.args.s c.args.store.now c.requires

pub overflow_add-result : goal.overflow_add-result
overflow_add-result c = let h = lies (goal.at.overflow_add-result c).In-Ok in search rules

pub slice_bounds-result-end : goal.slice_bounds-result-end
slice_bounds-result-end c = lies (goal.at.slice_bounds-result-end c).In-Ok

pub returns-in-Ok : goal.returns-in-Ok
returns-in-Ok c =
    part_at _ _ _ _ (place_found (goal.at.returns-in-Ok c).In-Ok) (ap (λ (n : ℕ). take n (drop c.in-Ok.place.start c.args.store.now)) (omega arith))

-- by `none-taken`, however the code says that it takes nothing
pub returns-in-Err : goal.returns-in-Err
returns-in-Err c =
    let refused = refused-place _ _ _ _ (rw c.in-Err.is at (c.payload_place.ensures.refused (view_state c.args.s) refl)) in
    part_at _ no_place _ _ (sym refused) (search (arith, none-taken))
