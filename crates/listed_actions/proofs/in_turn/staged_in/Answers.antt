-- `listed_actions::in_turn::staged_in` meets its contract: the version and the mark stand at the place of the part number. Assumes nothing.
use native.Mathlib.Omega.{arith}
use mathlib.Core.Bool.{false}
use mathlib.Core.Path.{◌≡◌, sym, ap, ◌∙◌}
use Prim.Native.Nat.{◌<◌}
use lib.ListN.{take}
use Rattle.std.specs.Prelude.{Some}
use Rattle.clusters.specs.View.{no_version}
use Rattle.clusters.specs.Place.{place_among}
use Rattle.clusters.proofs.ColumnLaws.{place-below, none-among, found_among}
use Rattle.actions.specs.Staged.{staged_as}
use Rattle.listed_actions.proofs.in_turn.staged_in.Goals.{In_ok-at}
use Rattle.listed_actions.proofs.in_turn.staged_in.Goals as goal

-- the place that the search found
found : (c : In_ok-at) → (let columns = c.args.columns.now in place_among 0 c.args.part (take columns.count columns.parts) ≡ Some c.in_ok-at.at)
found c = sym c.place_of.ensures ∙ c.in_ok-at.was

below : (c : In_ok-at) → c.in_ok-at.at < 64
below c = omega (arith, c.args.columns.now.few, place-below c.args.part c.args.columns.now.count c.args.columns.now.parts c.in_ok-at.at (found c))

pub returns-in_err-at : goal.returns-in_err-at
returns-in_err-at c t of = c.from_residual.ensures ∙ sym (ap staged_as (none-among c.args.columns.now t of c.args.part (sym c.place_of.ensures ∙ c.in_err-at.was)))

pub offset_bounds-columns-at : goal.offset_bounds-columns-at
offset_bounds-columns-at c = omega (arith, below (goal.at.offset_bounds-columns-at c).In_ok-at)

pub bounds-columns-at : goal.bounds-columns-at
bounds-columns-at c = below (goal.at.bounds-columns-at c).In_ok-at

pub bounds-columns-at-2 : goal.bounds-columns-at-2
bounds-columns-at-2 c = below (goal.at.bounds-columns-at-2 c).In_ok-at

pub returns : goal.returns
returns c t of =
    let p = found_among c.args.columns.now t of c.args.part c.in_ok-at.at no_version false (found (goal.at.returns c).In_ok-at) in
    rw (p.same_version, p.same-mark) (sym (ap staged_as p.there))
