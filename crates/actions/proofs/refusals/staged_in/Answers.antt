-- `actions::refusals::staged_in` meets its contract: the cluster at the place found is the one with the part number. Assumes nothing.
use native.Mathlib.Omega.{arith}
use mathlib.Core.Path.{sym, ap, ◌∙◌}
use Rattle.clusters.proofs.Placing.{FoundIn, found_in_lem, nothing-found}
use Rattle.actions.specs.Staged.{staged_as}
use Rattle.actions.proofs.refusals.staged_in.Goals.{In-Some}
use Rattle.actions.proofs.refusals.staged_in.Goals as goal

-- where the part number is found: the place counts, and the cluster there is the one found
found : (c : In-Some) → (FoundIn c.args.part c.args.t c.in-Some.i)
found c = found_in_lem _ _ _ c.requires (sym c.find.ensures.place ∙ c.in-Some.is)

pub returns-in_default : goal.returns-in_default
returns-in_default c = sym (ap staged_as (nothing-found 0 _ _ (sym c.find.ensures.place ∙ c.in_default.is)))

pub offset_bounds-t-i : goal.offset_bounds-t-i
offset_bounds-t-i c = omega (arith, (found (goal.at.offset_bounds-t-i c).In-Some).below)

pub bounds-t-i : goal.bounds-t-i
bounds-t-i c = omega (arith, (found (goal.at.bounds-t-i c).In-Some).below)

pub returns : goal.returns
returns c = sym (ap staged_as (found (goal.at.returns c).In-Some).there)
