-- `actions::refusals::action_refusal` meets its contract: 11 by the list, 12 to 15 and 21 by what the table has under the part number. Assumes nothing.
use borrow.Author.Rules.{rules}
use mathlib.Core.Path.{◌≡◌, refl, sym, ap, ◌∙◌}
use lib.ListN.{length}
use Rattle.base.specs.Refusals.{number_or_zero}
use Rattle.base.proofs.Counted.{unmapped}
use Rattle.base.proofs.RefusalNumbers.{numbers}
use Rattle.clusters.specs.View.{view_cluster}
use Rattle.clusters.proofs.Along.{table-length}
use Rattle.actions.specs.Refusals.{action_refusals, action_refusal}
use Rattle.actions.proofs.StagedLaws.{part_of, told-untouched}
use Rattle.actions.proofs.refusals.action_refusal.Goals.{Start}
use Rattle.actions.proofs.refusals.action_refusal.Goals as goal

long : (c : Start) → length c.args.t.clusters ≡ 64
long c = search (rules, unmapped)

pub returns-then-in_list-clause-refused : goal.returns-then-in_list-clause-refused
unfolding action_refusals
returns-then-in_list-clause-refused c listed e = search numbers

pub returns-clause-refused : goal.returns-clause-refused
returns-clause-refused c listed e =
    let a = c.args.a in
    told-untouched _ listed _ _ _ _ (sym e ∙ c.if-in_list.false) (sym (part_of a.change (view_cluster a.cluster))) (sym (table-length c.args.t c.requires (long (goal.at.returns-clause-refused c).Start)))
    (c.staged_refusal.ensures _ (view_cluster a.cluster) c.staged_in-staged.ensures refl)

pub returns-then-in_list-clause-number : goal.returns-then-in_list-clause-number
unfolding action_refusal
returns-then-in_list-clause-number c listed e = ap number_or_zero (returns-then-in_list-clause-refused c listed e)

pub returns-clause-number : goal.returns-clause-number
unfolding action_refusal
returns-clause-number c listed e = ap number_or_zero (returns-clause-refused c listed e)
