-- `soundness::session::actions_sound` meets its contract: the limits first, then the listed actions in turn on the table's columns.
-- Assumes nothing.
use borrow.Author.Tests.{leb-true}
use mathlib.Core.Path.{◌≡◌, sym, ◌∙◌}
use mathlib.Core.Bool.{true}
use Prim.Native.Nat.{◌≤◌}
use lib.Dec.{leb}
use lib.ListN.{length}
use Rattle.base.proofs.Tests.{and_left}
use Rattle.base.proofs.Ladder.{and-stop, and-on, told-no, told-yes}
use Rattle.clusters.specs.declared.table.Table.{Table}
use Rattle.clusters.specs.Table.{table_within, clusters_most}
use Rattle.clusters.specs.View.{view_table}
use Rattle.clusters.proofs.Along.{table-count}
use Rattle.actions.specs.Action.{actions_within}
use Rattle.listed_actions.specs.Listed.{listed_actions}
use Rattle.soundness.proofs.session.actions_sound.Goals.{Else-not-actions_within}
use Rattle.soundness.proofs.session.actions_sound.Goals as goal

few : (t : Table) → table_within (view_table t) ≡ true → t.count ≤ clusters_most
unfolding table_within
few t h = leb-true _ _ (sym (table-count t) ∙ and_left (leb (length (view_table t)) clusters_most) _ h)

actions-told : (c : Else-not-actions_within) → (actions_within (listed_actions c.args.entries c.args.count) ≡ true)
actions-told c = told-yes _ _ c.actions_within.ensures c.if-not-actions_within.false-raw

pub returns-then-not-actions_within : goal.returns-then-not-actions_within
returns-then-not-actions_within c =
    and-stop (actions_within (listed_actions c.args.entries c.args.count)) _ (told-no _ _ c.actions_within.ensures c.if-not-actions_within.true-raw)

pub of-columns-requires : goal.of-columns-requires
of-columns-requires c = few c.args.beginning c.requires.0

pub returns : goal.returns
returns c =
    and-on (actions_within (listed_actions c.args.entries c.args.count)) _ _ (actions-told (goal.at.returns c).Else-not-actions_within)
    (c.pass_in_turn.ensures (view_table c.args.beginning) c.of-columns.ensures c.requires.0 (actions-told (goal.at.returns c).Else-not-actions_within))
