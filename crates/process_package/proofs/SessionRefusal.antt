-- 11 to 15 and 21 of an action behind a sound session's list: what the code asks of the columns and of the staged table is what the
-- definition asks. Assumes nothing.
use Prim.Native.Nat.{ℕ, ◌≤◌}
use mathlib.Core.Path.{◌≡◌, sym, ap, ◌∙◌}
use mathlib.Core.Bool.{Bool, true}
use mathlib.Core.List.{List, []}
use mathlib.Core.Option.{Option}
use Rattle.base.specs.Refusals.{first_refusal}
use lib.ListN.{length, take}
use Rattle.base.proofs.Tests.{and_left, and_right}
use Rattle.clusters.specs.declared.table.Table.{Table}
use Rattle.clusters.specs.Table.{table_within, clusters_most}
use Rattle.clusters.specs.View.{view_cluster, view_table}
use Rattle.clusters.proofs.Views.{few-of-within}
use Rattle.actions.specs.declared.action.Action.{Action as ActionStruct}
use Rattle.actions.specs.Action.{Action, action_part, actions_within}
use Rattle.actions.specs.Refusals.{touched, action_refusals}
use Rattle.actions.specs.View.{view_action}
use Rattle.actions.proofs.StagedLaws.{part_of}
use Rattle.actions.proofs.Limits.{apply-all-within}
use Rattle.model.specs.State.{actions}
use Rattle.model.specs.Tables.{staged}
use Rattle.model.specs.Sound.{session_sound}
use Rattle.state.specs.declared.session.Entry.{Entry}
use Rattle.state.specs.declared.session.Session.{Session}
use Rattle.state.specs.View.{entries_most, view_entries, view_session}
use Rattle.staging.specs.Staged.{staged_table}
use Rattle.staging.proofs.StagedViews.{view-staged}
use Rattle.listed_actions.specs.declared.columns.EntryColumns.{EntryColumns}
use Rattle.listed_actions.specs.Listed.{listed_actions, EntryColumnsOf, is_among}
use Rattle.listed_actions.proofs.ColumnTurn.{among-touched}
use Rattle.soundness.proofs.KeptParts.{same-actions}

-- the list has the cluster exactly where its part number is among those of the column
pub touched-among : (columns : EntryColumns) (entries : List Entry) (count part : ℕ) (r : Bool)
    → EntryColumnsOf columns (take count entries) count → r ≡ is_among part (take count columns.parts)
    → r ≡ touched part (listed_actions entries count)
touched-among columns entries count part r of e = e ∙ ap (is_among part) of.parts ∙ among-touched part (take count entries)

module _ (session : Session) (few : session.count ≤ entries_most) (long : length session.beginning.clusters ≡ clusters_most)
    (ok : session_sound (view_session session) ≡ true) where
  -- the staged table is within its limits
  pub staged-few : (t : Table) → t ≡ staged_table session → t.count ≤ clusters_most
  unfolding session_sound staged
  staged-few t e =
      let b = view_table session.beginning in
      let listed = actions (view_entries session) in
      let w = and_right (table_within b) _ ok in
      let within = apply-all-within b [] listed (and_left (table_within b) _ ok) (and_left (actions_within listed) _ w) (and_right (actions_within listed) _ w) in
      rw e (few-of-within (staged_table session) (rw (view-staged session few long ok) within))

  -- told is what the check on the table answers for any list that has the cluster as the code says
  pub told-staged : (a : ActionStruct) (t : Table) (in_list : Bool) (x : Option ℕ) → t ≡ staged_table session
      → in_list ≡ touched a.cluster.part (listed_actions session.entries session.count)
      → ((listed : List Action) → in_list ≡ touched (action_part (view_action a)) listed → x ≡ first_refusal (action_refusals (view_table t) listed (view_action a)))
      → x ≡ first_refusal (action_refusals (staged (view_session session)) (actions (view_entries session)) (view_action a))
  told-staged a t in_list x e touches told =
      let listed = actions (view_entries session) in
      let same : in_list ≡ touched (action_part (view_action a)) listed =
      touches
      ∙ ap (touched a.cluster.part) (sym (same-actions session.beginning session.entries session.count few))
      ∙ ap (λ (part : ℕ). touched part listed) (sym (part_of a.change (view_cluster a.cluster))) in
      told listed same ∙ ap (λ t. first_refusal (action_refusals t listed (view_action a))) (ap view_table e ∙ view-staged session few long ok)
