-- The staged and the running table as the model's: of a sound session, whose actions pass 11 to 15 and 21 in turn, each action is applied
-- to a table within its limits, and so it is applied to the list that the table stands for. Assumes nothing.
use Prim.Native.Nat.{◌≤◌}
use mathlib.Core.Path.{◌≡◌, refl, sym, ap, ◌∙◌}
use mathlib.Core.Bool.{true}
use mathlib.Core.List.{List, [], ◌∷◌, ◌++◌, map}
use lib.ListN.{length, take}
use Rattle.base.proofs.Tests.{and_left, and_right}
use Rattle.clusters.specs.declared.table.Table.{Table}
use Rattle.clusters.specs.Table as plain
use Rattle.clusters.specs.Table.{table_within, clusters_most}
use Rattle.clusters.specs.View.{view_table}
use Rattle.actions.specs.Exact as exact
use Rattle.actions.specs.Action.{Action, apply_all, action_within, actions_within}
use Rattle.actions.specs.Refusals.{passes, pass_in_turn}
use Rattle.actions.specs.View.{view_action}
use Rattle.actions.proofs.Views.{view-apply, length-apply}
use Rattle.actions.proofs.Limits.{apply-within}
use Rattle.model.specs.State as model
use Rattle.model.specs.Tables as tables
use Rattle.model.specs.Sound.{session_sound}
use Rattle.state.specs.declared.session.Entry.{Entry}
use Rattle.state.specs.declared.session.Session.{Session}
use Rattle.state.specs.declared.phase.Phase.{Phase}
use Rattle.state.specs.declared.phase.Phase.TheVariants.{Idle, Ready, Processing, Activating, Verifying, Activated, RollingBack, RolledBack, CleaningUp}
use Rattle.state.specs.declared.phase.CleanUpOrigin.TheVariants as origins
use Rattle.state.specs.View.{view_phase, entries_most, view_entry, view_session}
use Rattle.state.proofs.Views.{entries-few}
use Rattle.staging.specs.Staged.{staged_from, staged_table, running_table}

-- the actions of entries
abbrev listed_actions : List Entry → List Action
listed_actions entries = model.actions (map view_entry entries)

view-staged-from : (table : Table) (listed : List Action) (entries : List Entry) → length table.clusters ≡ clusters_most
    → table_within (view_table table) ≡ true → actions_within (listed_actions entries) ≡ true
    → pass_in_turn (view_table table) listed (listed_actions entries) ≡ true
    → view_table (staged_from table entries) ≡ apply_all (view_table table) (listed_actions entries)
unfolding staged_from apply_all actions_within pass_in_turn
view-staged-from table listed [] long h w p = refl
view-staged-from table listed (e ∷ entries) long h w p =
    let a = view_action e.action in
    let t = view_table table in
    let passed = and_left (passes t listed a) _ p in
    let within = and_left (action_within a) _ w in
    let next = exact.apply e.action table in
    let same = view-apply table listed e.action long h passed in
    let rest : pass_in_turn (view_table next) (listed ++ a ∷ []) (listed_actions entries) ≡ true = rw same (and_right (passes t listed a) _ p) in
    view-staged-from next (listed ++ a ∷ []) entries (length-apply table long e.action)
    (rw same (apply-within t listed a h within passed)) (and_right (action_within a) _ w) rest
    ∙ ap (λ (u : plain.Table). apply_all u (listed_actions entries)) same

module _ (session : Session) (few : session.count ≤ entries_most) (long : length session.beginning.clusters ≡ clusters_most)
    (ok : session_sound (view_session session) ≡ true) where
  pub view-staged : view_table (staged_table session) ≡ tables.staged (view_session session)
  unfolding staged_table tables.staged session_sound
  view-staged =
      let e = entries-few session few in
      let b = view_table session.beginning in
      let w = and_right (table_within b) _ ok in
      let acts = model.actions (view_session session).listed in
      view-staged-from session.beginning [] (take session.count session.entries) long (and_left (table_within b) _ ok)
      (rw e at (and_left (actions_within acts) _ w)) (rw e at (and_right (actions_within acts) _ w))
      ∙ ap (λ (l : List model.Entry). apply_all b (model.actions l)) (sym e)

  pub view-running : (phase : Phase) → view_table (running_table phase session) ≡ tables.running_in (view_phase phase) (view_session session)
  unfolding running_table tables.running_in
  view-running Idle = refl
  view-running Ready = refl
  view-running Processing = refl
  view-running Activating = refl
  view-running Verifying = view-staged
  view-running Activated = view-staged
  view-running (RollingBack origin) = view-staged
  view-running RolledBack = refl
  view-running (CleaningUp origins.Ready) = refl
  view-running (CleaningUp origins.Activated) = view-staged
  view-running (CleaningUp origins.RolledBack) = refl
