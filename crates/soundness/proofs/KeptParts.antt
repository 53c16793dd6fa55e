-- The session and the kept values in the order in which the code decides them. In Processing the kept action is one more behind the list,
-- and cleared values are found by their part number 0; outside it they are looked at first. Assumes nothing.
use Prim.Native.Nat.{ℕ, ◌≤◌, ◌<◌}
use mathlib.Core.Path.{◌≡◌, refl, sym, ap, ap₂, ◌∙◌}
use mathlib.Core.Bool.{Bool, true, false, ◌&&◌, and_comm, false≢true}
use mathlib.Core.List.{List, [], ◌∷◌, ◌++◌, map}
use native.Mathlib.Omega.{arith}
use lib.Dec.{eqb}
use lib.ListN.{take}
use borrow.Author.Tests.{eqb-true}
use Rattle.base.proofs.Counted.{counted-few}
use Rattle.base.proofs.Ladder.{and-stop, and-on}
use Rattle.base.proofs.Tests.{and_left, and_right, bool_cases}
use Rattle.clusters.specs.declared.cluster.Cluster.{Cluster}
use Rattle.clusters.specs.declared.table.Table.{Table}
use Rattle.clusters.specs.Cluster.{part_within, cluster_within}
use Rattle.clusters.specs.Table.{Table as PlainTable, table_within}
use Rattle.clusters.specs.View.{view_cluster, view_table}
use Rattle.clusters.proofs.ColumnLaws.{map-twice}
use Rattle.actions.specs.declared.action.Change.{Change}
use Rattle.actions.specs.declared.action.Change.TheVariants.{Install, Update, Remove}
use Rattle.actions.specs.Action.{Action, action_within, actions_within, apply_all}
use Rattle.actions.specs.Refusals.{passes, pass_in_turn}
use Rattle.actions.specs.View.{action_of, view_action}
use Rattle.actions.proofs.InTurn.{pass-in-turn-last, actions-within-last}
use Rattle.model.specs.State as model
use Rattle.model.specs.State.{Package, Phase, is_processing, actions}
use Rattle.model.specs.Areas.{package_of, processing_id}
use Rattle.model.specs.Tables.{staged}
use Rattle.model.specs.Sound.{session_sound, work_sound, kept_sound}
use Rattle.state.specs.declared.session.Entry.{Entry}
use Rattle.state.specs.declared.work.Work.{Work}
use Rattle.state.specs.View.{entries_most, view_entry, cleared_entry, is_install, is_cleared_work, kept_work, view_work}
use Rattle.listed_actions.specs.Listed.{listed_actions}
use Rattle.soundness.specs.Parts.{counted_entries, counted_session, work_numbers_sound, kept_values_sound, listed_with_kept, actions_with_kept, session_part_sound, actions_sound_on}
use Rattle.soundness.proofs.Order.{kept-action-last}

-- ---- cleared values have no action within the limits

no_part : (change : Change) (c : Cluster) → is_install change ≡ true → eqb c.part 0 ≡ true → action_within (action_of change (view_cluster c)) ≡ false
unfolding action_within cluster_within part_within
no_part Install c i e = rw (eqb-true c.part 0 e)
no_part Update c i e = absurd (false≢true i)
no_part Remove c i e = absurd (false≢true i)

pub cleared-not-within : (w : Work) → is_cleared_work w ≡ true → action_within (view_action w.action) ≡ false
unfolding is_cleared_work
cleared-not-within w h =
    let change = is_install w.action.change in
    let part = eqb w.action.cluster.part 0 in
    let first = and_left (change && (part && _)) _ h in
    no_part w.action.change w.action.cluster (and_left change _ first) (and_left part _ (and_right change _ first))

module _ (beginning : Table) (entries : List Entry) (count : ℕ) (few : count ≤ entries_most) where
  abbrev table : PlainTable
  table = view_table beginning

  abbrev session : model.Session
  session = counted_session beginning entries count

  pub same-actions : actions (counted_entries entries count) ≡ listed_actions entries count
  same-actions =
      ap (λ (l : List Entry). actions (map view_entry l)) (counted-few entries_most count cleared_entry entries few)
      ∙ map-twice view_entry (λ e. e.action) (take count entries)

  session-is : session_sound session ≡ table_within table && actions_sound_on table (listed_actions entries count)
  unfolding session_sound
  session-is = ap (λ (acts : List Action). table_within table && actions_sound_on table acts) same-actions

  module _ (phase : Phase) (ps : List Package) (w : Work) where
    abbrev whole : Bool
    whole = session_part_sound phase session ps (view_work w)

    -- ---- outside Processing

    kept-outside : is_processing phase ≡ false → kept_sound phase session ps (view_work w) ≡ is_cleared_work w
    unfolding kept_sound
    kept-outside out = bool_cases (is_cleared_work w) (λ e. rw (e, out)) λ e. rw (e, out)

    outside : is_processing phase ≡ false → whole ≡ is_cleared_work w && (table_within table && actions_sound_on table (listed_actions entries count))
    outside out =
        ap (λ (b : Bool). session_sound session && b) (kept-outside out)
        ∙ and_comm (session_sound session) (is_cleared_work w)
        ∙ ap (λ (b : Bool). is_cleared_work w && b) session-is

    -- ---- in Processing

    abbrev size : ℕ
    size = (package_of (processing_id ps) ps).size

    abbrev kept : Action
    kept = view_action w.action

    work-is : work_sound session ps (kept_work w)
        ≡ action_within kept && (passes (apply_all table (listed_actions entries count)) (listed_actions entries count) kept && work_numbers_sound w size)
    unfolding work_sound staged
    work-is =
        ap (λ (acts : List Action). action_within kept && (passes (apply_all table acts) acts kept && work_numbers_sound w size)) same-actions

    cleared-work : is_cleared_work w ≡ true → work_sound session ps (kept_work w) ≡ false
    cleared-work h = work-is ∙ rw (cleared-not-within w h)

    kept_in : is_processing phase ≡ true → kept_sound phase session ps (view_work w) ≡ work_sound session ps (kept_work w)
    unfolding kept_sound
    kept_in in-it = bool_cases (is_cleared_work w) (λ e. rw (e, in-it, cleared-work e)) λ e. rw (e, in-it)

    inside : is_processing phase ≡ true
        → whole ≡ work_numbers_sound w size && (table_within table && actions_sound_on table (listed_actions entries count ++ kept ∷ []))
    inside in-it =
        let acts = listed_actions entries count in
        ap₂ ◌&&◌ session-is (kept_in in-it ∙ work-is)
        ∙ kept-action-last (table_within table) (actions_within acts) (pass_in_turn table [] acts) (action_within kept) (passes (apply_all table acts) acts kept) (work_numbers_sound w size)
        ∙ ap₂ (λ (a b : Bool). work_numbers_sound w size && (table_within table && (a && b))) (sym (actions-within-last acts kept)) (sym (pass-in-turn-last table [] acts kept))

    -- ---- both together, as the code is told which it is

    abbrev checked : Bool → List Action
    checked processing = actions_with_kept processing entries count w.action

    decided : (processing : Bool) → processing ≡ is_processing phase
        → whole ≡ kept_values_sound processing ps w && (table_within table && actions_sound_on table (checked processing))
    decided true told = inside (sym told)
    decided false told = outside (sym told)

    none-checked : (processing : Bool) → listed_with_kept processing count < 1 → checked processing ≡ []
    none-checked true h = absurd (omega arith)
    none-checked false h = let none : count ≡ 0 = omega arith in rw none

    module _ (processing : Bool) (told : processing ≡ is_processing phase) where
      abbrev values : Bool
      values = kept_values_sound processing ps w

      pub values-off : values ≡ false → false ≡ whole
      values-off h = and-stop values _ h ∙ sym (decided processing told)

      module _ (right : values ≡ true) where
        pub table-off : table_within table ≡ false → false ≡ whole
        table-off h = and-on values _ _ right (and-stop (table_within table) _ h) ∙ sym (decided processing told)

        pub actions-decide : table_within table ≡ true → (acts : List Action) → acts ≡ checked processing
            → (r : Bool) → r ≡ actions_sound_on table acts → r ≡ whole
        actions-decide fits acts same r found =
            and-on values _ r right (and-on (table_within table) _ r fits (found ∙ ap (actions_sound_on table) same)) ∙ sym (decided processing told)

        pub nothing-listed : table_within table ≡ true → listed_with_kept processing count < 1 → true ≡ whole
        unfolding actions_within pass_in_turn
        nothing-listed fits h = actions-decide fits [] (sym (none-checked processing h)) true refl
