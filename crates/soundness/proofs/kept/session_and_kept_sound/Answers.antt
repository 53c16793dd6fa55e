-- `soundness::kept::session_and_kept_sound` meets its contract: the kept values but for their action first, then the table, and the listed
-- actions, with the kept one of Processing behind them, where there is any. Assumes nothing.
use native.Mathlib.Omega.{arith}
use mathlib.Core.Path.{◌≡◌, ap, ◌∙◌}
use mathlib.Core.Bool.{true}
use Prim.Native.Nat.{ℕ, ◌+◌, ◌≤◌}
use Rattle.base.proofs.Ladder.{told-no, told-yes}
use Rattle.clusters.specs.Table.{table_within}
use Rattle.clusters.specs.View.{view_table}
use Rattle.state.proofs.Tests.{same-phase}
use Rattle.state.specs.View.{view_packages, view_phase, entries_most}
use Rattle.listed_actions.specs.Listed.{listed_actions}
use Rattle.soundness.specs.Parts.{kept_values_sound, listed_with_kept}
use Rattle.soundness.proofs.KeptParts.{values-off, table-off, nothing-listed, actions-decide}
use Rattle.soundness.proofs.kept.session_and_kept_sound.Goals.{After-one_if, Else-not-table_within, Else-not-values_sound, Start}
use Rattle.soundness.proofs.kept.session_and_kept_sound.Goals as goal

few : (c : Start) → c.args.count ≤ entries_most
few c = omega (arith, c.requires.2)

values-right : (c : Else-not-values_sound) → (kept_values_sound c.eq-processing.result (view_packages c.args.t) c.args.w ≡ true)
values-right c = told-yes _ _ c.values_sound.ensures c.if-not-values_sound.false-raw

fits : (c : Else-not-table_within) → table_within (view_table c.args.beginning) ≡ true
fits c = told-yes _ _ c.table_within.ensures c.if-not-table_within.false-raw

-- there is room for as many as are checked
room : (c : After-one_if) → (listed_with_kept c.eq-processing.result c.args.count ≤ entries_most)
room c = rw (c.eq-processing.ensures ∙ same-phase c.args.phase) c.requires.2

-- as many are checked as the code counts
as_many : (c : After-one_if) → (c.args.count + c.one_if.result ≡ listed_with_kept c.eq-processing.result c.args.count)
as_many c = ap (λ (n : ℕ). c.args.count + n) c.one_if.ensures

pub returns-then-not-values_sound : goal.returns-then-not-values_sound
returns-then-not-values_sound c =
    values-off c.args.beginning c.args.entries c.args.count (few (goal.at.returns-then-not-values_sound c).Start) (view_phase c.args.phase) (view_packages c.args.t) c.args.w
    _ (c.eq-processing.ensures ∙ same-phase c.args.phase) (told-no _ _ c.values_sound.ensures c.if-not-values_sound.true-raw)

pub returns-then-not-table_within : goal.returns-then-not-table_within
returns-then-not-table_within c =
    table-off c.args.beginning c.args.entries c.args.count (few (goal.at.returns-then-not-table_within c).Start) (view_phase c.args.phase) (view_packages c.args.t) c.args.w
    _ (c.eq-processing.ensures ∙ same-phase c.args.phase) (values-right (goal.at.returns-then-not-table_within c).Else-not-values_sound) (told-no _ _ c.table_within.ensures c.if-not-table_within.true-raw)

pub overflow_add-listed : goal.overflow_add-listed
overflow_add-listed c = omega (arith, room (goal.at.overflow_add-listed c).After-one_if, as_many (goal.at.overflow_add-listed c).After-one_if)

pub returns-then-listed-lt1 : goal.returns-then-listed-lt1
returns-then-listed-lt1 c =
    nothing-listed c.args.beginning c.args.entries c.args.count (few (goal.at.returns-then-listed-lt1 c).Start) (view_phase c.args.phase) (view_packages c.args.t) c.args.w
    _ (c.eq-processing.ensures ∙ same-phase c.args.phase) (values-right (goal.at.returns-then-listed-lt1 c).Else-not-values_sound) (fits (goal.at.returns-then-listed-lt1 c).Else-not-table_within) (omega (arith, as_many (goal.at.returns-then-listed-lt1 c).After-one_if, c.if-listed-lt1.true))

pub with_kept-more-requires : goal.with_kept-more-requires
with_kept-more-requires c = room (goal.at.with_kept-more-requires c).After-one_if

pub actions_sound-requires : goal.actions_sound-requires
actions_sound-requires c =
    (fits (goal.at.actions_sound-requires c).Else-not-table_within, omega (arith, room (goal.at.actions_sound-requires c).After-one_if, as_many (goal.at.actions_sound-requires c).After-one_if))

pub returns : goal.returns
returns c =
    actions-decide c.args.beginning c.args.entries c.args.count (few (goal.at.returns c).Start) (view_phase c.args.phase) (view_packages c.args.t) c.args.w
    _ (c.eq-processing.ensures ∙ same-phase c.args.phase) (values-right (goal.at.returns c).Else-not-values_sound) (fits (goal.at.returns c).Else-not-table_within) _
    (ap (listed_actions c.with_kept-more.result) (as_many (goal.at.returns c).After-one_if) ∙ c.with_kept-more.ensures) _ c.actions_sound.ensures
