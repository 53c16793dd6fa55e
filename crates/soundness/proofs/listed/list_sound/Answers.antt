-- `soundness::listed::list_sound` meets its contract: the number of entries first, then the manager's state, then each package
-- where there is an entry. Assumes nothing.
use borrow.Author.Rules.{rules}
use mathlib.Core.Path.{◌≡◌, sym, ap, ◌∙◌}
use mathlib.Core.Bool.{true, cond, ◌&&◌}
use Prim.Native.Nat.{◌≤◌}
use native.Mathlib.Omega.{arith}
use lib.Dec.{eqb}
use lib.ListN.{length}
use Rattle.base.proofs.Counted.{unmapped}
use Rattle.base.proofs.Ladder.{told-no, told-yes}
use Rattle.model.specs.State.{is_processing}
use Rattle.model.specs.Areas.{is_being_processed, is_processed, count_in}
use Rattle.model.specs.Sound.{list_fits}
use Rattle.state.specs.View.{view_packages, view_phase, entries_most}
use Rattle.soundness.specs.declared.counts.Counts.{Counts}
use Rattle.soundness.specs.Parts.{counted_entries}
use Rattle.soundness.proofs.ListParts.{room-for-all, counted-ids, counted-length, other-count, phase-unfit, phase-fit, none-listed}
use Rattle.soundness.proofs.listed.list_sound.Goals.{After-count_states-counts, After-phase_fits, Else-count-counts, Else-not-phase_fits, Start}
use Rattle.soundness.proofs.listed.list_sound.Goals as goal

long : (c : Start) → length c.args.entries ≡ entries_most
long c = search (rules, unmapped)

processed-told : (c : After-count_states-counts) → c.count_states-counts.result.processed ≡ count_in is_processed (view_packages c.args.t)
processed-told c = ap (λ (counts : Counts). counts.processed) c.count_states-counts.ensures

many : (c : Else-count-counts) → c.args.count ≡ count_in is_processed (view_packages c.args.t)
many c = c.if-count-counts.false ∙ processed-told c.before.before

phase-told : (c : After-phase_fits) → (let listed = counted_entries c.args.entries c.args.count in
    c.phase_fits.result ≡ eqb (count_in is_being_processed (view_packages c.args.t)) (cond (is_processing (view_phase c.args.phase)) 1 0) && list_fits (view_phase c.args.phase) listed)
phase-told c =
    let listed = counted_entries c.args.entries c.args.count in
    c.phase_fits.ensures listed (counted-length c.args.entries c.args.count (long c.before.before.before.before))
    ∙ ap (λ (counts : Counts). eqb counts.processing (cond (is_processing (view_phase c.args.phase)) 1 0) && list_fits (view_phase c.args.phase) listed) c.count_states-counts.ensures

few : (c : Else-not-phase_fits) → c.args.count ≤ entries_most
few c =
    omega (arith, many c.before.before, room-for-all c.args.t c.requires)

phase-right : (c : Else-not-phase_fits) → (let listed = counted_entries c.args.entries c.args.count in
    eqb (count_in is_being_processed (view_packages c.args.t)) (cond (is_processing (view_phase c.args.phase)) 1 0) && list_fits (view_phase c.args.phase) listed ≡ true)
phase-right c = told-yes _ _ (phase-told c.before) c.if-not-phase_fits.false-raw

pub returns-then-count-counts : goal.returns-then-count-counts
returns-then-count-counts c =
    other-count c.args.entries c.args.count (long (goal.at.returns-then-count-counts c).Start) (view_phase c.args.phase) (view_packages c.args.t)
    λ e. c.if-count-counts.true (e ∙ sym (processed-told (goal.at.returns-then-count-counts c).After-count_states-counts))

pub returns-then-not-phase_fits : goal.returns-then-not-phase_fits
returns-then-not-phase_fits c =
    phase-unfit c.args.entries c.args.count (long (goal.at.returns-then-not-phase_fits c).Start) (view_phase c.args.phase) (view_packages c.args.t)
    (many (goal.at.returns-then-not-phase_fits c).Else-count-counts) (told-no _ _ (phase-told (goal.at.returns-then-not-phase_fits c).After-phase_fits) c.if-not-phase_fits.true-raw)

pub returns-then-count-lt1 : goal.returns-then-count-lt1
returns-then-count-lt1 c =
    none-listed c.args.entries c.args.count (long (goal.at.returns-then-count-lt1 c).Start) (view_phase c.args.phase) (view_packages c.args.t)
    c.if-count-lt1.true (many (goal.at.returns-then-count-lt1 c).Else-count-counts) (phase-right (goal.at.returns-then-count-lt1 c).Else-not-phase_fits)

pub entry_columns-requires : goal.entry_columns-requires
entry_columns-requires c = few (goal.at.entry_columns-requires c).Else-not-phase_fits

pub processed_as_listed-requires : goal.processed_as_listed-requires
processed_as_listed-requires c =
    (c.requires, few (goal.at.processed_as_listed-requires c).Else-not-phase_fits)

pub returns : goal.returns
returns c =
    phase-fit c.args.entries c.args.count (long (goal.at.returns c).Start) (view_phase c.args.phase) (view_packages c.args.t)
    (many (goal.at.returns c).Else-count-counts) (phase-right (goal.at.returns c).Else-not-phase_fits) _
    (c.processed_as_listed.ensures (counted_entries c.args.entries c.args.count) (c.entry_columns.ensures.ids ∙ counted-ids c.args.entries c.args.count (few (goal.at.returns c).Else-not-phase_fits)))
