-- `process_package::process_on_sound` meets its contract: the ways out of a call, with what the place of the package and the checks that
-- passed say. Assumes nothing.
use borrow.Author.Rules.{rules}
use native.Mathlib.Omega.{arith}
use mathlib.Core.Path.{◌≡◌, refl, ◌∙◌}
use mathlib.Core.Bool.{false}
use lib.ListN.{length}
use Rattle.std.proofs.lemmas.Result.{IfOk-at_ok}
use Rattle.base.proofs.Counted.{unmapped}
use Rattle.base.proofs.Ladder.{told}
use Rattle.model.specs.State.{is_processing}
use Rattle.model.specs.Sound.{packages_most}
use Rattle.model.specs.Step.{own_refusals}
use Rattle.state.specs.View.{view_phase}
use Rattle.state.proofs.Tests.{same-phase}
use Rattle.state.proofs.Ways.{ways, refuse-checked, accept, told-own, told-passed}
use Rattle.soundness.proofs.SoundSession.{session-fits, session-sound}
use Rattle.areas.proofs.FoundPackage.{count_fits, FoundAt, found_at, place-named, refuse-named, pass-named}
use Rattle.process_package.proofs.ProcessLaws.{process-own, begun-at}
use Rattle.process_package.proofs.process_on_sound.Goals.{Else-eq, In-Ok, Start}
use Rattle.process_package.proofs.process_on_sound.Goals as goal

long : (c : Start) → length c.args.s.transfers.packages ≡ packages_most
long c = search (rules, unmapped)

found : (c : In-Ok) → (FoundAt c.args.s c.args.store.now c.args.id c.in-Ok.i)
found c =
    found_at _ _ _ _ _ c.requires (long c.before.before.before.before.before.before.before.before.before) refl (place-named _ _ _ _ c.named_package.ensures.place c.in-Ok.is)

-- the phase is another than Processing
free : (c : Else-eq) → is_processing (view_phase c.args.s.phase) ≡ false
free c = told _ _ _ (c.eq.ensures ∙ same-phase c.args.s.phase) c.if-eq.false

pub returns-then-eq : goal.returns-then-eq
returns-then-eq c = search (ways, told, c.eq.ensures ∙ same-phase c.args.s.phase)

pub named_package-requires : goal.named_package-requires
named_package-requires c = search count_fits

pub returns-in-Err : goal.returns-in-Err
unfolding own_refusals
returns-in-Err c =
    refuse-named _ _ _ _ _ _ (free (goal.at.returns-in-Err c).Else-eq) c.named_package.ensures.refused _ _ _ refl c.in-Err.is c.refuse-in-Err.ensures

pub offset_bounds-t-i : goal.offset_bounds-t-i
offset_bounds-t-i c = let h = found (goal.at.offset_bounds-t-i c).In-Ok in search rules

pub bounds-t-i : goal.bounds-t-i
bounds-t-i c = let h = found (goal.at.bounds-t-i c).In-Ok in omega arith

pub check_package-requires : goal.check_package-requires
check_package-requires c =
    ((found (goal.at.check_package-requires c).In-Ok).inside, (session-fits c.args.s c.args.store.now c.requires, session-sound c.args.s c.args.store.now c.requires))

pub begin_processing-requires : goal.begin_processing-requires
begin_processing-requires c = let h = found (goal.at.begin_processing-requires c).In-Ok in search rules

pub returns-in-Ok-check_package : goal.returns-in-Ok-check_package
returns-in-Ok-check_package c =
    let f = found (goal.at.returns-in-Ok-check_package c).In-Ok in
    pass-named _ _ _ _ _ _ (free (goal.at.returns-in-Ok-check_package c).Else-eq) c.named_package.ensures.refused _ _ c.in-Ok.is
    (accept _ _ _ _ _ (told-passed _ _ _ c.check_package.ensures.refused (process-own _ _ _ _ f) _ c.in-Ok-check_package.is)
    (begun-at _ _ _ _ f _ _ (IfOk-at_ok _ c.in-Ok-check_package.is c.check_package.ensures.work) c.begin_processing.ensures))

pub returns-in-Err-check_package : goal.returns-in-Err-check_package
returns-in-Err-check_package c =
    let f = found (goal.at.returns-in-Err-check_package c).In-Ok in
    pass-named _ _ _ _ _ _ (free (goal.at.returns-in-Err-check_package c).Else-eq) c.named_package.ensures.refused _ _ c.in-Ok.is
    (refuse-checked _ _ _ c.check_package.result _ _ _ (told-own _ _ _ c.check_package.ensures.refused (process-own _ _ _ _ f)) c.in-Err-check_package.is c.refuse-in-Err-check_package.ensures)
