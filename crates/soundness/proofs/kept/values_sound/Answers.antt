-- `soundness::kept::values_sound` meets its contract: what the one test or the other answers. Assumes nothing.
use borrow.Author.Tests.{not-true, not-false}
use mathlib.Core.Path.{ap, ◌∙◌}
use Rattle.base.proofs.Ladder.{take-first, take_second}
use Rattle.soundness.specs.Parts.{work_numbers_sound}
use Rattle.soundness.proofs.kept.values_sound.Goals as goal

pub returns-then-not-processing : goal.returns-then-not-processing
returns-then-not-processing c =
    let p = c.args.processing in
    take_second p _ _ _ (not-true p c.if-not-processing.true-raw) c.is_cleared_work.ensures

pub returns : goal.returns
returns c =
    let p = c.args.processing in
    take-first p _ _ _ (not-false p c.if-not-processing.false-raw)
    (c.numbers_sound.ensures ∙ ap (work_numbers_sound c.args.w) c.processing_size.ensures)
