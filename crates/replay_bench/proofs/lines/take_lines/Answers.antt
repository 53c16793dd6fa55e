-- `replay_bench::lines::take_lines` meets its contract. The invariant: the buffers keep their lengths, and what all bytes make of the start is what
-- those that are left make of what is held now. The measure is the bytes left. Assumes nothing.
use native.Mathlib.Omega.{arith}
use borrow.Author.Rules.{rules}
use borrow.Author.Tests.{not-false}
use Rattle.script_calls.proofs.LentLaws.{part-long}
use Rattle.replay_bench.proofs.BenchLaws.{part_room}
use Rattle.replay_bench.proofs.InputLaws.{none-taken, stopped-before, all-taken, rest-taken, line_taken}
use Rattle.replay_bench.proofs.lines.take_lines.Goals as goal

pub loop-at-init : goal.loop-at-init
loop-at-init c = (search rules, search rules, search rules, search none-taken)

pub returns-then-not-gathering : goal.returns-then-not-gathering
returns-then-not-gathering c = search stopped-before

pub gather_part-part-requires : goal.gather_part-part-requires
gather_part-part-requires c = (search rules, search not-false)

pub returns-then-not-part : goal.returns-then-not-part
returns-then-not-part c = rest-taken _ _ _ _ _ _ _ _ _ _ c.loop-at.invariant.1 c.loop-at-test.true c.loop-at.invariant.3 c.gather_part-part.ensures.2 _ c.bench_with-then-not-part.ensures c.if-not-part.true

pub slice_bounds-play-end-in-loop-at : goal.slice_bounds-play-end-in-loop-at
slice_bounds-play-end-in-loop-at c = search part-long

pub play-played-requires : goal.play-played-requires
play-played-requires c =
    part_room _ _ _ c.ended_line-ended.ensures.1 (omega (arith, c.requires, c.gather_part-part.auto.line, c.loop-at.invariant.1, c.loop-at.invariant.2))

pub slice_bounds-show_line_answer-end-in-loop-at : goal.slice_bounds-show_line_answer-end-in-loop-at
slice_bounds-show_line_answer-end-in-loop-at c = search part-long

pub loop-at-smaller : goal.loop-at-smaller
loop-at-smaller c = omega (arith, c.gather_part-part.ensures.0, c.gather_part-part.ensures.1)

pub loop-at-preserved : goal.loop-at-preserved
loop-at-preserved c =
    (omega (arith, c.play-played.auto.bytes, c.loop-at.invariant.0), omega (arith, c.gather_part-part.auto.line, c.loop-at.invariant.1), omega (arith, c.play-played.auto.buffer, c.show_line_answer-shown.auto.buffer, c.loop-at.invariant.2), line_taken _ _ _ _ _ _ _ _ _ _ c.loop-at.invariant.1 c.loop-at-test.true c.loop-at.invariant.3 c.gather_part-part.ensures.2 _ _ _ _ _ c.if-not-part.false c.ended_line-ended.ensures.2 c.play-played.ensures c.new_line-gathering.ensures)

pub returns : goal.returns
returns c = search all-taken
