-- `measured::calls::make_each` meets its contract. The loop's invariant is `TwelveSoFar`: what is left of the rows is a list of calls, and
-- where all are of the twelve, the calls of the rows before i were made and their answers are written. Assumes nothing.
use Prim.Native.Nat.{◌*◌, ◌≤◌}
use mathlib.Core.Path.{ap}
use native.Mathlib.Omega.{arith}
use lib.ListN.{length}
use Rattle.state.specs.declared.answer.Answer.{Answer}
use Rattle.state.specs.declared.answer.Answered.{Answered}
use Rattle.measured.proofs.TwelveLaws.{room-left, one-more-twelve, twelve-begins, twelve-ends}
use Rattle.measured.proofs.calls.make_each.Goals.{In-loop-i}
use Rattle.measured.proofs.calls.make_each.Goals as goal

-- room for two words for each row
room : (c : In-loop-i) → 2 * length c.as_chunks.result.0.now ≤ length c.args.answers.now
room c = omega (arith, c.requires.words_in_bounds, c.as_chunks.ensures.front_len)

pub loop-i-init : goal.loop-i-init
loop-i-init c = twelve-begins _ _ _ c.as_chunks.ensures.front c.requires.bytes_value _ _ _

pub put_answer-requires : goal.put_answer-requires
put_answer-requires c =
    let l = c.loop-i in
    room-left _ _ _ _ _ l.made.state l.store l.answers l.i l.invariant c.loop-i-test.true (room (goal.at.put_answer-requires c).In-loop-i)

pub loop-i-preserved : goal.loop-i-preserved
loop-i-preserved c =
    let l = c.loop-i in
    one-more-twelve _ _ _ _ _ l.made.state l.store l.answers l.i l.invariant c.loop-i-test.true (room (goal.at.loop-i-preserved c).In-loop-i) _ c.from.ensures c.make_row-made.result _ c.make_row-made.auto.store c.make_row-made.ensures _ c.answer_words.ensures _ c.put_answer.ensures

pub returns : goal.returns
returns c =
    let l = c.loop-i in
    twelve-ends _ _ _ c.as_chunks.ensures.front c.requires.bytes_value _ _ _ l.made.state l.store l.answers l.i l.invariant c.loop-i-test.false _ (ap (λ (x : Answered Answer). x.state) c.answer_with-made.ensures)
