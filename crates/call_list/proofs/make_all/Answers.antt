-- `call_list::make_all` meets its contract. The loop's invariant is `MadeSoFar`: the calls of the rows before i were made, their answers are
-- written, what is left of the rows is a list of calls, and the state is sound for the store exactly if it was before the first call, which
-- was checked. Assumes nothing.
use Prim.Native.Nat.{◌*◌, ◌≤◌}
use native.Mathlib.Omega.{arith}
use lib.ListN.{length}
use Rattle.call_list.proofs.ListLaws.{sound-still, room-left, one_more, made-begins, made-ends}
use Rattle.call_list.proofs.make_all.Goals.{In-loop-i}
use Rattle.call_list.proofs.make_all.Goals as goal

-- room for two words for each row
room : (c : In-loop-i) → 2 * length c.as_chunks.result.0.now ≤ length c.args.answers.now
room c = omega (arith, c.requires.words_in_bounds, c.as_chunks.ensures.front_len)

pub loop-i-init : goal.loop-i-init
loop-i-init c = made-begins _ _ _ c.as_chunks.ensures.front c.requires.bytes_value _ _ _

pub make_call-made-requires : goal.make_call-made-requires
make_call-made-requires c =
    let l = c.loop-i in
    sound-still _ _ _ _ _ l.state l.store l.answers l.i l.invariant _ c.sound-is_sound.ensures

pub put_answer-requires : goal.put_answer-requires
put_answer-requires c =
    let l = c.loop-i in
    room-left _ _ _ _ _ l.state l.store l.answers l.i l.invariant c.loop-i-test.true (room (goal.at.put_answer-requires c).In-loop-i)

pub loop-i-preserved : goal.loop-i-preserved
loop-i-preserved c =
    let l = c.loop-i in
    one_more _ _ _ _ _ l.state l.store l.answers l.i l.invariant c.loop-i-test.true (room (goal.at.loop-i-preserved c).In-loop-i) _ c.from.ensures c.make_call-made.result _ c.make_call-made.auto.store c.make_call-made.ensures _ c.put_answer.ensures

pub returns : goal.returns
returns c =
    let l = c.loop-i in
    made-ends _ _ _ c.as_chunks.ensures.front c.requires.bytes_value _ _ _ l.state l.store l.answers l.i l.invariant c.loop-i-test.false
