-- `call_list::put_answer` meets its contract: the two words, one behind the other. Assumes nothing.
use native.Mathlib.Omega.{arith}
use native.Mathlib.Numerals.{add-one}
use lib.ListN.{length-set}
use Rattle.call_list.proofs.put_answer.Goals as goal

pub bounds-answers-at-2 : goal.bounds-answers-at-2
bounds-answers-at-2 c = rw length-set (omega arith)

pub returns : goal.returns
returns c = rw add-one
