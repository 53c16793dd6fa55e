-- What a program in C is answered for a list of calls: a number.
use Rattle.std.specs.Prelude.{ℕ, cond, eqb}
use Rattle.std.proofs.Math.Option.{Option, none, some}
use Rattle.model.specs.Calls.{done, Reply, refused, accepted}
use Rattle.call_list.specs.declared.ListReply.{ListReply}
use Rattle.call_list.specs.declared.ListReply.TheVariants.{Made, BadLoad, Malformed, ShortAnswers}

-- 0 when every call was made, and "20. BadLoad". A malformed list and too little room for the answers are no refusals of document 01:
-- their numbers are above those that a byte can have, which are left to it
abbrev pub result_number : ListReply → ℕ
result_number Made = 0
result_number BadLoad = 20
result_number Malformed = 256
result_number ShortAnswers = 257

-- what Load replied, by the number: accepted by 0, refused by 20; by any other no Load was made
abbrev pub load_reply_by : ℕ → Option Reply
load_reply_by number = cond (eqb number 0) (some (accepted done)) (cond (eqb number 20) (some (refused 20)) none)
