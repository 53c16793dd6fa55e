-- What became of a list of calls as a whole: what each case of the enum `ListReply` says, and when it is the reply.
use Rattle.std.specs.Prelude.{ℕ, ◌*◌, Bool, cond, List, [], leb, length}
use Rattle.std.proofs.Math.Option.{Option, none, some}
use Rattle.model.specs.Calls.{done, Reply, refused, accepted}
use Rattle.four_state.specs.MixedLists.{MixedCall}
use Rattle.call_list.specs.declared.ListReply.{ListReply}
use Rattle.call_list.specs.declared.ListReply.TheVariants.{Made, BadLoad, Malformed, ShortAnswers}

-- ---- the definition for each case of the enum

-- what Load replied: accepted, or "20. BadLoad"; a list that is refused as it stands is refused before Load
abbrev pub load_reply : ListReply → Option Reply
load_reply Made = some (accepted done)
load_reply BadLoad = some (refused 20)
load_reply Malformed = none
load_reply ShortAnswers = none

-- the calls that were made: all of the list, or none
abbrev pub calls_made : ListReply → List MixedCall → List MixedCall
calls_made Made calls = calls
calls_made BadLoad calls = []
calls_made Malformed calls = []
calls_made ShortAnswers calls = []

-- ---- which it is

-- by the rows and by the words that are lent for the answers, two for each call
abbrev pub list_reply : Option (List MixedCall) → List ℕ → ListReply
list_reply none answers = Malformed
list_reply (some calls) answers = cond (leb (2 * length calls) (length answers)) Made ShortAnswers

-- where Load comes before the calls, it decides of a list that can be made
abbrev pub with_load : Bool → ListReply → ListReply
with_load bad Made = cond bad BadLoad Made
with_load bad BadLoad = BadLoad
with_load bad Malformed = Malformed
with_load bad ShortAnswers = ShortAnswers

-- the calls of the rows; malformed ones have none
abbrev pub calls_given : Option (List MixedCall) → List MixedCall
calls_given none = []
calls_given (some calls) = calls
