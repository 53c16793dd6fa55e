-- What each case of `ListReply` says, and which it is at the ends of the room: the cases that no list of calls reaches too; and the words of
-- answers of both kinds. Assumes nothing.
use mathlib.Core.Path.{◌≡◌, refl}
use mathlib.Core.Bool.{true, false}
use mathlib.Core.List.{[], ◌∷◌}
use mathlib.Core.Option.{none, some}
use Rattle.base.proofs.Tables.{◌gives◌, AllHold}
use Rattle.model.specs.Calls.{finish, done, refused, accepted}
use Rattle.model.specs.Layers.{made_event}
use Rattle.four_state.specs.declared.call.OldCall.TheVariants.{Revert}
use Rattle.four_state.specs.MixedLists.{of_twelve, of_four, by_twelve, by_four}
use Rattle.call_list.specs.declared.ListReply.TheVariants.{Made, BadLoad, Malformed, ShortAnswers}
use Rattle.call_list.specs.Answers.{words_of}
use Rattle.call_list.specs.Replies.{load_reply, calls_made, list_reply, with_load, calls_given}

-- what Load replied: "20. BadLoad"
load-replies : AllHold load_reply
    (Made gives some (accepted done) ∷ BadLoad gives some (refused 20) ∷ Malformed gives none ∷ ShortAnswers gives none ∷ [])
load-replies = refl

-- every call is made, or none
all-or-none : AllHold (λ reply. calls_made reply (of_four Revert ∷ of_twelve finish ∷ []))
    (Made gives (of_four Revert ∷ of_twelve finish ∷ []) ∷ BadLoad gives [] ∷ Malformed gives [] ∷ ShortAnswers gives [] ∷ [])
all-or-none = refl

-- two words for each call, and one less; no call needs no word
rooms : AllHold (list_reply (some (of_four Revert ∷ of_twelve finish ∷ [])))
    ((0 ∷ 0 ∷ 0 ∷ 0 ∷ []) gives Made ∷ (0 ∷ 0 ∷ 0 ∷ []) gives ShortAnswers ∷ [] gives ShortAnswers ∷ [])
rooms = refl

no-calls : AllHold (λ given. list_reply given []) (some [] gives Made ∷ none gives Malformed ∷ [])
no-calls = refl

-- a refused Load decides of a list that can be made, and of no other
load-refused : AllHold (with_load true)
    (Made gives BadLoad ∷ BadLoad gives BadLoad ∷ Malformed gives Malformed ∷ ShortAnswers gives ShortAnswers ∷ [])
load-refused = refl

load-accepted : AllHold (with_load false)
    (Made gives Made ∷ BadLoad gives BadLoad ∷ Malformed gives Malformed ∷ ShortAnswers gives ShortAnswers ∷ [])
load-accepted = refl

-- malformed rows have no calls
none-given : calls_given none ≡ []
none-given = refl

-- two words for each answer, of either kind
both-kinds : words_of (made_event (of_twelve finish) (by_twelve (refused 3)) ∷ made_event (of_four Revert) (by_four 2) ∷ made_event (of_twelve finish) (by_twelve (accepted done)) ∷ [])
    ≡ 12 ∷ 3 ∷ 13 ∷ 2 ∷ 1 ∷ 0 ∷ []
unfolding words_of
both-kinds = refl
