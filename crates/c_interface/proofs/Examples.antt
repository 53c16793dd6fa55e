-- What each number says of Load, the numbers of no reply too. Assumes nothing.
use mathlib.Core.Path.{refl}
use mathlib.Core.List.{[], ◌∷◌}
use mathlib.Core.Option.{none, some}
use Rattle.base.proofs.Tables.{◌gives◌, AllHold}
use Rattle.model.specs.Calls.{done, refused, accepted}
use Rattle.call_list.specs.declared.ListReply.TheVariants.{Made, BadLoad, Malformed, ShortAnswers}
use Rattle.c_interface.specs.Results.{result_number, load_reply_by}

-- "20. BadLoad"
numbers : AllHold result_number (Made gives 0 ∷ BadLoad gives 20 ∷ Malformed gives 256 ∷ ShortAnswers gives 257 ∷ [])
numbers = refl

load-replies : AllHold load_reply_by
    (0 gives some (accepted done) ∷ 20 gives some (refused 20) ∷ 1 gives none ∷ 19 gives none ∷ 21 gives none ∷ 256 gives none ∷ 257 gives none ∷ [])
load-replies = refl
