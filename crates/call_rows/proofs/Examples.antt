-- What the format refuses and takes, a case for each rule: rows with a byte string of four bytes. Assumes nothing.
use Prim.Native.Nat.{ℕ}
use mathlib.Core.Path.{refl}
use mathlib.Core.Bool.{true, false}
use mathlib.Core.List.{List, [], ◌∷◌, ◌++◌}
use mathlib.Core.Option.{Option, none, some}
use Rattle.base.specs.Quoted.{bytes}
use Rattle.base.proofs.Tables.{◌gives◌, AllHold}
use Rattle.model.specs.Calls.{Call, transfer_start, transfer_data, transfer_exit, delete_transfer, process, work, cancel, revert, activate, rollback, finish, report, cleaning_failed, refused, accepted}
use Rattle.four_state.specs.declared.call.OldCall.{OldCall}
use Rattle.four_state.specs.declared.call.OldCall.TheVariants.{Activate, Cancel, Revert, Rollback}
use Rattle.four_state.specs.MixedLists.{MixedCall, of_twelve, of_four, by_twelve, by_four}
use Rattle.call_rows.specs.Row.{requests_by_number, requested, request_within, decoded_row}
use Rattle.call_rows.specs.Rows.{decoded}
use Rattle.call_rows.specs.Answers.{words, reply_in}

abbrev six : ℕ → ℕ → ℕ → ℕ → ℕ → ℕ → List ℕ
six call reserved first second start length = call ∷ reserved ∷ first ∷ second ∷ start ∷ length ∷ []

abbrev one : Call → Option (List MixedCall)
one call = some (of_twelve call ∷ [])

abbrev old : OldCall → Option (List MixedCall)
old call = some (of_four call ∷ [])

abbrev read : List ℕ → Option (List MixedCall)
read words = decoded words (bytes "abcd")

-- the twelve calls by their numbers
each-call : AllHold read
    (six 0 0 91 0 0 0 gives one (transfer_start 91)
    ∷ six 1 0 7 2 1 3 gives one (transfer_data 7 2 (bytes "bcd"))
    ∷ six 2 0 7 0 0 0 gives one (transfer_exit 7)
    ∷ six 3 0 7 0 0 0 gives one (delete_transfer 7)
    ∷ six 4 0 7 0 0 0 gives one (process 7)
    ∷ six 5 0 7 0 0 0 gives one (work 7)
    ∷ six 6 0 7 0 0 0 gives one (cancel 7)
    ∷ six 7 0 0 0 0 0 gives one revert
    ∷ six 8 0 0 0 0 0 gives one activate
    ∷ six 9 0 0 0 0 0 gives one rollback
    ∷ six 10 0 0 0 0 0 gives one finish
    ∷ six 11 0 1 0 0 0 gives one (report true)
    ∷ six 11 0 0 0 0 0 gives one (report false)
    ∷ [])
unfolding decoded decoded_row request_within requested requests_by_number
each-call = refl

-- the old four by theirs, Cancel with its id
each-old-call : AllHold read
    (six 12 0 0 0 0 0 gives old Activate
    ∷ six 13 0 7 0 0 0 gives old (Cancel 7)
    ∷ six 13 0 0 0 0 0 gives old (Cancel 0)
    ∷ six 14 0 0 0 0 0 gives old Revert
    ∷ six 15 0 0 0 0 0 gives old Rollback
    ∷ [])
unfolding decoded decoded_row request_within requested requests_by_number
each-old-call = refl

-- the ends of the rules: a block up to the last byte, and one of no bytes behind it; no rows; two rows, also of both kinds
taken : AllHold read
    (six 1 0 7 2 0 4 gives one (transfer_data 7 2 (bytes "abcd"))
    ∷ six 1 0 7 2 4 0 gives one (transfer_data 7 2 [])
    ∷ [] gives some []
    ∷ (six 7 0 0 0 0 0 ++ six 5 0 3 0 0 0) gives some (of_twelve revert ∷ of_twelve (work 3) ∷ [])
    ∷ (six 14 0 0 0 0 0 ++ six 7 0 0 0 0 0) gives some (of_four Revert ∷ of_twelve revert ∷ [])
    ∷ [])
unfolding decoded decoded_row request_within requested requests_by_number
taken = refl

-- malformed: a call number above 15, a reserved word, a block past the end, a number or block that the call does not have, a report that
-- is neither good nor bad, words left over, one malformed row among others
malformed : AllHold read
    (six 16 0 0 0 0 0 gives none
    ∷ six 7 1 0 0 0 0 gives none
    ∷ six 1 0 7 2 0 5 gives none
    ∷ six 1 0 7 2 4 1 gives none
    ∷ six 1 0 7 2 5 0 gives none
    ∷ six 7 0 1 0 0 0 gives none
    ∷ six 5 0 7 1 0 0 gives none
    ∷ six 5 0 7 0 1 0 gives none
    ∷ six 5 0 7 0 0 1 gives none
    ∷ six 11 0 2 0 0 0 gives none
    ∷ six 12 0 1 0 0 0 gives none
    ∷ six 12 1 0 0 0 0 gives none
    ∷ six 13 0 7 1 0 0 gives none
    ∷ six 13 0 7 0 1 0 gives none
    ∷ six 13 0 7 0 0 1 gives none
    ∷ six 13 1 7 0 0 0 gives none
    ∷ six 14 0 1 0 0 0 gives none
    ∷ six 15 0 1 0 0 0 gives none
    ∷ six 15 0 0 0 0 1 gives none
    ∷ (7 ∷ 0 ∷ 0 ∷ 0 ∷ 0 ∷ []) gives none
    ∷ (six 7 0 0 0 0 0 ++ 7 ∷ []) gives none
    ∷ (six 7 0 0 0 0 0 ++ six 16 0 0 0 0 0) gives none
    ∷ [])
unfolding decoded decoded_row request_within requested requests_by_number
malformed = refl

-- the last kinds of an answer: a name, a refusal, an old answer, and none behind them
last-kinds : AllHold reply_in
    (words 11 0 gives some (by_twelve (accepted cleaning_failed))
    ∷ words 11 1 gives none
    ∷ words 12 4 gives some (by_twelve (refused 4))
    ∷ words 13 0 gives some (by_four 0)
    ∷ words 13 4 gives some (by_four 4)
    ∷ words 14 0 gives none
    ∷ [])
unfolding reply_in
last-kinds = refl
