-- A call in numbers: a row of six words. Calls have the numbers 0 to 11, in the order in which document 01 lists "the twelve changing
-- calls", and the old four 12 to 15, in the order in which their answers are listed: Activate, Cancel, Revert, Rollback.
use Rattle.std.specs.Prelude.{ℕ, ◌+◌, Bool, cond, ◌&&◌, List, [], ◌∷◌, eqb, leb, length, take, drop, get_or}
use Rattle.std.specs.Prelude as code
use Rattle.std.proofs.Math.Option.{Option, none, some, map}
use Rattle.request.specs.declared.Request.TheVariants.{TransferStart, TransferData, TransferExit, DeleteTransfer, Process, Work, Cancel, Revert, Activate, Rollback, Finish, Report}
use Rattle.request.specs.Call.{call_of}
use Rattle.four_state.specs.declared.call.OldCall.TheVariants as old
use Rattle.four_state.specs.MixedLists.{MixedCall, of_twelve, of_four}
use Rattle.call_rows.specs.declared.row.Row.{Row}
use Rattle.call_rows.specs.declared.row.MixedRequest.{MixedRequest}
use Rattle.call_rows.specs.declared.row.MixedRequest.TheVariants.{Twelve, Old}

-- the number of the call, a reserved word, the call's two numbers, and the start and length of its block
abbrev pub row : ℕ → ℕ → ℕ → ℕ → ℕ → ℕ → Row
row call reserved first second start length =
    record { call = call; reserved = reserved; first = first; second = second; start = start; length = length }

-- the row from the word i on
abbrev pub row_at : List ℕ → ℕ → Row
row_at words i =
    row (get_or words i 0) (get_or words (i + 1) 0) (get_or words (i + 2) 0) (get_or words (i + 3) 0) (get_or words (i + 4) 0) (get_or words (i + 5) 0)

-- the block of a row in the byte string
abbrev pub block_of : Row → List ℕ → List ℕ
block_of r bytes = take r.length (drop r.start bytes)

-- a request and its block as a call of either kind: the definition for each case of the enum
abbrev pub mixed_of : MixedRequest → List ℕ → MixedCall
mixed_of (Twelve request) block = of_twelve (call_of request block)
mixed_of (Old call) block = of_four call

-- what the code returns, as the definitions below have it
abbrev pub request_in : code.Option MixedRequest → Option MixedRequest
request_in (code.Some request) = some request
request_in code.None = none

abbrev pub request_if : Bool → MixedRequest → Option MixedRequest
request_if holds request = cond holds (some request) none

-- a number or block that the call does not have is 0: of a call with one number, and of one with none
abbrev pub has_one_number : Row → Bool
has_one_number r = eqb r.second 0 && (eqb r.start 0 && eqb r.length 0)

abbrev pub has_no_number : Row → Bool
has_no_number r = eqb r.first 0 && has_one_number r

-- what a row is by each number of a call, in the order of "the twelve changing calls". TransferData has an id, a counter and a block;
-- "Report(good or bad)" has 1 for good and 0 for bad. Behind them the old four, of which Cancel has an id
unfoldable pub requests_by_number : Row → List (Option MixedRequest)
requests_by_number r =
    request_if (has_one_number r) (Twelve (TransferStart r.first))
    ∷ some (Twelve (TransferData r.first r.second))
    ∷ request_if (has_one_number r) (Twelve (TransferExit r.first))
    ∷ request_if (has_one_number r) (Twelve (DeleteTransfer r.first))
    ∷ request_if (has_one_number r) (Twelve (Process r.first))
    ∷ request_if (has_one_number r) (Twelve (Work r.first))
    ∷ request_if (has_one_number r) (Twelve (Cancel r.first))
    ∷ request_if (has_no_number r) (Twelve Revert)
    ∷ request_if (has_no_number r) (Twelve Activate)
    ∷ request_if (has_no_number r) (Twelve Rollback)
    ∷ request_if (has_no_number r) (Twelve Finish)
    ∷ request_if (leb r.first 1 && has_one_number r) (Twelve (Report (eqb r.first 1)))
    ∷ request_if (has_no_number r) (Old old.Activate)
    ∷ request_if (has_one_number r) (Old (old.Cancel r.first))
    ∷ request_if (has_no_number r) (Old old.Revert)
    ∷ request_if (has_no_number r) (Old old.Rollback)
    ∷ []

-- the request that the words of a row say: the reserved word is 0, and the number is one of a call
unfoldable pub requested : Row → Option MixedRequest
requested r = cond (eqb r.reserved 0) (get_or (requests_by_number r) r.call none) none

-- and its block ends within a byte string of a length
unfoldable pub request_within : Row → ℕ → Option MixedRequest
request_within r bytes_length = cond (leb (r.start + r.length) bytes_length) (requested r) none

-- the call of a row, with its block in the byte string; none where the row is malformed
unfoldable pub decoded_row : Row → List ℕ → Option MixedCall
decoded_row r bytes = map (λ request. mixed_of request (block_of r bytes)) (request_within r (length bytes))
