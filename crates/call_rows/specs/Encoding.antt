-- Lists of calls written as words and bytes: the blocks lie one behind the other in the byte string.
use Rattle.std.specs.Prelude.{ℕ, ◌+◌, cond, List, [], ◌∷◌, ◌++◌, length, get_or}
use Rattle.std.specs.Int.{Width, w32}
use Rattle.std.proofs.Common.{Fits}
use Rattle.model.specs.Calls.{transfer_start, transfer_data, transfer_exit, delete_transfer, process, work, cancel, revert, activate, rollback, finish, report}
use Rattle.four_state.specs.declared.call.OldCall.TheVariants.{Activate, Cancel, Revert, Rollback}
use Rattle.four_state.specs.MixedLists.{MixedCall, of_twelve, of_four}
use Rattle.call_rows.specs.declared.row.Row.{Row}
use Rattle.call_rows.specs.Row.{row}

-- a row with at most one number and no block
abbrev pub row_with_number : ℕ → ℕ → Row
row_with_number call first = row call 0 first 0 0 0

-- the row of a call, whose block, if it has one, begins at a place of the byte string
unfoldable pub encoded_row : ℕ → MixedCall → Row
encoded_row at (of_twelve (transfer_start size)) = row_with_number 0 size
encoded_row at (of_twelve (transfer_data id counter block)) = row 1 0 id counter at (length block)
encoded_row at (of_twelve (transfer_exit id)) = row_with_number 2 id
encoded_row at (of_twelve (delete_transfer id)) = row_with_number 3 id
encoded_row at (of_twelve (process id)) = row_with_number 4 id
encoded_row at (of_twelve (work n)) = row_with_number 5 n
encoded_row at (of_twelve (cancel id)) = row_with_number 6 id
encoded_row at (of_twelve revert) = row_with_number 7 0
encoded_row at (of_twelve activate) = row_with_number 8 0
encoded_row at (of_twelve rollback) = row_with_number 9 0
encoded_row at (of_twelve finish) = row_with_number 10 0
encoded_row at (of_twelve (report good)) = row_with_number 11 (cond good 1 0)
encoded_row at (of_four Activate) = row_with_number 12 0
encoded_row at (of_four (Cancel id)) = row_with_number 13 id
encoded_row at (of_four Revert) = row_with_number 14 0
encoded_row at (of_four Rollback) = row_with_number 15 0

-- the block of a call; only TransferData has one
unfoldable pub block_in : MixedCall → List ℕ
block_in (of_twelve (transfer_start size)) = []
block_in (of_twelve (transfer_data id counter block)) = block
block_in (of_twelve (transfer_exit id)) = []
block_in (of_twelve (delete_transfer id)) = []
block_in (of_twelve (process id)) = []
block_in (of_twelve (work n)) = []
block_in (of_twelve (cancel id)) = []
block_in (of_twelve revert) = []
block_in (of_twelve activate) = []
block_in (of_twelve rollback) = []
block_in (of_twelve finish) = []
block_in (of_twelve (report good)) = []
block_in (of_four call) = []

-- the rows of calls whose blocks begin at a place of the byte string
unfoldable pub encoded_from : ℕ → List MixedCall → List ℕ
encoded_from at [] = []
encoded_from at (call ∷ calls) =
    let r = encoded_row at call in
    r.call ∷ r.reserved ∷ r.first ∷ r.second ∷ r.start ∷ r.length ∷ encoded_from (at + length (block_in call)) calls

-- the words and the bytes of a list of calls
abbrev pub encoded_rows : List MixedCall → List ℕ
encoded_rows calls = encoded_from 0 calls

unfoldable pub encoded_bytes : List MixedCall → List ℕ
encoded_bytes [] = []
encoded_bytes (call ∷ calls) = block_in call ++ encoded_bytes calls

-- every number of a list fits a width, as is known of each element of a lent slice: of a `u32` slice w32, of a `u8` slice w8
abbrev pub AllFit : Width → List ℕ → Type 0
AllFit width l = (k : ℕ) → Fits width (get_or l k 0)

-- the numbers of a call fit words of 32 bits
unfoldable pub NumbersFit : MixedCall → Type 0
NumbersFit (of_twelve (transfer_start size)) = Fits w32 size
NumbersFit (of_twelve (transfer_data id counter block)) = Fits w32 id × Fits w32 counter
NumbersFit (of_twelve (transfer_exit id)) = Fits w32 id
NumbersFit (of_twelve (delete_transfer id)) = Fits w32 id
NumbersFit (of_twelve (process id)) = Fits w32 id
NumbersFit (of_twelve (work n)) = Fits w32 n
NumbersFit (of_twelve (cancel id)) = Fits w32 id
NumbersFit (of_twelve revert) = Unit
NumbersFit (of_twelve activate) = Unit
NumbersFit (of_twelve rollback) = Unit
NumbersFit (of_twelve finish) = Unit
NumbersFit (of_twelve (report good)) = Unit
NumbersFit (of_four Activate) = Unit
NumbersFit (of_four (Cancel id)) = Fits w32 id
NumbersFit (of_four Revert) = Unit
NumbersFit (of_four Rollback) = Unit
