-- Every list of calls can be written as numbers that are decoded as it. The numbers of its rows fit a `u32` slice where those of the calls
-- do and all blocks together have at most 4,294,967,295 bytes; the bytes fit a `u8` slice where those of the blocks do. A longer list is
-- handed in piece by piece. Assumes nothing.
use Prim.Native.Nat.{ℕ, zero, suc, ◌+◌, ◌<◌, ◌≤◌}
use mathlib.Core.Path.{◌≡◌, refl, ap₂}
use mathlib.Core.Bool.{true, false}
use mathlib.Core.List.{List, [], ◌∷◌, ◌++◌, append_assoc, Memᴰ}
use mathlib.Core.Option.{some, map}
use native.Mathlib.Omega.{arith}
use lib.ListN.{length, take, drop, length-append}
use mir.Syntax.{Width, w8, w32}
use mir.Val.{Fits}
use mir.Facts.{Fits-le, Fits-lit, Fits-below}
use lib.Seq.{take-append_seam, drop-append_seam}
use borrow.Author.Tests.{le-leb}
use Rattle.model.specs.Calls.{transfer_start, transfer_data, transfer_exit, delete_transfer, process, work, cancel, revert, activate, rollback, finish, report}
use Rattle.four_state.specs.declared.call.OldCall.TheVariants.{Activate, Cancel, Revert, Rollback}
use Rattle.four_state.specs.MixedLists.{MixedCall, of_twelve, of_four}
use Rattle.call_rows.specs.declared.row.MixedRequest.{MixedRequest}
use Rattle.call_rows.specs.declared.row.Row.{Row}
use Rattle.call_rows.specs.Row.{mixed_of, requests_by_number, requested, request_within, decoded_row}
use Rattle.call_rows.specs.Rows.{before, decoded}
use Rattle.call_rows.specs.Encoding.{row_with_number, encoded_row, block_in, encoded_from, encoded_rows, encoded_bytes, AllFit, NumbersFit}

-- ---- a row is decoded as its call

number-back : (n first : ℕ) (bytes : List ℕ)
    → decoded_row (row_with_number n first) bytes ≡ map (λ (request : MixedRequest). mixed_of request []) (requested (row_with_number n first))
unfolding decoded_row request_within
number-back n first bytes = rw (le-leb 0 (length bytes) (omega arith))

module _ (front rest : List ℕ) where
  row_back : (call : MixedCall) → decoded_row (encoded_row (length front) call) (front ++ (block_in call ++ rest)) ≡ some call
  unfolding encoded_row block_in requested requests_by_number decoded_row request_within
  row_back (of_twelve (transfer_start size)) = number-back 0 size (front ++ rest)
  row_back (of_twelve (transfer_data id counter block)) =
      let within : length front + length block ≤ length (front ++ (block ++ rest)) =
      omega (arith, length-append front (block ++ rest), length-append block rest) in
      let part : take (length block) (drop (length front) (front ++ (block ++ rest))) ≡ block =
      rw (drop-append_seam front (block ++ rest), take-append_seam block rest) in
      rw (le-leb (length front + length block) (length (front ++ (block ++ rest))) within, part)
  row_back (of_twelve (transfer_exit id)) = number-back 2 id (front ++ rest)
  row_back (of_twelve (delete_transfer id)) = number-back 3 id (front ++ rest)
  row_back (of_twelve (process id)) = number-back 4 id (front ++ rest)
  row_back (of_twelve (work n)) = number-back 5 n (front ++ rest)
  row_back (of_twelve (cancel id)) = number-back 6 id (front ++ rest)
  row_back (of_twelve revert) = number-back 7 0 (front ++ rest)
  row_back (of_twelve activate) = number-back 8 0 (front ++ rest)
  row_back (of_twelve rollback) = number-back 9 0 (front ++ rest)
  row_back (of_twelve finish) = number-back 10 0 (front ++ rest)
  row_back (of_twelve (report true)) = number-back 11 1 (front ++ rest)
  row_back (of_twelve (report false)) = number-back 11 0 (front ++ rest)
  row_back (of_four Activate) = number-back 12 0 (front ++ rest)
  row_back (of_four (Cancel id)) = number-back 13 id (front ++ rest)
  row_back (of_four Revert) = number-back 14 0 (front ++ rest)
  row_back (of_four Rollback) = number-back 15 0 (front ++ rest)

-- ---- and a list as its calls

list_back : (front : List ℕ) (calls : List MixedCall) → decoded (encoded_from (length front) calls) (front ++ encoded_bytes calls) ≡ some calls
unfolding encoded_from encoded_bytes decoded
list_back front [] = refl
list_back front (call ∷ calls) =
    let b = block_in call in
    let later : decoded (encoded_from (length front + length b) calls) (front ++ (b ++ encoded_bytes calls)) ≡ some calls =
    rw (← append_assoc front b (encoded_bytes calls), ← length-append front b) (list_back (front ++ b) calls) in
    ap₂ before (row_back front (encoded_bytes calls) call) later

-- every list of calls has an encoding
pub every-list : (calls : List MixedCall) → decoded (encoded_rows calls) (encoded_bytes calls) ≡ some calls
every-list calls = list_back [] calls

-- ---- in words of 32 bits and bytes

fit_append : (width : Width) (a b : List ℕ) → AllFit width a → AllFit width b → AllFit width (a ++ b)
fit_append width [] b h rest k = rest k
fit_append width (x ∷ a) b h rest zero = h 0
fit_append width (x ∷ a) b h rest (suc k) = fit_append width a b (λ n. h (suc n)) rest k

-- every word of a row fits
record RowFits (r : Row) : Type 0 where
  call : Fits w32 r.call
  reserved : Fits w32 r.reserved
  first : Fits w32 r.first
  second : Fits w32 r.second
  start : Fits w32 r.start
  length : Fits w32 r.length

-- a row before other words
before-words : (r : Row) (words : List ℕ) → RowFits r → AllFit w32 words
    → AllFit w32 (r.call ∷ r.reserved ∷ r.first ∷ r.second ∷ r.start ∷ r.length ∷ words)
before-words r words f later zero = f.call
before-words r words f later (suc zero) = f.reserved
before-words r words f later (suc (suc zero)) = f.first
before-words r words f later (suc (suc (suc zero))) = f.second
before-words r words f later (suc (suc (suc (suc zero)))) = f.start
before-words r words f later (suc (suc (suc (suc (suc zero))))) = f.length
before-words r words f later (suc (suc (suc (suc (suc (suc k)))))) = later k

number_fits : (n first : ℕ) → n < 16 → Fits w32 first → RowFits (row_with_number n first)
number_fits n first few h =
    record {
      call = Fits-below {n = 16} tt (omega arith);
      reserved = Fits-lit tt;
      first = h;
      second = Fits-lit tt;
      start = Fits-lit tt;
      length = Fits-lit tt;
    }

row_fits : (at : ℕ) (call : MixedCall) → NumbersFit call → Fits w32 (at + length (block_in call)) → RowFits (encoded_row at call)
unfolding encoded_row block_in NumbersFit
row_fits at (of_twelve (transfer_start size)) h end = number_fits 0 size (omega arith) h
row_fits at (of_twelve (transfer_data id counter block)) h end =
    record {
      call = Fits-lit tt;
      reserved = Fits-lit tt;
      first = h.0;
      second = h.1;
      start = Fits-le (omega arith) end;
      length = Fits-le (omega arith) end;
    }
row_fits at (of_twelve (transfer_exit id)) h end = number_fits 2 id (omega arith) h
row_fits at (of_twelve (delete_transfer id)) h end = number_fits 3 id (omega arith) h
row_fits at (of_twelve (process id)) h end = number_fits 4 id (omega arith) h
row_fits at (of_twelve (work n)) h end = number_fits 5 n (omega arith) h
row_fits at (of_twelve (cancel id)) h end = number_fits 6 id (omega arith) h
row_fits at (of_twelve revert) h end = number_fits 7 0 (omega arith) (Fits-lit tt)
row_fits at (of_twelve activate) h end = number_fits 8 0 (omega arith) (Fits-lit tt)
row_fits at (of_twelve rollback) h end = number_fits 9 0 (omega arith) (Fits-lit tt)
row_fits at (of_twelve finish) h end = number_fits 10 0 (omega arith) (Fits-lit tt)
row_fits at (of_twelve (report true)) h end = number_fits 11 1 (omega arith) (Fits-lit tt)
row_fits at (of_twelve (report false)) h end = number_fits 11 0 (omega arith) (Fits-lit tt)
row_fits at (of_four Activate) h end = number_fits 12 0 (omega arith) (Fits-lit tt)
row_fits at (of_four (Cancel id)) h end = number_fits 13 id (omega arith) h
row_fits at (of_four Revert) h end = number_fits 14 0 (omega arith) (Fits-lit tt)
row_fits at (of_four Rollback) h end = number_fits 15 0 (omega arith) (Fits-lit tt)

rows_fit : (at : ℕ) (calls : List MixedCall) → ((call : MixedCall) → Memᴰ call calls → NumbersFit call)
    → Fits w32 (at + length (encoded_bytes calls)) → AllFit w32 (encoded_from at calls)
unfolding encoded_from encoded_bytes
rows_fit at [] numbers end = λ k. Fits-lit tt
rows_fit at (call ∷ calls) numbers end =
    let long = length-append (block_in call) (encoded_bytes calls) in
    let f = row_fits at call (numbers call (Memᴰ.head refl)) (Fits-le (omega arith) end) in
    let later = rows_fit (at + length (block_in call)) calls (λ other m. numbers other (Memᴰ.tail m)) (Fits-le (omega arith) end) in
    before-words (encoded_row at call) (encoded_from (at + length (block_in call)) calls) f later

-- the words of a list of calls fit a `u32` slice
pub words-fit : (calls : List MixedCall) → ((call : MixedCall) → Memᴰ call calls → NumbersFit call) → Fits w32 (length (encoded_bytes calls))
    → AllFit w32 (encoded_rows calls)
words-fit calls numbers short = rows_fit 0 calls numbers (Fits-le (omega arith) short)

-- no call is asked for more: where the words of a call fit a `u32` slice, its numbers fit
pub numbers_fit : (call : MixedCall) → AllFit w32 (encoded_rows (call ∷ [])) → NumbersFit call
unfolding encoded_from encoded_row NumbersFit
numbers_fit (of_twelve (transfer_start size)) words = words 2
numbers_fit (of_twelve (transfer_data id counter block)) words = (words 2, words 3)
numbers_fit (of_twelve (transfer_exit id)) words = words 2
numbers_fit (of_twelve (delete_transfer id)) words = words 2
numbers_fit (of_twelve (process id)) words = words 2
numbers_fit (of_twelve (work n)) words = words 2
numbers_fit (of_twelve (cancel id)) words = words 2
numbers_fit (of_twelve revert) words = tt
numbers_fit (of_twelve activate) words = tt
numbers_fit (of_twelve rollback) words = tt
numbers_fit (of_twelve finish) words = tt
numbers_fit (of_twelve (report good)) words = tt
numbers_fit (of_four Activate) words = tt
numbers_fit (of_four (Cancel id)) words = words 2
numbers_fit (of_four Revert) words = tt
numbers_fit (of_four Rollback) words = tt

-- and its bytes a `u8` slice
pub bytes_fit : (calls : List MixedCall) → ((call : MixedCall) → Memᴰ call calls → AllFit w8 (block_in call))
    → AllFit w8 (encoded_bytes calls)
unfolding encoded_bytes
bytes_fit [] blocks = λ k. Fits-lit tt
bytes_fit (call ∷ calls) blocks =
    fit_append w8 (block_in call) (encoded_bytes calls) (blocks call (Memᴰ.head refl))
    (bytes_fit calls λ other m. blocks other (Memᴰ.tail m))
