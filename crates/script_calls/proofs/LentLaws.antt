-- Parts of the program's bytes and of a buffer that are lent. Assumes nothing.
use Prim.Native.Nat.{ℕ, ◌+◌, ◌≤◌, ◌<◌}
use mathlib.Core.Path.{◌≡◌, sym, ◌∙◌}
use mathlib.Core.List.{List}
use native.Mathlib.Omega.{arith}
use lib.Dec.{ltb}
use lib.ListN.{length, take, drop, drop_of_length-le}
use lib.Seq.{length-take-le, take_all, take_at, sets-eq}
use borrow.Author.Tests.{ltb-true, ltb-false}
use Rattle.base.proofs.Tests.{bool_cases, cond_cases}
use Rattle.text.specs.Put.{Put}
use Rattle.text.proofs.PutLaws.{put-length}
use Rattle.script_bytes.specs.Block.{block_bytes}
use Rattle.script_bytes.proofs.BlockLaws.{block-most}
use Rattle.script_calls.specs.Line.{lent_count}

-- a part has the length that it is asked for
pub part-long : (l : List ℕ) (n : ℕ) → n ≤ length l → n ≡ length (take n l)
part-long l n h = sym (length-take-le n l h)

-- ---- the bytes that are lent are the first of all, so many as are asked for

pub count_most : (asked all : ℕ) → lent_count asked all ≤ all
unfolding lent_count
count_most asked all =
    cond_cases (λ n. n ≤ all) (ltb all asked) all asked (λ t. omega arith) (λ f. ltb-false all asked f)

-- all of a list and more of it
take_past : (asked : ℕ) (l : List ℕ) → length l < asked → take (length l) l ≡ take asked l
take_past asked l h = take_all (length l) l (omega arith) ∙ sym (take_all asked l (omega arith))

drop_past : (asked : ℕ) (l : List ℕ) → length l < asked → drop (length l) l ≡ drop asked l
drop_past asked l h = drop_of_length-le l {i = length l} (omega arith) ∙ sym (drop_of_length-le l {i = asked} (omega arith))

take_count : (asked : ℕ) (l : List ℕ) → take (lent_count asked (length l)) l ≡ take asked l
unfolding lent_count
take_count asked l = bool_cases (ltb (length l) asked) (λ t. rw t (take_past asked l (ltb-true _ _ t))) (λ f. rw f)

drop-count : (asked : ℕ) (l : List ℕ) → drop (lent_count asked (length l)) l ≡ drop asked l
unfolding lent_count
drop-count asked l = bool_cases (ltb (length l) asked) (λ t. rw t (drop_past asked l (ltb-true _ _ t))) (λ f. rw f)

module _ (asked : ℕ) (l : List ℕ) (n : ℕ) (e : n ≡ lent_count asked (length l)) where
  pub lent-within : n ≤ length l
  lent-within = rw e (count_most asked (length l))

  pub lent-long : n ≡ length (take n l)
  lent-long = part-long l n lent-within

  pub take-lent : take n l ≡ take asked l
  take-lent = rw e (take_count asked l)

  pub drop-lent : drop n l ≡ drop asked l
  drop-lent = rw e (drop-count asked l)

-- ---- the bytes of a word in a buffer that is as long as the word

module _ (word l : List ℕ) (h : length word ≤ length l) where
  pub block-fits : 0 + length (block_bytes word) ≤ length l
  block-fits = omega (arith, block-most word)

  module _ (r : ℕ) (m : List ℕ) (p : Put l 0 (block_bytes word) r m) where
    pub block_within : r ≤ length m
    block_within = omega (arith, p.behind, block-fits, put-length l 0 (block_bytes word) m r p)

    pub block-long : r ≡ length (take r m)
    block-long = part-long m r block_within

    pub block-taken : take r m ≡ block_bytes word
    block-taken = rw (p.bytes, sets-eq (block_bytes word) l 0 block-fits) (take_at (block_bytes word) _ r (omega (arith, p.behind)))
