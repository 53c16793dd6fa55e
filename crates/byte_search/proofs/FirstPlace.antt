-- What the place of the first byte in a part says of the whole. Assumes nothing.
use Rattle.std.proofs.Common.{ℕ, ◌+◌, ◌-◌, ◌≤◌, ◌≡◌, ◌∙◌, sym, List, length, take, drop, position, arith, ap, Option, Some, None, Bool, false, not, length-take, length-drop}
use lib.Dec.{eqb, ltb}
use Rattle.std.specs.List.{position_or_len}
use Rattle.std.proofs.lemmas.List.{drop-take}
use Rattle.std.proofs.lemmas.List.Sums.{prefix_len-le-length}
use Rattle.std.proofs.lemmas.Option.{cond_some}
use borrow.Author.Tests.{ltb-false}
use Rattle.base.proofs.Tests.{bool_cases}
use Rattle.byte_search.specs.Bytes.{index_of, slice}

-- where a test passes at no element, the place is the length
none-place : (test : ℕ → Bool) (l : List ℕ) → position test l ≡ None → position_or_len test l ≡ length l
none-place test l e =
    let n = position_or_len test l in
    let past : ltb n (length l) ≡ false = bool_cases (ltb n (length l)) (λ z. let w : ◌≡◌ {A = Option ℕ} (Some n) None = rw z at e in absurd (cc)) λ z. z in
    omega (arith, ltb-false n (length l) past, prefix_len-le-length (λ (x : ℕ). not (test x)) l)

same_part : (s : List ℕ) (from more : ℕ) → slice from (from + more) s ≡ take more (drop from s)
unfolding slice
same_part s from more = drop-take from more s

module _ (s : List ℕ) (from to : ℕ) (ordered : from ≤ to) (within : to ≤ length s) (b : ℕ) (r : Option ℕ)
    (answer : r ≡ position (λ x. eqb x b) (take (to - from) (drop from s))) where
  same_index : index_of b (slice from to s) ≡ index_of b (take (to - from) (drop from s))
  same_index = let e : from + (to - from) ≡ to = omega arith in ap (λ (to' : ℕ). index_of b (slice from to' s)) (sym e) ∙ ap (index_of b) (same_part s from (to - from))

  pub index-found : (i : ℕ) → r ≡ Some i → from + i ≡ from + index_of b (slice from to s)
  index-found i e = let f = cond_some _ _ _ (sym answer ∙ e) in omega (arith, same_index, f.1)

  pub index-none : r ≡ None → to ≡ from + index_of b (slice from to s)
  index-none e =
      let n = none-place (λ (x : ℕ). eqb x b) (take (to - from) (drop from s)) (sym answer ∙ e) in
      let l : length (take (to - from) (drop from s)) ≡ to - from = simp (length-take, length-drop) (omega arith) in
      omega (arith, same_index, n, l)
