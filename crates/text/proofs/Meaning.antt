-- What reads as a value is exactly the writing of that value, within its limit: numbers and versions, at a position and as a whole
-- text. Assumes nothing.
use Prim.Native.Nat.{ℕ, ◌+◌, ◌-◌, ◌*◌, ◌/◌, ◌%◌, ◌≤◌, ◌<◌}
use mathlib.Core.Path.{◌≡◌, refl, sym, ap, ◌∙◌}
use mathlib.Core.Bool.{Bool, true, false, cond}
use mathlib.Core.List.{List, [], ◌∷◌, ◌++◌, append_assoc, append-nil}
use native.Mathlib.Numerals.{add-one}
use native.Mathlib.Omega.{arith}
use native.Mathlib.Nat.{add-zero}
use lib.ListN.{length, get_or, drop, length-append, drop_of_length-le}
use lib.Seq.{drop-cons}
use lib.Dec.{leb, ltb, eqb}
use borrow.Author.Tests.{ltb-false, leb-false, eqb-true, eqb-false}
use Rattle.std.specs.Prelude.{Option, Some, None}
use Rattle.base.specs.Quoted.{dot}
use Rattle.base.proofs.Tests.{cond_cases}
use Rattle.text.specs.declared.cursor.Cursor.{Cursor}
use Rattle.text.specs.declared.version.Version.{Version}
use Rattle.text.specs.Number.{digit_of, number_goes_on, number_begins, number_at, whole_number}
use Rattle.text.specs.Version.{version_part_most, version_last_most, version_within, dotted_at, version_at, whole_version, version_text}
use Rattle.text.specs.Digits.{digits}
use Rattle.text.specs.Meaning.{no_digit_first, Stands}
use Rattle.text.proofs.DigitLaws.{digits-small, digits-large}
use Rattle.text.proofs.ThenLaws.{then-cases}
use Rattle.text.proofs.Bounds.{number-most, number-inside, version-limits}
use Rattle.text.proofs.RoundTrip.{drop_past}

-- a byte that is a digit is the writing of its value
digit-written : (b : ℕ) → digit_of b < 10 → 48 + digit_of b ≡ b
unfolding digit_of
digit-written b h = go (ltb b 48) (ltb 57 b) refl h
  where
    go : (t u : Bool) → ltb b 48 ≡ t → cond t 10 (cond u 10 (b - 48)) < 10 → 48 + cond t 10 (cond u 10 (b - 48)) ≡ b
    go true u e o = absurd (omega arith)
    go false true e o = absurd (omega arith)
    go false false e o = omega (arith, ltb-false b 48 e)

-- what follows a number's digits so far: some digits more, and then no digit
record GoesOn (m p : ℕ) (l : List ℕ) (n : ℕ) (next : Cursor) : Type 0 where
  more : List ℕ
  rest : List ℕ
  parts : l ≡ more ++ rest
  written : digits n ≡ digits m ++ more
  behind : next.at ≡ p + length more
  ends : no_digit_first rest ≡ true

abbrev FoundOn : ℕ → ℕ → List ℕ → Option (ℕ × Cursor) → Type 0
FoundOn m p l (Some (n, next)) = GoesOn m p l n next
FoundOn m p l None = Unit {0}

-- one digit more
digit-more : (m d p b : ℕ) (l : List ℕ) (x : Option (ℕ × Cursor)) → d ≡ digit_of b → d < 10 → (m ≡ 0 → ⊥) → FoundOn (m * 10 + d) (p + 1) l x → FoundOn m p (b ∷ l) x
digit-more m d p b l None e o z f = tt
digit-more m d p b l (Some (n, next)) e o z f =
    let w : 48 + digit_of b ≡ b = digit-written b (rw e at o) in
    let k : 10 ≤ m * 10 + d = omega arith in
    let q : (m * 10 + d) / 10 ≡ m = omega arith in
    let r : 48 + (m * 10 + d) % 10 ≡ b = omega arith in
    record {
      more = b ∷ f.more;
      rest = f.rest;
      parts = ap (λ (t : List ℕ). b ∷ t) f.parts;
      written = f.written ∙ rw (digits-large (m * 10 + d) k, q, r) (append_assoc (digits m) (b ∷ []) f.more);
      behind = omega (arith, f.behind);
      ends = f.ends;
    }

number-goes-on : (most m p : ℕ) (l : List ℕ) → FoundOn m p l (number_goes_on most m p l)
unfolding number_goes_on no_digit_first
number-goes-on most m p [] =
    record { more = []; rest = []; parts = refl; written = sym (append-nil (digits m)); behind = sym (add-zero p); ends = refl }
number-goes-on most m p (b ∷ l) =
    cond_cases (FoundOn m p (b ∷ l)) (leb 10 (digit_of b)) _ _
    (λ t. record { more = []; rest = b ∷ l; parts = refl; written = sym (append-nil (digits m)); behind = sym (add-zero p); ends = t })
    (λ t. cond_cases (FoundOn m p (b ∷ l)) (eqb m 0) _ _
    (λ _. tt)
    (λ z. cond_cases (FoundOn m p (b ∷ l)) (ltb most (m * 10 + digit_of b)) _ _
    (λ _. tt)
    (λ _. digit-more m (digit_of b) p b l (number_goes_on most (m * 10 + digit_of b) (p + 1) l) refl (leb-false _ _ t) (eqb-false _ _ z)
    (number-goes-on most (m * 10 + digit_of b) (p + 1) l))))

-- a number that begins with the bytes l: its digits, and then no digit
record Begins (p : ℕ) (l : List ℕ) (n : ℕ) (next : Cursor) : Type 0 where
  rest : List ℕ
  written : l ≡ digits n ++ rest
  behind : next.at ≡ p + length (digits n)
  ends : no_digit_first rest ≡ true

abbrev Found : ℕ → List ℕ → Option (ℕ × Cursor) → Type 0
Found p l (Some (n, next)) = Begins p l n next
Found p l None = Unit {0}

first-digit-read : (p b : ℕ) (l : List ℕ) (x : Option (ℕ × Cursor)) → digit_of b < 10 → FoundOn (digit_of b) (p + 1) l x → Found p (b ∷ l) x
first-digit-read p b l None o f = tt
first-digit-read p b l (Some (n, next)) o f =
    let w : digits n ≡ b ∷ f.more = f.written ∙ rw (digits-small (digit_of b) o, digit-written b o) in
    record {
      rest = f.rest;
      written = ap (λ (t : List ℕ). b ∷ t) f.parts ∙ rw w;
      behind = f.behind ∙ rw w (omega arith);
      ends = f.ends;
    }

number-begins : (most p : ℕ) (l : List ℕ) → Found p l (number_begins most p l)
unfolding number_begins
number-begins most p [] = tt
number-begins most p (b ∷ l) =
    cond_cases (Found p (b ∷ l)) (leb 10 (digit_of b)) _ _
    (λ _. tt)
    (λ t. cond_cases (Found p (b ∷ l)) (ltb most (digit_of b)) _ _
    (λ _. tt)
    (λ _. first-digit-read p b l (number_goes_on most (digit_of b) (p + 1) l) (leb-false _ _ t) (number-goes-on most (digit_of b) (p + 1) l)))

-- ---- at a position

-- one text, and then another behind it
pub stands-then : (s : List ℕ) (at : ℕ) (xs ys : List ℕ) (p q : ℕ) → Stands s at xs p → Stands s p ys q → Stands s at (xs ++ ys) q
stands-then s at xs ys p q f g = record {
  behind = omega (arith, length-append xs ys, f.behind, g.behind);
  bytes = f.bytes ∙ rw g.bytes (sym (append_assoc xs ys _));
}

-- a text that stands at the beginning, with nothing behind it, is the whole
pub stands-whole : (s text : List ℕ) (q : ℕ) → Stands s 0 text q → length s ≤ q → s ≡ text
stands-whole s text q f h = f.bytes ∙ rw (drop_of_length-le s h) (append-nil text)

module _ (s : List ℕ) (at most n : ℕ) (next : Cursor) (e : number_at s at most ≡ Some (n, next)) where
  there : Begins at (drop at s) n next
  there = rw e at (number-begins most at (drop at s))

  left : drop next.at s ≡ there.rest
  left = ap (λ (p : ℕ). drop p s) there.behind ∙ drop_past s at (digits n) there.rest there.written

  -- the digits of the value stand there
  pub number-stands : Stands s at (digits n) next.at
  number-stands = record { behind = there.behind; bytes = there.written ∙ rw left }

  -- and no digit stands behind them
  pub number-ends : no_digit_first (drop next.at s) ≡ true
  number-ends = rw left there.ends

module _ (s : List ℕ) (at most n : ℕ) (next : Cursor) (e : dotted_at s at most ≡ Some (n, next)) where
  dot-there : (get_or s at 0 ≡ dot) × (number_at s (at + 1) most ≡ Some (n, next))
  unfolding dotted_at
  dot-there = go (eqb (get_or s at 0) dot) refl e
    where
      go : (t : Bool) → eqb (get_or s at 0) dot ≡ t → cond t (number_at s (at + 1) most) None ≡ Some (n, next)
          → (get_or s at 0 ≡ dot) × (number_at s (at + 1) most ≡ Some (n, next))
      go true t f = (eqb-true _ _ t, f)
      go false t f = let z : ◌≡◌ {A = ℕ} 0 1 = cc in absurd (omega arith)

  pub dotted-stands : Stands s at (dot ∷ digits n) next.at
  dotted-stands =
      let number : Stands s (at + 1) (digits n) next.at = number-stands s (at + 1) most n next dot-there.1 in
      let inside : at < length s = omega (arith, number-inside s (at + 1) most _ n next refl dot-there.1, number.behind) in
      record { behind = omega (arith, number.behind); bytes = drop-cons s at 0 inside ∙ rw (dot-there.0, ← add-one at, number.bytes) }

  pub dotted-ends : no_digit_first (drop next.at s) ≡ true
  dotted-ends = number-ends s (at + 1) most n next dot-there.1

record StandsVersion (s : List ℕ) (at : ℕ) (v : Version) (next : Cursor) : Type 0 where
  stands : Stands s at (version_text v) next.at
  ends : no_digit_first (drop next.at s) ≡ true

abbrev FoundVersion : List ℕ → ℕ → Option (Version × Cursor) → Type 0
FoundVersion s at (Some (v, next)) = StandsVersion s at v next
FoundVersion s at None = Unit {0}

version-found : (s : List ℕ) (at : ℕ) → FoundVersion s at (version_at s at)
unfolding version_at version_text
version-found s at =
    then-cases (FoundVersion s at) None (number_at s at version_part_most) _ tt λ a p ea.
    then-cases (FoundVersion s at) None (dotted_at s p.at version_part_most) _ tt λ b q eb.
    then-cases (FoundVersion s at) None (dotted_at s q.at version_part_most) _ tt λ c t ec.
    then-cases (FoundVersion s at) None (dotted_at s t.at version_last_most) _ tt λ d next ed.
    record {
      stands =
          stands-then s at _ _ p.at next.at (number-stands s at version_part_most a p ea)
          (stands-then s p.at _ _ q.at next.at (dotted-stands s p.at version_part_most b q eb)
          (stands-then s q.at _ _ t.at next.at (dotted-stands s q.at version_part_most c t ec) (dotted-stands s t.at version_last_most d next ed)));
      ends = dotted-ends s t.at version_last_most d next ed;
    }

module _ (s : List ℕ) (at : ℕ) (v : Version) (next : Cursor) (e : version_at s at ≡ Some (v, next)) where
  version-there : StandsVersion s at v next
  version-there = rw e at (version-found s at)

  pub version-stands : Stands s at (version_text v) next.at
  version-stands = version-there.stands

  pub version-ends : no_digit_first (drop next.at s) ≡ true
  version-ends = version-there.ends

-- ---- as a whole text

abbrev Whole : ℕ → List ℕ → Option (ℕ × Cursor) → Type 0
Whole most s (Some (n, next)) = (s ≡ digits n) × (n ≤ most)
Whole most s None = Unit {0}

number-whole : (most : ℕ) (s : List ℕ) → Whole most s (whole_number most s)
unfolding whole_number
number-whole most s =
    then-cases (Whole most s) None (number_at s 0 most) _ tt λ n next e.
    cond_cases (Whole most s) (ltb next.at (length s)) _ _
    (λ _. tt)
    (λ t. (stands-whole s (digits n) next.at (number-stands s 0 most n next e) (ltb-false _ _ t), number-most s 0 most _ n next refl e))

module _ (most : ℕ) (s : List ℕ) (n : ℕ) (next : Cursor) where
  pub whole-number-written : whole_number most s ≡ Some (n, next) → (s ≡ digits n) × (n ≤ most)
  whole-number-written e = rw e at (number-whole most s)

  -- the limit in the form in which the code knows it: x is a call's result
  pub whole-number-most : (x : Option (ℕ × Cursor)) → x ≡ whole_number most s → x ≡ Some (n, next) → n ≤ most
  whole-number-most x e v = (whole-number-written (sym e ∙ v)).1

abbrev WholeVersion : List ℕ → Option (Version × Cursor) → Type 0
WholeVersion s (Some (v, next)) = (s ≡ version_text v) × (version_within v ≡ true)
WholeVersion s None = Unit {0}

version-whole : (s : List ℕ) → WholeVersion s (whole_version s)
unfolding whole_version
version-whole s =
    then-cases (WholeVersion s) None (version_at s 0) _ tt λ v next e.
    cond_cases (WholeVersion s) (ltb next.at (length s)) _ _
    (λ _. tt)
    (λ t. (stands-whole s (version_text v) next.at (version-stands s 0 v next e) (ltb-false _ _ t), version-limits s 0 _ v next refl e))

module _ (s : List ℕ) (v : Version) (next : Cursor) where
  pub whole-version-written : whole_version s ≡ Some (v, next) → (s ≡ version_text v) × (version_within v ≡ true)
  whole-version-written e = rw e at (version-whole s)

  pub whole-version-limits : (x : Option (Version × Cursor)) → x ≡ whole_version s → x ≡ Some (v, next) → version_within v ≡ true
  whole-version-limits x e f = (whole-version-written (sym e ∙ f)).1
