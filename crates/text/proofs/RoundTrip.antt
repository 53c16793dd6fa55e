-- Reading what is written gives it back: numbers and versions, at any position and as a whole text. Assumes nothing.
use Prim.Native.Nat.{ℕ, ◌+◌, ◌*◌, ◌/◌, ◌%◌, ◌≤◌, ◌<◌}
use mathlib.Core.Path.{◌≡◌, refl, sym, ap, ◌∙◌}
use mathlib.Core.Bool.{true}
use mathlib.Core.List.{List, [], ◌∷◌, ◌++◌, append_assoc, append-nil}
use native.Mathlib.Omega.{arith}
use native.Mathlib.Nat.{add_assoc, add-zero, zero-add}
use lib.ListN.{length, get_or, drop, length-append}
use lib.Seq.{drop-append_seam, drop-drop, get_or-drop}
use borrow.Author.Tests.{le-ltb, ne_eqb, lt-leb}
use Rattle.std.specs.Prelude.{Some}
use Rattle.base.specs.Quoted.{dot, comma, LF}
use Rattle.text.specs.declared.version.Version.{Version}
use Rattle.text.specs.Number.{cursor, digit_of, number_goes_on, number_begins, number_at, whole_number}
use Rattle.text.specs.Version.{version_part_most, version_last_most, version_within, dotted_at, version_at, whole_version, version_text}
use Rattle.text.specs.Digits.{digits}
use Rattle.text.specs.Meaning.{no_digit_first}
use Rattle.text.proofs.DigitLaws.{digits-small, digits-large, digits-induction}
use Rattle.text.proofs.Bounds.{first-within, second-within, third-within, fourth-within}

-- ---- what ends a number

pub ends-at-end : no_digit_first [] ≡ true
unfolding no_digit_first
ends-at-end = refl

pub ends-at-comma : (l : List ℕ) → no_digit_first (comma ∷ l) ≡ true
unfolding no_digit_first digit_of
ends-at-comma l = refl

pub ends-at-LF : (l : List ℕ) → no_digit_first (LF ∷ l) ≡ true
unfolding no_digit_first digit_of
ends-at-LF l = refl

pub ends-at-dot : (l : List ℕ) → no_digit_first (dot ∷ l) ≡ true
unfolding no_digit_first digit_of
ends-at-dot l = refl

-- ---- texts at a position

-- behind a text that stands at a position
pub drop_past : (s : List ℕ) (at : ℕ) (xs ys : List ℕ) → drop at s ≡ xs ++ ys → drop (at + length xs) s ≡ ys
drop_past s at xs ys e = sym (drop-drop (length xs) at s) ∙ rw e (drop-append_seam xs ys)

-- the byte that stands there
pub byte-there : (s : List ℕ) (at b : ℕ) (l : List ℕ) → drop at s ≡ b ∷ l → get_or s at 0 ≡ b
byte-there s at b l e = rw (add-zero, e) at (sym (get_or-drop at s 0 0))

-- ---- numbers

pub digit-read : (n : ℕ) → n < 10 → digit_of (48 + n) ≡ n
unfolding digit_of
digit-read n h = rw (le-ltb (48 + n) 48 (omega arith), le-ltb 57 (48 + n) (omega arith)) (omega arith)

-- a number's digits are read to their end
digits-read : (most p n : ℕ) (t : List ℕ) → n ≤ most → number_begins most p (digits n ++ t) ≡ number_goes_on most n (p + length (digits n)) t
unfolding number_begins number_goes_on
digits-read most p = digits-induction _
    (λ n s t m. rw (digits-small n s, digit-read n s, lt-leb 10 n s, le-ltb most n m))
    (λ n b r t m.
    let d : n % 10 < 10 = omega arith in
    let e : n / 10 * 10 + n % 10 ≡ n = omega arith in
    rw (
      digits-large n b,
      append_assoc,
      r ((48 + n % 10) ∷ t) (omega arith),
      digit-read (n % 10) d,
      lt-leb 10 (n % 10) d,
      ne_eqb (n / 10) 0 (omega arith),
      e,
      le-ltb most n m,
      length-append,
      add_assoc,
    ))

number-ended : (most n p : ℕ) (t : List ℕ) → no_digit_first t ≡ true → number_goes_on most n p t ≡ Some (n, cursor p)
unfolding number_goes_on no_digit_first
number-ended most n p [] h = refl
number-ended most n p (b ∷ t) h = rw h

module _ (s : List ℕ) (at : ℕ) (t : List ℕ) (h : no_digit_first t ≡ true) where
  pub number-back : (most n : ℕ) → n ≤ most → drop at s ≡ digits n ++ t → number_at s at most ≡ Some (n, cursor (at + length (digits n)))
  number-back most n m e = rw (e, digits-read most at n t m) (number-ended most n _ t h)

pub whole-number-back : (most n : ℕ) → n ≤ most → whole_number most (digits n) ≡ Some (n, cursor (length (digits n)))
unfolding whole_number
whole-number-back most n m =
    rw (
      number-back (digits n) 0 [] ends-at-end most n m (sym (append-nil (digits n))),
      zero-add (length (digits n)),
      le-ltb (length (digits n)) (length (digits n)) (omega arith),
    )

-- ---- versions

module _ (s : List ℕ) (at : ℕ) (t : List ℕ) (h : no_digit_first t ≡ true) where
  pub dotted-back : (most n : ℕ) → n ≤ most → drop at s ≡ (dot ∷ digits n) ++ t
      → dotted_at s at most ≡ Some (n, cursor (at + length (dot ∷ digits n)))
  unfolding dotted_at
  dotted-back most n m e =
      rw (byte-there s at dot _ e)
      (number-back s (at + 1) t h most n m (drop_past s at (dot ∷ []) _ e) ∙ ap (λ (p : ℕ). Some (n, cursor p)) (omega arith))

module _ (s : List ℕ) (at : ℕ) (t : List ℕ) (h : no_digit_first t ≡ true) where
  pub version-back : (v : Version) → version_within v ≡ true → drop at s ≡ version_text v ++ t
      → version_at s at ≡ Some (v, cursor (at + length (version_text v)))
  unfolding version_text version_at
  version-back v w e =
      let e₁ : drop at s ≡ digits v.first ++ ((dot ∷ digits v.second) ++ ((dot ∷ digits v.third) ++ ((dot ∷ digits v.fourth) ++ t))) = e ∙ simp append_assoc in
      let p₂ = at + length (digits v.first) in
      let e₂ = drop_past s at (digits v.first) _ e₁ in
      let p₃ = p₂ + length (dot ∷ digits v.second) in
      let e₃ = drop_past s p₂ (dot ∷ digits v.second) _ e₂ in
      let p₄ = p₃ + length (dot ∷ digits v.third) in
      let e₄ = drop_past s p₃ (dot ∷ digits v.third) _ e₃ in
      rw (
        number-back s at _ (ends-at-dot _) version_part_most v.first (first-within v w) e₁,
        dotted-back s p₂ _ (ends-at-dot _) version_part_most v.second (second-within v w) e₂,
        dotted-back s p₃ _ (ends-at-dot _) version_part_most v.third (third-within v w) e₃,
        dotted-back s p₄ t h version_last_most v.fourth (fourth-within v w) e₄,
      )
      (ap (λ (p : ℕ). Some (v, cursor p)) (simp (length-append, add_assoc)))

pub whole-version-back : (v : Version) → version_within v ≡ true → whole_version (version_text v) ≡ Some (v, cursor (length (version_text v)))
unfolding whole_version
whole-version-back v w =
    rw (
      version-back (version_text v) 0 [] ends-at-end v w (sym (append-nil (version_text v))),
      zero-add (length (version_text v)),
      le-ltb (length (version_text v)) (length (version_text v)) (omega arith),
    )
