-- The bytes of numbers and versions as text: digits and dots only, so no comma and no LF, and how many there are. Assumes nothing.
use Prim.Native.Nat.{ℕ, ◌+◌, ◌/◌, ◌%◌, ◌≤◌, ◌<◌}
use mathlib.Core.Path.{◌≡◌, refl}
use mathlib.Core.Bool.{Bool, true, false}
use mathlib.Core.List.{List, [], ◌∷◌, ◌++◌}
use native.Mathlib.Omega.{arith}
use lib.ListN.{length, length-append}
use lib.Dec.{ltb}
use borrow.Author.Tests.{lt-ltb}
use Rattle.base.specs.Quoted.{dot, comma, LF}
use Rattle.base.proofs.Tests.{and_both, and_left, and_right, or-first, clash}
use Rattle.text.specs.declared.version.Version.{Version}
use Rattle.text.specs.Number.{digit_of}
use Rattle.text.specs.Version.{version_within, version_text}
use Rattle.text.specs.Digits.{digits}
use Rattle.text.specs.Meaning.{each_byte, digit_or_dot}
use Rattle.text.proofs.DigitLaws.{digits-small, digits-large, digits-induction, five-digits, ten-digits, some-digit}
use Rattle.text.proofs.Bounds.{first-within, second-within, third-within, fourth-within}
use Rattle.text.proofs.RoundTrip.{digit-read}

-- ---- a test that each byte passes

module _ (test : ℕ → Bool) where
  pub each_append : (xs ys : List ℕ) → each_byte test xs ≡ true → each_byte test ys ≡ true → each_byte test (xs ++ ys) ≡ true
  unfolding each_byte
  each_append [] ys f g = g
  each_append (x ∷ xs) ys f g = and_both (test x) _ (and_left (test x) _ f) (each_append xs ys (and_right (test x) _ f) g)

  pub each-cons : (x : ℕ) (xs : List ℕ) → test x ≡ true → each_byte test xs ≡ true → each_byte test (x ∷ xs) ≡ true
  unfolding each_byte
  each-cons x xs f g = and_both (test x) _ f g

  pub each_nil : each_byte test [] ≡ true
  unfolding each_byte
  each_nil = refl

  pub each_first : (x : ℕ) (xs : List ℕ) → each_byte test (x ∷ xs) ≡ true → test x ≡ true
  unfolding each_byte
  each_first x xs f = and_left (test x) _ f

  pub each-rest : (x : ℕ) (xs : List ℕ) → each_byte test (x ∷ xs) ≡ true → each_byte test xs ≡ true
  unfolding each_byte
  each-rest x xs f = and_right (test x) _ f

-- ---- digits and dots

digit-passes : (n : ℕ) → n < 10 → digit_or_dot (48 + n) ≡ true
unfolding digit_or_dot
digit-passes n h = or-first (ltb (digit_of (48 + n)) 10) _ (rw (digit-read n h) (lt-ltb n 10 h))

dot-passes : digit_or_dot dot ≡ true
unfolding digit_or_dot digit_of
dot-passes = refl

pub digit-or-dot-no-comma : (b : ℕ) → digit_or_dot b ≡ true → b ≡ comma → ⊥
unfolding digit_or_dot digit_of
digit-or-dot-no-comma b h e = let z : false ≡ true = rw e at h in clash z refl

pub digit-or-dot-no-LF : (b : ℕ) → digit_or_dot b ≡ true → b ≡ LF → ⊥
unfolding digit_or_dot digit_of
digit-or-dot-no-LF b h e = let z : false ≡ true = rw e at h in clash z refl

pub digits-bytes : (n : ℕ) → each_byte digit_or_dot (digits n) ≡ true
digits-bytes =
    digits-induction _
    (λ n h. rw (digits-small n h) (each-cons digit_or_dot (48 + n) [] (digit-passes n h) (each_nil digit_or_dot)))
    (λ n h r. rw (digits-large n h) (each_append digit_or_dot (digits (n / 10)) _ r
    (each-cons digit_or_dot (48 + n % 10) [] (digit-passes (n % 10) (omega arith)) (each_nil digit_or_dot))))

dotted-bytes : (n : ℕ) → each_byte digit_or_dot (dot ∷ digits n) ≡ true
dotted-bytes n = each-cons digit_or_dot dot (digits n) dot-passes (digits-bytes n)

pub version-bytes : (v : Version) → each_byte digit_or_dot (version_text v) ≡ true
unfolding version_text
version-bytes v =
    each_append digit_or_dot (digits v.first) _ (digits-bytes v.first)
    (each_append digit_or_dot (dot ∷ digits v.second) _ (dotted-bytes v.second)
    (each_append digit_or_dot (dot ∷ digits v.third) _ (dotted-bytes v.third) (dotted-bytes v.fourth)))

-- ---- how many bytes a version has

pub version-most : (v : Version) → version_within v ≡ true → length (version_text v) ≤ 28
unfolding version_text
version-most v w =
    let a = first-within v w in
    let b = second-within v w in
    let c = third-within v w in
    let d = fourth-within v w in
    simp length-append
    (omega (
      arith,
      five-digits v.first (omega arith),
      five-digits v.second (omega arith),
      five-digits v.third (omega arith),
      ten-digits v.fourth d,
    ))

-- no version has an empty text
pub version-some : (v : Version) → 1 ≤ length (version_text v)
unfolding version_text
version-some v = simp length-append (omega (arith, some-digit v.first))
