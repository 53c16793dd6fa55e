-- Tests as facts: conjunctions, disjunctions and choices taken apart and put together, with case splits that keep the fact.
-- Assumes nothing.
use mathlib.Core.Path.{◌≡◌, refl, sym, ◌∙◌}
use mathlib.Core.Bool.{Bool, true, false, cond, ◌&&◌, ◌||◌, true≢false, false≢true}
use mathlib.Core.Option.{none, some}

-- ---- conjunctions

pub and_left : (a b : Bool) → a && b ≡ true → a ≡ true
and_left true b t = refl
and_left false b t = t

pub and_right : (a b : Bool) → a && b ≡ true → b ≡ true
and_right true b t = t
and_right false b t = absurd (false≢true t)

pub and_both : (a b : Bool) → a ≡ true → b ≡ true → a && b ≡ true
and_both true b s t = t
and_both false b s t = s

-- ---- disjunctions

pub or_cases {ℓ} : {X : Type ℓ} (a b : Bool) → a || b ≡ true → (a ≡ true → X) → (b ≡ true → X) → X
or_cases true b t f g = f refl
or_cases false b t f g = g t

pub or_left_false : (a b : Bool) → a || b ≡ false → a ≡ false
or_left_false true b t = t
or_left_false false b t = refl

pub or_right_false : (a b : Bool) → a || b ≡ false → b ≡ false
or_right_false true b t = absurd (true≢false t)
or_right_false false b t = t

pub or-first : (a b : Bool) → a ≡ true → a || b ≡ true
or-first true b t = refl
or-first false b t = absurd (false≢true t)

pub or-second : (a b : Bool) → b ≡ true → a || b ≡ true
or-second true b t = refl
or-second false b t = t

-- ---- case splits that keep the fact

pub bool_cases {ℓ} : {X : Type ℓ} (b : Bool) → (b ≡ true → X) → (b ≡ false → X) → X
bool_cases true f g = f refl
bool_cases false f g = g refl

pub clash {ℓ} : {X : Type ℓ} {b : Bool} → b ≡ true → b ≡ false → X
clash s t = absurd (true≢false (sym s ∙ t))

pub none-some {ℓ} : {A : Type ℓ} {X : Type 0} {a : A} → none ≡ some a → X
none-some e = let z : ◌≡◌ {A = Bool} true false = cc in absurd (true≢false z)

-- ---- choices

pub cond-true {ℓ} : {X : Type ℓ} {b : Bool} (x y : X) → b ≡ true → cond b x y ≡ x
cond-true {b = b} x y t = rw t

pub cond-false {ℓ} : {X : Type ℓ} {b : Bool} (x y : X) → b ≡ false → cond b x y ≡ y
cond-false {b = b} x y t = rw t

-- to show something of a choice, show it of both, each with what the test says
pub cond_cases {ℓ ℓ'} : {A : Type ℓ} (P : A → Type ℓ') (t : Bool) (a b : A) → (t ≡ true → P a) → (t ≡ false → P b) → P (cond t a b)
cond_cases P true a b f g = f refl
cond_cases P false a b f g = g refl
