-- A definition that is a ladder of tests, and code that is one: `search ladder` at each return, `search told-ladder` where
-- a test is what a call answered. Assumes nothing.
use Prim.Native.Nat.{ℕ, ◌≤◌, ◌<◌}
use mathlib.Core.Path.{◌≡◌, sym, ◌∙◌}
use mathlib.Core.Bool.{Bool, true, false, not, cond, ◌&&◌, ◌||◌}
use lib.Dec.{leb}
use borrow.Author.Tests.{lt-ltb, le-ltb, eq-eqb, ne_eqb, le-leb, lt-leb, not-true, not-false}

pub take-first : {A : Type 0} (t : Bool) (a b x : A) → t ≡ true → x ≡ a → x ≡ cond t a b
take-first t a b x e q = rw e q

pub take_second : {A : Type 0} (t : Bool) (a b x : A) → t ≡ false → x ≡ b → x ≡ cond t a b
take_second t a b x e q = rw e q

pub and-stop : (a b : Bool) → a ≡ false → false ≡ a && b
and-stop a b e = rw e

pub and-on : (a b x : Bool) → a ≡ true → x ≡ b → x ≡ a && b
and-on a b x e q = rw e q

-- the same with the conjunction on the left
pub both-stop : (a b : Bool) → a ≡ false → a && b ≡ false
both-stop a b e = rw e

pub both-on : (a b x : Bool) → a ≡ true → b ≡ x → a && b ≡ x
both-on a b x e q = rw e q

pub or-stop : (a b : Bool) → a ≡ true → true ≡ a || b
or-stop a b e = rw e

pub or-on : (a b x : Bool) → a ≡ false → x ≡ b → x ≡ a || b
or-on a b x e q = rw e q

-- where a call gave what the definition tests: r is the call's result, and e what it ensures
pub told : (r t b : Bool) → r ≡ t → r ≡ b → t ≡ b
told r t b e q = sym e ∙ q

pub told-no : (r t : Bool) → r ≡ t → not r ≡ true → t ≡ false
told-no r t e q = sym e ∙ not-true r q

pub told-yes : (r t : Bool) → r ≡ t → not r ≡ false → t ≡ true
told-yes r t e q = sym e ∙ not-false r q

pub told-le : (k r n : ℕ) → r ≡ n → k ≤ r → leb k n ≡ true
told-le k r n e h = le-leb k n (rw e at h)

pub told-lt : (k r n : ℕ) → r ≡ n → r < k → leb k n ≡ false
told-lt k r n e h = lt-leb k n (rw e at h)

pub ruleset ladder = (take-first, take_second, and-stop, and-on, or-stop, or-on, lt-ltb, le-ltb, eq-eqb, ne_eqb, le-leb, lt-leb)

pub ruleset both = (both-stop, both-on)

pub ruleset told-ladder = (ladder, told, told-no, told-yes, told-le, told-lt)
