-- The refusals of a call as data: each a condition and its number, in the order in which document 01 has them checked.
use Rattle.std.specs.Prelude.{Bool, true, not, cond, ◌&&◌, List, [], ◌∷◌, ℕ}
use Rattle.std.proofs.Math.Option.{Option, none, some}

-- a condition under which a call is refused, and the number that it is refused with
pub record Refusal : Type 0 where
  pub applies : Bool
  pub number : ℕ

infix 20 refuse◌when◌
abbrev pub refuse◌when◌ : ℕ → Bool → Refusal
refuse n when b = record { applies = b; number = n }

-- "Checked in this order": the number of the first that applies; none where the call is accepted
unfoldable pub first_refusal : List Refusal → Option ℕ
first_refusal [] = none
first_refusal (r ∷ rs) = cond r.applies (some r.number) (first_refusal rs)

-- a call with these refusals is accepted
unfoldable pub none_applies : List Refusal → Bool
none_applies [] = true
none_applies (r ∷ rs) = not r.applies && none_applies rs

-- "the refusal number, or 0"
abbrev pub number_or_zero : Option ℕ → ℕ
number_or_zero none = 0
number_or_zero (some number) = number
