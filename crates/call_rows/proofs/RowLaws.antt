-- The ways out of the functions on rows, each a law. Assumes nothing.
use Prim.Native.Nat.{ℕ, ◌+◌, ◌-◌, ◌≤◌}
use mathlib.Core.Path.{◌≡◌, refl, sym, ap, ◌∙◌}
use mathlib.Core.Bool.{Bool, true, false, ◌&&◌}
use mathlib.Core.List.{List}
use mathlib.Core.Option.{Option, none, some}
use native.Mathlib.Omega.{arith}
use lib.Dec.{eqb, leb}
use lib.ListN.{take, drop, get_or, get_or-eq_default}
use borrow.Author.Tests.{eq-eqb, ne_eqb, leb-true}
use Rattle.std.specs.Prelude as code
use Rattle.std.specs.Bool.{then_some}
use Rattle.base.proofs.Tests.{none-some, cond_cases}
use Rattle.call_rows.specs.declared.row.Row.{Row}
use Rattle.call_rows.specs.declared.row.MixedRequest.{MixedRequest}
use Rattle.call_rows.specs.Row.{block_of, request_in, request_if, has_one_number, requests_by_number, requested, request_within}

-- the part between the start and the end is the block
pub block-part : (r : Row) (bytes : List ℕ) → take (r.start + r.length - r.start) (drop r.start bytes) ≡ block_of r bytes
block-part r bytes =
    let whole : r.start + r.length - r.start ≡ r.length = omega arith in
    rw whole

-- ---- a row's request

-- what the code returns if a test holds
shown-if : (holds : Bool) (request : MixedRequest) → request_in (then_some holds request) ≡ request_if holds request
shown-if true request = refl
shown-if false request = refl

module _ (r : Row) where
  pub reserved-used : (r.reserved ≡ 0 → ⊥) → none ≡ requested r
  unfolding requested
  reserved-used h = rw (ne_eqb r.reserved 0 h)

  -- else the number of the call decides
  pub reserved-free : (given : Option MixedRequest) → r.reserved ≡ 0 → given ≡ get_or (requests_by_number r) r.call none → given ≡ requested r
  unfolding requested
  reserved-free given free same = rw (eq-eqb r.reserved 0 free) same

  -- a request of which nothing is demanded
  pub by_number : (k : ℕ) (given : Option MixedRequest) → r.call ≡ k → given ≡ get_or (requests_by_number r) k none
      → given ≡ get_or (requests_by_number r) r.call none
  by_number k given is same = same ∙ ap (λ (n : ℕ). get_or (requests_by_number r) n none) (sym is)

  -- one whose row has one number, none, or one that says a report; holds is what was found of the other words
  module _ (k : ℕ) (answer : code.Option MixedRequest) (request : MixedRequest) (holds : Bool) (found : holds ≡ has_one_number r) (is : r.call ≡ k) where
    pub with_number : answer ≡ then_some holds request → request_if (has_one_number r) request ≡ get_or (requests_by_number r) k none
        → request_in answer ≡ get_or (requests_by_number r) r.call none
    with_number same here = by_number k (request_in answer) is (ap request_in same ∙ shown-if holds request ∙ ap (λ (b : Bool). request_if b request) found ∙ here)

    pub without-number : answer ≡ then_some (eqb r.first 0 && holds) request
        → request_if (eqb r.first 0 && has_one_number r) request ≡ get_or (requests_by_number r) k none
        → request_in answer ≡ get_or (requests_by_number r) r.call none
    without-number same here = by_number k (request_in answer) is (ap request_in same ∙ shown-if (eqb r.first 0 && holds) request ∙ ap (λ (b : Bool). request_if (eqb r.first 0 && b) request) found ∙ here)

    pub with-report : answer ≡ then_some (leb r.first 1 && holds) request
        → request_if (leb r.first 1 && has_one_number r) request ≡ get_or (requests_by_number r) k none
        → request_in answer ≡ get_or (requests_by_number r) r.call none
    with-report same here = by_number k (request_in answer) is (ap request_in same ∙ shown-if (leb r.first 1 && holds) request ∙ ap (λ (b : Bool). request_if (leb r.first 1 && b) request) found ∙ here)

  pub no-such-call : 16 ≤ r.call → none ≡ get_or (requests_by_number r) r.call none
  unfolding requests_by_number
  no-such-call h = sym (get_or-eq_default (requests_by_number r) none {n = r.call} h)

-- a number that is none of the twelve, in two steps, and none of the old four
pub past-five : (n : ℕ) → (n ≡ 0 → ⊥) → (n ≡ 1 → ⊥) → (n ≡ 2 → ⊥) → (n ≡ 3 → ⊥) → (n ≡ 4 → ⊥) → (n ≡ 5 → ⊥) → 6 ≤ n
past-five n h0 h1 h2 h3 h4 h5 = omega arith

pub past-eleven : (n : ℕ) → 6 ≤ n → (n ≡ 6 → ⊥) → (n ≡ 7 → ⊥) → (n ≡ 8 → ⊥) → (n ≡ 9 → ⊥) → (n ≡ 10 → ⊥) → (n ≡ 11 → ⊥) → 12 ≤ n
past-eleven n h h6 h7 h8 h9 h10 h11 = omega arith

pub past-fifteen : (n : ℕ) → 12 ≤ n → (n ≡ 12 → ⊥) → (n ≡ 13 → ⊥) → (n ≡ 14 → ⊥) → (n ≡ 15 → ⊥) → 16 ≤ n
past-fifteen n h h12 h13 h14 h15 = omega arith

-- ---- a row that has a request

within : (r : Row) (room : ℕ) (request : MixedRequest) → request_within r room ≡ some request → r.start + r.length ≤ room
unfolding request_within
within r room request =
    cond_cases (λ (o : Option MixedRequest). o ≡ some request → r.start + r.length ≤ room) (leb (r.start + r.length) room) (requested r) none
    (λ t e. leb-true (r.start + r.length) room t) λ f e. none-some e

-- its block lies within the byte string
pub block_within : (r : Row) (room : ℕ) (answer : code.Option MixedRequest) (request : MixedRequest) → answer ≡ code.Some request
    → request_in answer ≡ request_within r room → r.start + r.length ≤ room
block_within r room answer request is told = within r room request (sym told ∙ ap request_in is)
