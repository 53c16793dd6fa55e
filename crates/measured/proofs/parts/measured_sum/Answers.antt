-- `measured::parts::measured_sum` meets its contract: the sum from the start over all bytes. Assumes nothing.
use mathlib.Core.Path.{◌≡◌, ap, ◌∙◌}
use mathlib.Core.Bool.{true}
use mathlib.Core.List.{List}
use Prim.Native.Nat.{ℕ}
use Rattle.checksum.specs.declared.Sums.{Sums}
use Rattle.checksum.specs.Sum.{start_sums, continued, sum_number, sum_of, sums_within}
use Rattle.checksum.proofs.Laws.{start-within, continued-within}
use Rattle.measured.proofs.parts.measured_sum.Goals as goal

begins-within : (first : Sums) → first ≡ start_sums → sums_within first ≡ true
begins-within first is = ap sums_within is ∙ start-within

ends-within : (first last : Sums) (bytes : List ℕ) → first ≡ start_sums → last ≡ continued first bytes → sums_within last ≡ true
ends-within first last bytes is ends = ap sums_within ends ∙ continued-within first bytes (begins-within first is)

whole : (first last : Sums) (bytes : List ℕ) (number : ℕ) → first ≡ start_sums → last ≡ continued first bytes → number ≡ sum_number last
    → number ≡ sum_of bytes
unfolding sum_of
whole first last bytes number is ends gives = gives ∙ ap sum_number (ends ∙ ap (λ (s : Sums). continued s bytes) is)

pub continue_sum-requires : goal.continue_sum-requires
continue_sum-requires c = search begins-within

pub number-requires : goal.number-requires
number-requires c = search ends-within

pub returns : goal.returns
returns c = search whole
