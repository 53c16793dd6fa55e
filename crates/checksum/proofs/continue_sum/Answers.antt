-- `checksum::continue_sum` meets its contract: a part is its two halves joined. Assumes nothing.
use Prim.Native.Nat.{ℕ, ◌-◌, ◌/◌}
use mathlib.Core.Bool.{true}
use mathlib.Core.Path.{◌≡◌, ap, sym, ◌∙◌}
use mathlib.Core.List.{List}
use native.Mathlib.Omega.{arith}
use lib.ListN.{length, take, drop, take-append-drop}
use borrow.Author.Rules.{part_to_end}
use Rattle.checksum.specs.declared.Sums.{Sums}
use Rattle.checksum.specs.Sum.{continued, sums_within}
use Rattle.checksum.proofs.Laws.{continued-within, continued-append}
use Rattle.checksum.proofs.continue_sum.Goals as goal

-- the pair of the first half is within its limit
half-within : (s first : Sums) (bytes : List ℕ) → sums_within s ≡ true → first ≡ continued s bytes → sums_within first ≡ true
half-within s first bytes t e = rw e (continued-within s bytes t)

-- the pair of a part, from those of its two halves as the code takes them
halves : (s first both : Sums) (part : List ℕ)
    → first ≡ continued s (take (length part / 2 - 0) (drop 0 part))
    → both ≡ continued first (take (length part - length part / 2) (drop (length part / 2) part))
    → both ≡ continued s part
halves s first both part e₁ e₂ =
    let half = length part / 2 in
    let start : half - 0 ≡ half = omega arith in
    let joined = sym (continued-append s (take half part) (drop half part)) ∙ ap (continued s) (take-append-drop half part) in
    rw (e₂, e₁, part_to_end part half, start) joined

pub add_bytes-requires : goal.add_bytes-requires
add_bytes-requires c = search half-within

pub returns : goal.returns
returns c = halves _ _ _ _ c.add_bytes-so_far.ensures c.add_bytes.ensures
