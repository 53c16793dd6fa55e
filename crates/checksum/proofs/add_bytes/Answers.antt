-- `checksum::add_bytes` meets its contract. The loop's invariant: the pair so far is within its limit, and continued over the
-- bytes left it is the pair that the whole part gives. The table that is lent for each byte passes its test, which is computed here, once.
-- Assumes nothing.
use mathlib.Core.Path.{refl, sym, ◌∙◌}
use borrow.Author.Rules.{rules}
use Rattle.checksum.specs.RemainderTable.{remainders_from, is_remainder_table}
use Rattle.checksum.proofs.Laws.{continued-turn, continued-end, step-within}
use Rattle.checksum.proofs.add_bytes.Goals as goal

pub returns-then-part-eq0 : goal.returns-then-part-eq0
returns-then-part-eq0 c = sym (continued-end _ _ 0 (search rules))

pub add_byte-so_far-requires : goal.add_byte-so_far-requires
unfolding is_remainder_table remainders_from
add_byte-so_far-requires c = (refl, c.loop-b.invariant.0)

pub loop-b-preserved : goal.loop-b-preserved
loop-b-preserved c =
    let at = c.loop-b in
    let e = c.add_byte-so_far.ensures in (
      rw e (step-within _ _),
      at.invariant.1 ∙ continued-turn at.so_far _ at.b-index c.loop-b-test.true ∙ rw e,
    )

pub returns : goal.returns
returns c = sym (c.loop-b.invariant.1 ∙ continued-end _ _ _ c.loop-b-test.false)
