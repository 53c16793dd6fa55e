-- `store::put_block` meets its contract: the part of the store that is as long as the block is lent to the copier. Assumes nothing.
use native.Mathlib.Omega.{arith}
use borrow.Author.Rules.{rules}
use Rattle.store.proofs.PositionLaws.{written-outside}
use Rattle.store.proofs.Parts.{part-written}
use Rattle.store.proofs.put_block.Goals.{else-at-store-via-then-at-store+else-block-store, else-at-store-via-else-at-store}
use Rattle.store.proofs.put_block.Goals as goal

pub returns-then-block-store : goal.returns-then-block-store
returns-then-block-store c = search (rules, part-written)

pub returns-else-at-store : goal.returns-else-at-store
returns-else-at-store c =
    elim c.else-at-store.branch [ else-at-store-via-then-at-store+else-block-store w ↦ written-outside _ _ _ (omega arith) | else-at-store-via-else-at-store w ↦ written-outside _ _ _ (omega arith) ]
