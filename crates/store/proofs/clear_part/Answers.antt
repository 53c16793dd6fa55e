-- `store::clear_part` meets its contract: the part of the store is lent to `clear`. Assumes nothing.
use native.Mathlib.Omega.{arith}
use Rattle.store.proofs.PositionLaws.{cleared-nothing, cleared-outside}
use Rattle.store.proofs.Parts.{part-cleared}
use Rattle.store.proofs.clear_part.Goals.{else-from-to-via-then-from-to+else-to-store, else-from-to-via-else-from-to}
use Rattle.store.proofs.clear_part.Goals as goal

pub returns-then-to-store : goal.returns-then-to-store
returns-then-to-store c = search part-cleared

pub returns-else-from-to : goal.returns-else-from-to
returns-else-from-to c =
    elim c.else-from-to.branch [ else-from-to-via-then-from-to+else-to-store w ↦ cleared-outside _ _ _ (omega arith) (omega arith) | else-from-to-via-else-from-to w ↦ cleared-nothing _ _ _ (omega arith) ]
