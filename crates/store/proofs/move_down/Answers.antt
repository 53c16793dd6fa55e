-- `store::move_down` meets its contract: the library copies within the store, where the part lies in it and the move is down.
-- Assumes nothing.
use native.Mathlib.Omega.{arith}
use Rattle.store.proofs.PositionLaws.{moved_nothing, moved-outside}
use Rattle.store.proofs.Parts.{part-moved}
use Rattle.store.proofs.move_down.Goals.{else-to-from-via-then-to-from+then-from-store+else-count-store, else-to-from-via-then-to-from+else-from-store, else-to-from-via-else-to-from}
use Rattle.store.proofs.move_down.Goals as goal

pub returns-then-count-store : goal.returns-then-count-store
returns-then-count-store c = part-moved _ _ _ _ _ _ (omega arith) (omega arith) (omega arith) c.copy_within.ensures.after

pub returns-else-to-from : goal.returns-else-to-from
returns-else-to-from c =
    elim c.else-to-from.branch [ else-to-from-via-then-to-from+then-from-store+else-count-store w ↦ moved-outside _ _ _ _ (omega arith) (omega arith) | else-to-from-via-then-to-from+else-from-store w ↦ moved-outside _ _ _ _ (omega arith) (omega arith) | else-to-from-via-else-to-from w ↦ moved_nothing _ _ _ _ (omega arith) ]
