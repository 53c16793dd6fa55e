-- `script_bytes::block::put_typed` meets its contract. Invariant: with the bytes from number i on put from at + i on, all bytes stand.
-- Measure: the bytes left. Assumes nothing.
use native.Mathlib.Omega.{arith}
use borrow.Author.Rules.{rules}
use Rattle.text.proofs.Putting.{bytes-begin}
use Rattle.script_bytes.proofs.BlockLaws.{typed-room, typed-put, typed-done}
use Rattle.script_bytes.proofs.block.put_typed.Goals as goal

pub loop-i-init : goal.loop-i-init
loop-i-init c = (omega arith, bytes-begin _ _ _)

pub bounds-buf-at : goal.bounds-buf-at
bounds-buf-at c = search typed-room

pub loop-i-preserved : goal.loop-i-preserved
loop-i-preserved c = (search rules, search typed-put)

pub returns : goal.returns
returns c = search typed-done
