-- `script_bytes::block::put_typed` meets its contract. Invariant: with the bytes from number i on put from at + i on, all bytes stand.
-- Assumes nothing.
use Prim.Native.Nat.{◌+◌, ◌≤◌}
use mathlib.Core.List.{map}
use lib.ListN.{length, drop}
use Rattle.text.proofs.Putting.{Putting}
use Rattle.script_bytes.specs.Block.{typed_byte}
use Rattle.script_bytes.proofs.block.put_typed.Given as goal

abbrev pub invariant-loop-i : goal.invariant-loop-i
invariant-loop-i l = (l.i ≤ length l.text) × Putting l.initial.buf l.at (map typed_byte l.text) l.buf (l.at + l.i) (drop l.i (map typed_byte l.text))
