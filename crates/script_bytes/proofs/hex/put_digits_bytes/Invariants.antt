-- `script_bytes::hex::put_digits_bytes` meets its contract. Invariant: with the bytes from number i on put from at + i on, all bytes stand.
-- Assumes nothing.
use Prim.Native.Nat.{◌+◌, ◌/◌, ◌≤◌}
use lib.ListN.{length, drop}
use Rattle.text.proofs.Putting.{Putting}
use Rattle.script_bytes.specs.Hex.{digits_bytes}
use Rattle.script_bytes.proofs.hex.put_digits_bytes.Given as goal

abbrev pub invariant-loop-i : goal.invariant-loop-i
invariant-loop-i l = (l.i ≤ length l.word / 2) × Putting l.initial.buf l.at (digits_bytes l.word) l.buf (l.at + l.i) (drop l.i (digits_bytes l.word))
