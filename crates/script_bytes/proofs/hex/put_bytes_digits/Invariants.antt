-- `script_bytes::hex::put_bytes_digits` meets its contract. Invariant: with the digits of the bytes from `i` on put at `next`, those of all bytes
-- stand. Assumes nothing.
use lib.ListN.{drop}
use Rattle.text.proofs.Putting.{Putting}
use Rattle.script_bytes.specs.Hex.{bytes_digits}
use Rattle.script_bytes.proofs.hex.put_bytes_digits.Given as goal

abbrev pub invariant-loop-b : goal.invariant-loop-b
invariant-loop-b l = Putting l.initial.buf l.at (bytes_digits l.part) l.buf l.next (bytes_digits (drop l.b-index l.part))
