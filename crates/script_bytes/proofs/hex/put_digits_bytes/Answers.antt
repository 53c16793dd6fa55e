-- `script_bytes::hex::put_digits_bytes` meets its contract. Invariant: with the bytes from number i on put from at + i on, all bytes stand.
-- Measure: the bytes left. Assumes nothing.
use native.Mathlib.Omega.{arith}
use borrow.Author.Rules.{rules}
use Rattle.text.proofs.Putting.{bytes-begin}
use Rattle.script_bytes.proofs.HexLaws.{high_digit, low_digit, digits-byte-room, digits-byte-put, digits-bytes-done}
use Rattle.script_bytes.proofs.hex.put_digits_bytes.Goals as goal

pub loop-i-init : goal.loop-i-init
loop-i-init c = (omega arith, bytes-begin _ _ _)

pub digits_byte-requires : goal.digits_byte-requires
digits_byte-requires c = search (high_digit, low_digit)

pub bounds-buf-at : goal.bounds-buf-at
bounds-buf-at c = search digits-byte-room

pub loop-i-preserved : goal.loop-i-preserved
loop-i-preserved c = (search rules, search digits-byte-put)

pub returns : goal.returns
returns c = search digits-bytes-done
