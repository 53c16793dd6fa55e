-- `script_bytes::hex::put_bytes_digits` meets its contract. Invariant: with the digits of the bytes from `i` on put at `next`, those of all bytes
-- stand. Measure: the bytes left. Assumes nothing.
use Rattle.text.proofs.Putting.{putting-begins, putting-done}
use Rattle.script_bytes.proofs.HexLaws.{digits-room, digits-put, digits-done}
use Rattle.script_bytes.proofs.hex.put_bytes_digits.Goals as goal

pub loop-b-init : goal.loop-b-init
loop-b-init c = putting-begins _ _ _

pub put_byte_digits-next-requires : goal.put_byte_digits-next-requires
put_byte_digits-next-requires c = search digits-room

pub loop-b-preserved : goal.loop-b-preserved
loop-b-preserved c = search digits-put

pub returns : goal.returns
returns c = search (putting-done, digits-done)
