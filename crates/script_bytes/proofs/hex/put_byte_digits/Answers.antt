-- `script_bytes::hex::put_byte_digits` meets its contract: the higher digit and the lower one behind it. Assumes nothing.
use native.Mathlib.Omega.{arith}
use lib.ListN.{length-set}
use Rattle.script_bytes.specs.Hex.{byte_digits}
use Rattle.script_bytes.proofs.HexLaws.{put-pair}
use Rattle.script_bytes.proofs.hex.put_byte_digits.Goals as goal

pub bounds-buf-at : goal.bounds-buf-at
unfolding byte_digits
bounds-buf-at c = omega arith

pub bounds-buf-at-2 : goal.bounds-buf-at-2
unfolding byte_digits
bounds-buf-at-2 c = simp length-set (omega arith)

pub returns : goal.returns
returns c = search put-pair
