-- `text::write::put_number` meets its contract: a digit stored leaves those of `rest / 10` to store. Assumes nothing.
use lib.ListN.{length-set}
use native.Mathlib.Omega.{arith}
use Rattle.text.proofs.DigitLaws.{length-large}
use Rattle.text.proofs.PutLaws.{rest-digits}
use Rattle.text.proofs.write.put_number.Goals as goal

pub loop-rest-preserved : goal.loop-rest-preserved
loop-rest-preserved c =
    (omega (arith, length-large c.loop-rest.rest c.loop-rest-test.true), simp length-set (omega arith), simp length-set (omega arith), search rest-digits)
