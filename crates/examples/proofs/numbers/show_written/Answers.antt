-- `examples::numbers::show_written` is safe: ten digits fit the buffer. Assumes nothing.
use native.Mathlib.Omega.{arith}
use Rattle.text.proofs.DigitLaws.{ten-digits}
use borrow.Author.Rules.{rules}
use Rattle.examples.proofs.numbers.show_written.Goals as goal

pub put_number-requires : goal.put_number-requires
put_number-requires c = omega (arith, ten-digits c.args.n (search rules))
