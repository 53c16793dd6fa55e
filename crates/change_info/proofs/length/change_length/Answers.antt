-- `change_info::length::change_length` meets its contract. The number fits a u32, so no sum wraps. Assumes nothing.
use Prim.Native.Nat.{◌≤◌}
use native.Mathlib.Omega.{arith}
use mathlib.Core.Path.{ap}
use lib.ListN.{length}
use Rattle.text.proofs.DigitLaws.{few-digits}
use Rattle.text.proofs.PutPair.{pair-length}
use Rattle.change_info.proofs.LineParts.{line-pair}
use borrow.Author.Rules.{rules}
use Rattle.change_info.proofs.length.change_length.Goals.{After-word}
use Rattle.change_info.proofs.length.change_length.Goals as goal

part-short : (c : After-word) → c.number_length.result ≤ 10
part-short c = few-digits c.args.a.cluster.part _ (search rules) c.number_length.ensures

pub overflow_add-result : goal.overflow_add-result
overflow_add-result c = omega (arith, part-short (goal.at.overflow_add-result c).After-word, c.word.ensures.most)

pub overflow_add-result-2 : goal.overflow_add-result-2
overflow_add-result-2 c = omega (arith, part-short (goal.at.overflow_add-result-2 c).After-word, c.word.ensures.most)

pub returns : goal.returns
returns c = omega (arith, pair-length (line-pair c.args.a), c.number_length.ensures, ap length c.word.ensures.meaning)
