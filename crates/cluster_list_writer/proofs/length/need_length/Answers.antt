-- `cluster_list_writer::length::need_length` meets its contract. The numbers fit a u32, so no sum wraps. Assumes nothing.
use Prim.Native.Nat.{◌≤◌}
use lib.ListN.{length}
use Rattle.text.specs.Version.{version_text}
use native.Mathlib.Omega.{arith}
use Rattle.text.proofs.DigitLaws.{few-digits}
use Rattle.cluster_list_writer.proofs.Texts.{need-cells-length, version-wide}
use borrow.Author.Rules.{rules}
use Rattle.cluster_list_writer.proofs.length.need_length.Goals.{After-number_length, After-version_length}
use Rattle.cluster_list_writer.proofs.length.need_length.Goals as goal

part-short : (c : After-number_length) → c.number_length.result ≤ 10
part-short c = few-digits c.args.n.part _ (search rules) c.number_length.ensures

version-short : (c : After-version_length) → length (version_text c.args.n.least) ≤ 43
version-short c = version-wide c.args.n.least (search rules) (search rules) (search rules) (search rules)

pub overflow_add-result : goal.overflow_add-result
overflow_add-result c = omega (arith, part-short (goal.at.overflow_add-result c).After-number_length, version-short (goal.at.overflow_add-result c).After-version_length)

pub overflow_add-result-2 : goal.overflow_add-result-2
overflow_add-result-2 c = omega (arith, part-short (goal.at.overflow_add-result-2 c).After-number_length, version-short (goal.at.overflow_add-result-2 c).After-version_length)

pub returns : goal.returns
returns c = omega (arith, need-cells-length c.args.n)
