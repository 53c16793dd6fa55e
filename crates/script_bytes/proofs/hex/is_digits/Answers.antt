-- `script_bytes::hex::is_digits` meets its contract: the chain's result, and the laws of HexLaws. Assumes nothing.
use Rattle.std.proofs.Common.{rules, arith}
use Rattle.std.proofs.lemmas.Iterator.{YieldsList-from_slice}
use Rattle.std.proofs.lemmas.Iterator.Search.{all_from_yields_List}
use Rattle.script_bytes.specs.Hex.{is_digit}
use Rattle.script_bytes.proofs.HexLaws.{digits-odd, digits-even}
use Rattle.script_bytes.proofs.hex.is_digits.Goals as goal

pub returns-then-word-eq0 : goal.returns-then-word-eq0
returns-then-word-eq0 c =
    digits-even c.args.word.now c.all.result (omega arith)
    (all_from_yields_List is_digit _ _ c.all.result c.all.ensures.ran (YieldsList-from_slice c.args.word.now cc) (λ x b q k. search rules))

pub returns-else-word-eq0 : goal.returns-else-word-eq0
returns-else-word-eq0 c = digits-odd c.args.word.now c.if-word-eq0.false
