-- `measured::calls::measured_load` meets its contract: the two ways out behind Load, with no row. Assumes nothing.
use borrow.Author.Rules.{rules}
use native.Mathlib.Omega.{arith}
use Rattle.measured.proofs.NumberedWays.{no_rows, none_made, ends-bad, ends-made}
use Rattle.measured.proofs.calls.measured_load.Goals as goal

pub returns-in_default : goal.returns-in_default
returns-in_default c =
    ends-bad _ _ _ _ _ _ _ _ (search rules) c.load-loaded.result _ c.load-loaded.ensures.exact no_rows (omega arith) c.in_default.not-Done (search rules)

pub returns : goal.returns
returns c =
    ends-made _ _ _ _ _ _ _ _ (search rules) c.load-loaded.result _ c.load-loaded.ensures.exact no_rows (omega arith) c.load-loaded.ensures.meaning (search rules) c.load-loaded.result.state _ _ (none_made _ _) (search rules)
