-- `measured::calls::measured_calls` meets its contract: the four ways out, the last for calls of the twelve. Assumes nothing.
use borrow.Author.Rules.{rules}
use Rattle.base.proofs.Ladder.{told-no, told-yes}
use Rattle.measured.proofs.NumberedWays.{ends-malformed, ends-short, ends-bad, ends-made}
use Rattle.measured.proofs.calls.measured_calls.Goals as goal

pub returns-then-not-rows_well_formed : goal.returns-then-not-rows_well_formed
returns-then-not-rows_well_formed c = λ twelve. ends-malformed _ _ _ _ _ _ _ (search told-no) (search rules)

pub returns-then-words-answers : goal.returns-then-words-answers
returns-then-words-answers c = λ twelve. ends-short _ _ _ _ _ _ _ (search told-yes) (search rules) (search rules)

pub returns-in_default : goal.returns-in_default
returns-in_default c =
    λ twelve. ends-bad _ _ _ _ _ _ _ _ (search rules) c.load-loaded.result _ c.load-loaded.ensures.exact (search told-yes) (search rules) c.in_default.not-Done (search rules)

pub make_each-requires : goal.make_each-requires
make_each-requires c = record { bytes_value = search told-yes; words_in_bounds = search rules }

pub returns : goal.returns
returns c =
    λ twelve. ends-made _ _ _ _ _ _ _ _ (search rules) c.load-loaded.result _ c.load-loaded.ensures.exact (search told-yes) (search rules) c.load-loaded.ensures.meaning (search rules) c.make_each.result _ _ (c.make_each.ensures twelve) (search rules)
