-- `text::number::number_at` meets its contract: a law of `number_begins` for each way out. Assumes nothing.
use Rattle.text.proofs.NumberLaws.{begins-at-end, begins-no-digit, begins-above, begins-on}
use Rattle.text.proofs.number.number_at.Goals as goal

pub returns-in_err-get : goal.returns-in_err-get
returns-in_err-get c = search (begins-at-end, c.in_err-get.ensures.lookup)

pub returns-in_err-first : goal.returns-in_err-first
returns-in_err-first c = search (begins-no-digit, c.in_ok-get.ensures.lookup, c.in_err-first.ensures)

pub returns-then-most-first : goal.returns-then-most-first
returns-then-most-first c = search (begins-above, c.in_ok-get.ensures.lookup, c.in_ok-first.ensures)

pub returns : goal.returns
returns c = search (begins-on, c.in_ok-get.ensures.lookup, c.in_ok-first.ensures)
