-- `script::place::last_block` meets its contract: a law for each way out. Assumes nothing.
use mathlib.Core.Path.{◌∙◌}
use Rattle.script.proofs.PlaceLaws.{block_none, block_more, no_form, block_last}
use Rattle.script.proofs.place.last_block.Goals as goal

pub returns-then-s-from : goal.returns-then-s-from
returns-then-s-from c = search block_none

pub returns-then-to-s : goal.returns-then-to-s
returns-then-to-s c = search block_more

pub returns-in_err-form_of : goal.returns-in_err-form_of
returns-in_err-form_of c = c.from_residual.ensures ∙ no_form _ _ _ c.word_end-to.ensures.end _ c.if-to-s.false c.form_of.ensures c.in_err-form_of.was

pub returns : goal.returns
returns c = block_last _ _ _ c.word_end-to.ensures.end _ c.if-to-s.false c.form_of.ensures _ c.in_ok-form_of.was
