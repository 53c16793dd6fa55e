-- `transfer_data::data_refusal` meets its contract: the same tests in the same order. Assumes nothing.
use mathlib.Core.Path.{ap, ◌∙◌}
use mathlib.Core.Bool.{not}
use Rattle.base.proofs.RefusalNumbers.{numbers}
use Rattle.state.proofs.Tests.{same-transferring}
use Rattle.transfer_data.proofs.DataLaws.{incorrect-size}
use Rattle.transfer_data.proofs.data_refusal.Goals as goal

pub returns-then-ne : goal.returns-then-ne
returns-then-ne c = search (numbers, c.ne.ensures ∙ ap not (same-transferring c.args.p.state))

pub returns-then-counter-p : goal.returns-then-counter-p
returns-then-counter-p c = search (numbers, c.ne.ensures ∙ ap not (same-transferring c.args.p.state))

pub returns-then-block_length-left : goal.returns-then-block_length-left
returns-then-block_length-left c = search (numbers, incorrect-size, c.ne.ensures ∙ ap not (same-transferring c.args.p.state))

pub returns : goal.returns
returns c = search (numbers, incorrect-size, c.ne.ensures ∙ ap not (same-transferring c.args.p.state))
