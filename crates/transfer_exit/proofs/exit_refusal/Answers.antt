-- `transfer_exit::exit_refusal` meets its contract: the same tests in the same order, the text read last. Assumes nothing.
use mathlib.Core.Path.{◌≡◌, ap, ◌∙◌}
use mathlib.Core.Bool.{not}
use borrow.Author.Tests.{le-ltb}
use Rattle.base.specs.Refusals.{first_refusal}
use Rattle.base.proofs.Ladder.{told}
use Rattle.base.proofs.RefusalNumbers.{numbers, first-on}
use Rattle.refusal.specs.Number.{refused_with}
use Rattle.refusal.proofs.PassedUp.{passed-up}
use Rattle.model.specs.Step.{exit_refusals}
use Rattle.state.specs.View.{view_package}
use Rattle.state.proofs.Tests.{same-transferring}
use Rattle.areas.specs.Inside.{read_at}
use Rattle.transfer_exit.proofs.ExitLaws.{exit_read}
use Rattle.transfer_exit.proofs.exit_refusal.Goals.{After-read_area}
use Rattle.transfer_exit.proofs.exit_refusal.Goals as goal

-- past 5 and 8 the text decides
area-told : (c : After-read_area)
    → refused_with c.read_area.result ≡ first_refusal (exit_refusals (view_package c.args.p) (read_at c.args.t c.args.i c.args.p c.args.store.now))
area-told c =
    first-on _ 5 _ _ (told _ _ _ (c.ne.ensures ∙ ap not (same-transferring c.args.p.state)) c.if-ne.false)
    (first-on _ 8 _ _ (le-ltb _ _ c.if-p.false) (exit_read _ _ _ _ _ c.read_area.ensures.refused c.area_start-start.ensures))

pub returns-then-ne : goal.returns-then-ne
returns-then-ne c = search (numbers, c.ne.ensures ∙ ap not (same-transferring c.args.p.state))

pub returns-then-p : goal.returns-then-p
returns-then-p c = search (numbers, c.ne.ensures ∙ ap not (same-transferring c.args.p.state))

pub returns-in_err-read_area : goal.returns-in_err-read_area
returns-in_err-read_area c =
    rw (passed-up _ _ c.from_residual.ensures.1) (rw c.in_err-read_area.was at (area-told (goal.at.returns-in_err-read_area c).After-read_area))

pub returns : goal.returns
returns c = rw c.in_ok-read_area.was at (area-told (goal.at.returns c).After-read_area)
