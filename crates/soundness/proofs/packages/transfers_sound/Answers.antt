-- `soundness::packages::transfers_sound` meets its contract: the limits first, then what is looked through. Assumes nothing.
use mathlib.Core.Path.{◌≡◌, sym, ◌∙◌}
use mathlib.Core.Bool.{true}
use borrow.Author.Tests.{leb-true, not-true, not-false}
use lib.Dec.{leb}
use Rattle.base.proofs.Tests.{and_left, and_right}
use Rattle.base.proofs.Ladder.{and-stop, and-on}
use Rattle.model.specs.Sound.{packages_most}
use Rattle.soundness.proofs.TransferLimits.{within_limits, transfers-limits}
use Rattle.soundness.proofs.packages.transfers_sound.Goals.{Else-not-t-store_length}
use Rattle.soundness.proofs.packages.transfers_sound.Goals as goal

within : (c : Else-not-t-store_length) → (within_limits c.args.t c.args.store_length ≡ true)
within c = not-false _ c.if-not-t-store_length.false-raw

pub returns-then-not-t-store_length : goal.returns-then-not-t-store_length
returns-then-not-t-store_length c =
    and-stop (within_limits c.args.t c.args.store_length) _ (not-true _ c.if-not-t-store_length.true-raw) ∙ sym (transfers-limits c.args.t c.args.store_length)

pub packages_rise-requires : goal.packages_rise-requires
packages_rise-requires c =
    let few = leb c.args.t.count packages_most in
    (leb-true _ _ (and_left few _ (within (goal.at.packages_rise-requires c).Else-not-t-store_length)), leb-true _ _ (and_left _ _ (and_right few _ (within (goal.at.packages_rise-requires c).Else-not-t-store_length))))

pub returns : goal.returns
returns c =
    and-on (within_limits c.args.t c.args.store_length) _ _ (within (goal.at.returns c).Else-not-t-store_length) c.packages_rise.ensures ∙ sym (transfers-limits c.args.t c.args.store_length)
