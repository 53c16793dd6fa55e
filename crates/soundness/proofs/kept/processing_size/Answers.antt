-- `soundness::kept::processing_size` meets its contract: by the place of the package that is processing. Assumes nothing.
use borrow.Author.Rules.{rules}
use mathlib.Core.Path.{◌≡◌}
use lib.ListN.{length}
use Rattle.base.proofs.Counted.{unmapped}
use Rattle.model.specs.Sound.{packages_most}
use Rattle.soundness.proofs.ProcessingSize.{size-there, no_size}
use Rattle.soundness.proofs.kept.processing_size.Goals.{Start}
use Rattle.soundness.proofs.kept.processing_size.Goals as goal

long : (c : Start) → length c.args.t.packages ≡ packages_most
long c = search (rules, unmapped)

pub returns-then-i-t : goal.returns-then-i-t
returns-then-i-t c = search (size-there, (long (goal.at.returns-then-i-t c).Start))

pub returns : goal.returns
returns c = search (no_size, (long (goal.at.returns c).Start))
