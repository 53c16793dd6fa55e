-- `start_waves::waits::wait_of` meets its contract: no need is left, or the place of the cluster that it names. Assumes nothing.
use mathlib.Core.Path.{◌≡◌}
use lib.ListN.{length}
use borrow.Author.Rules.{rules}
use Rattle.base.proofs.Counted.{unmapped}
use Rattle.clusters.specs.Cluster.{needs_most}
use Rattle.start_waves.proofs.WaitLaws.{no-need-left, need-place}
use Rattle.start_waves.proofs.waits.wait_of.Goals.{Start}
use Rattle.start_waves.proofs.waits.wait_of.Goals as goal

long : (c : Start) → length c.args.c.needs ≡ needs_most
long c = search (rules, unmapped)

pub returns-then-j-c : goal.returns-then-j-c
returns-then-j-c c t e = no-need-left c.args.c c.requires.2 (long (goal.at.returns-then-j-c c).Start) _ _ t c.if-j-c.true

pub returns : goal.returns
returns c t e = need-place c.args.c c.requires.2 (long (goal.at.returns c).Start) _ _ t _ _ c.if-j-c.false e c.place_or_behind.ensures
