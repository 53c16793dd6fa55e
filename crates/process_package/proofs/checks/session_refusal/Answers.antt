-- `process_package::checks::session_refusal` meets its contract: the staged table, and whether the list has the cluster, decide. Assumes
-- nothing.
use borrow.Author.Rules.{rules}
use mathlib.Core.Path.{◌≡◌}
use lib.ListN.{length}
use Rattle.base.proofs.Counted.{unmapped}
use Rattle.clusters.specs.Table.{clusters_most}
use Rattle.process_package.proofs.SessionRefusal.{staged-few, told-staged}
use Rattle.process_package.proofs.checks.session_refusal.Goals.{Start}
use Rattle.process_package.proofs.checks.session_refusal.Goals as goal

long : (c : Start) → length c.args.session.beginning.clusters ≡ clusters_most
long c = search (rules, unmapped)

pub action_refusal-requires : goal.action_refusal-requires
action_refusal-requires c = search (staged-few, (long (goal.at.action_refusal-requires c).Start))

pub returns : goal.returns
returns c = search (told-staged, (long (goal.at.returns c).Start))
