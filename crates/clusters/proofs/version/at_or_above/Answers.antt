-- `clusters::version::at_or_above` meets its contract: the derived order is that of the definition. Assumes nothing.
use mathlib.Core.Path.{◌∙◌}
use Rattle.clusters.proofs.Order.{at-or-above-is}
use Rattle.clusters.proofs.version.at_or_above.Goals as goal

pub returns : goal.returns
returns c = c.ge.ensures ∙ at-or-above-is c.args.v c.args.least
