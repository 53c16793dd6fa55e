-- `clusters::version::above` meets its contract: the derived order is that of the definition. Assumes nothing.
use mathlib.Core.Path.{◌∙◌}
use Rattle.clusters.proofs.Order.{above-is}
use Rattle.clusters.proofs.version.above.Goals as goal

pub returns : goal.returns
returns c = c.gt.ensures ∙ above-is c.args.v c.args.w
