-- `clusters::version::fulfils` meets its contract: the two tests of the definition, in its order. Assumes nothing.
use mathlib.Core.Path.{◌∙◌}
use Rattle.clusters.proofs.Order.{at-or-above-is, fulfils-same, fulfils-other}
use Rattle.clusters.proofs.version.fulfils.Goals as goal

pub returns-then-v-least : goal.returns-then-v-least
returns-then-v-least c =
    c.ge.ensures ∙ at-or-above-is c.args.v c.args.least ∙ fulfils-same c.args.v c.args.least c.if-v-least.true

pub returns-else-v-least : goal.returns-else-v-least
returns-else-v-least c = fulfils-other c.args.v c.args.least c.if-v-least.false
