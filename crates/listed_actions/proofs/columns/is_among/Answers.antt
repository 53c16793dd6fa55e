-- `listed_actions::columns::is_among` meets its contract. Assumes nothing.
use mathlib.Core.Path.{◌∙◌}
use Rattle.listed_actions.proofs.Among.{any-among}
use Rattle.listed_actions.proofs.columns.is_among.Goals as goal

pub returns : goal.returns
returns c = c.contains.ensures.value ∙ any-among _ _
