-- `rows::field::cell_start` meets its contract: a field passed in each turn. Assumes nothing.
use Rattle.rows.proofs.FieldLaws.{cell-next, cell-here}
use Rattle.rows.proofs.field.cell_start.Goals as goal

pub loop-preserved : goal.loop-preserved
loop-preserved c = (c.behind_field-from.ensures.within, search cell-next)

pub returns : goal.returns
returns c = (c.loop.invariant.0, search cell-here)
