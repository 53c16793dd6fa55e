-- `rows::field::cell_from` meets its contract: the part from where the field begins to where it ends. Assumes nothing.
use native.Mathlib.Omega.{arith}
use Rattle.rows.proofs.FieldLaws.{field-within, field-part}
use Rattle.rows.proofs.field.cell_from.Goals as goal

pub slice_bounds-result-end : goal.slice_bounds-result-end
slice_bounds-result-end c =
    let w = field-within _ _ _ c.field_end.ensures c.cell_start-from.ensures.0 in
    omega arith

pub returns : goal.returns
returns c = search field-part
