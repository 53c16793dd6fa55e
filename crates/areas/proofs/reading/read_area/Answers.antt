-- `areas::reading::read_area` meets its contract: the answer of the reader says what was read, or how it is refused. Assumes nothing.
use mathlib.Core.Path.{sym, ap, ◌∙◌}
use mathlib.Core.Option.{some}
use Rattle.areas.proofs.ReadingLaws.{read-ok, read-error}
use Rattle.areas.proofs.reading.read_area.Goals as goal

pub returns-in-Ok : goal.returns-in-Ok
returns-in-Ok c =
    let said = read-ok _ c.in-Ok.read (sym c.in-Ok.is ∙ c.read_package.ensures.exact) in
    record { refused = said.0; read = said.1 }

pub returns-in-Err : goal.returns-in-Err
returns-in-Err c =
    record { refused = ap some c.error_refusal.ensures ∙ read-error _ c.in-Err.error (sym c.in-Err.is ∙ c.read_package.ensures.exact); read = tt }
