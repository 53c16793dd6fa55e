-- `rows::field::behind_field` meets its contract, by where the field ends. Assumes nothing.
use Rattle.rows.proofs.FieldLaws.{behind-on, behind-end}
use Rattle.rows.proofs.field.behind_field.Goals as goal

pub returns-then-end-s : goal.returns-then-end-s
returns-then-end-s c = search behind-on

pub returns-else-end-s : goal.returns-else-end-s
returns-else-end-s c = search behind-end
