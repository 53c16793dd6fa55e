-- `rows::field::field_end` meets its contract: the field ends at the first byte that ends one, or with the text. Assumes nothing.
use Rattle.rows.proofs.FieldLaws.{field-found, field-not-found}
use Rattle.rows.proofs.field.field_end.Goals as goal

pub returns-in-Some : goal.returns-in-Some
returns-in-Some c = search field-found

pub returns-in-None : goal.returns-in-None
returns-in-None c = search field-not-found
