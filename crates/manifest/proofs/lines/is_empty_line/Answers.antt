-- `manifest::lines::is_empty_line` meets its contract: a line of one field, which is empty. Assumes nothing.
use Rattle.manifest.proofs.EmptyLine.{not-one-field, one-empty-field}
use Rattle.manifest.proofs.lines.is_empty_line.Goals as goal

pub returns-then-is_some : goal.returns-then-is_some
returns-then-is_some c = search one-empty-field

pub returns-else-is_some : goal.returns-else-is_some
returns-else-is_some c = search not-one-field
