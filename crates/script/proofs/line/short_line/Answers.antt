-- `script::line::short_line` meets its contract: no number is the last word. Assumes nothing.
use Rattle.script.proofs.LineLaws.{line-fixed}
use Rattle.script.proofs.line.short_line.Goals as goal

pub returns-in_default : goal.returns-in_default
returns-in_default c = search line-fixed
