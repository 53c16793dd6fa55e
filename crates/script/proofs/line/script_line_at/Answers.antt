-- `script::line::script_line_at` meets its contract: a law for each way out. Assumes nothing.
use Rattle.script.proofs.LineLaws.{line-none, line-remark, line-command}
use Rattle.script.proofs.line.script_line_at.Goals as goal

pub returns-then-s-from : goal.returns-then-s-from
returns-then-s-from c = search line-none

pub returns-then-s-from-eq35 : goal.returns-then-s-from-eq35
returns-then-s-from-eq35 c = search line-remark

pub returns : goal.returns
returns c = search line-command
