-- `script::gathered::gather` meets its contract: a law for each way out. Assumes nothing.
use Rattle.script.proofs.GatheredLaws.{part-too-long, part-past, part-no-room, part-fits}
use Rattle.script.proofs.gathered.gather.Goals as goal

pub returns-then-gathered : goal.returns-then-gathered
returns-then-gathered c = search part-too-long

pub returns-then-line-count : goal.returns-then-line-count
returns-then-line-count c = search part-past

pub returns-then-line-count-2 : goal.returns-then-line-count-2
returns-then-line-count-2 c = search part-no-room

pub returns : goal.returns
returns c = search part-fits
