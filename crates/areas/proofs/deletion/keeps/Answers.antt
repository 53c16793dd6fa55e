-- `areas::deletion::keeps` meets its contract: each deletion as in the definition. Assumes nothing.
use Rattle.areas.proofs.deletion.keeps.Goals as goal

pub returns-in-WithId : goal.returns-in-WithId
returns-in-WithId c = rw c.in-WithId.is
