-- `packages_report::records::record_of` meets its contract. Assumes nothing.
use Rattle.packages_report.proofs.records.record_of.Goals as goal

pub returns : goal.returns
returns c = rw c.state_number.ensures
