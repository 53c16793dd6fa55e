-- The records of Packages as structs, and what they stand for: "records (id, size, received, state) in id order".
use Rattle.std.specs.Prelude.{List, map, take}
use Rattle.model.specs.State.{package_state_number}
use Rattle.model.specs.Reading.{PackageRecord}
use Rattle.state.specs.declared.package.Package.{Package}
use Rattle.state.specs.declared.transfers.Transfers.{Transfers}
use Rattle.state.specs.View.{view_package_state}
use Rattle.packages_report.specs.declared.Record.{Record}

-- ---- as structs

abbrev pub record_of : Package → Record
record_of p = record { id = p.id; size = p.size; received = p.received; state = package_state_number (view_package_state p.state) }

-- the value of an unused place
abbrev pub cleared_record : Record
cleared_record = record { id = 0; size = 0; received = 0; state = 0 }

-- the records of all packages
abbrev pub recorded : Transfers → List Record
recorded t = map record_of (take t.count t.packages)

-- ---- as the model's

abbrev pub view_record : Record → PackageRecord
view_record r = record { id = r.id; size = r.size; received = r.received; state = r.state }
