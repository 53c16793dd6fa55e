-- Packages on the code's structs.
use Rattle.std.specs.Prelude.{ℕ, List, map, length}
use Rattle.model.specs.State as model
use Rattle.model.specs.State.{Store}
use Rattle.model.specs.Reading.{ReadingReply, Report, PackageRecord, package_records, report_reply}
use Rattle.model.specs.Reading.{packages_report}
use Rattle.state.specs.declared.state.State.{State}
use Rattle.state.specs.View.{view_state}
use Rattle.packages_report.specs.declared.Record.{Record}
use Rattle.packages_report.specs.Records.{recorded, view_record}
use Rattle.reading_reply.specs.declared.ReadingReply.{ReadingReply as Reply}
use Rattle.reading_reply.specs.Reply.{view_report}

-- ---- what Packages answers and leaves in the lent list

-- the records of all packages, as structs: "records (id, size, received, state) in id order"
abbrev pub listed : State → List Record
listed s = recorded s.transfers

-- "the number of records .. written", or a refusal, for a list with room for so many records
unfoldable pub packages_reply : model.State → Store → ℕ → ReadingReply
packages_reply s store room = report_reply s store (length (package_records s)) room

-- a list of records as the model's
abbrev pub view_list : List Record → List PackageRecord
view_list = map view_record

-- answer and list as the model's report
abbrev pub packages_given : Reply → List Record → Report PackageRecord
packages_given answer list = view_report answer (view_list list)

-- the model's report of a state and a lent list
abbrev pub model_packages : State → Store → List Record → Report PackageRecord
model_packages s store list = packages_report (view_state s) store (view_list list)
