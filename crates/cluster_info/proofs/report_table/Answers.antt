-- `cluster_info::report_table` meets its contract: too short, with the length needed, or written. Assumes nothing.
use Rattle.reading_reply.proofs.ReportLaws.{reports}
use Rattle.cluster_info.proofs.report_table.Goals as goal

pub returns-then-buffer-needed : goal.returns-then-buffer-needed
returns-then-buffer-needed c = search reports

pub returns : goal.returns
returns c = search reports
