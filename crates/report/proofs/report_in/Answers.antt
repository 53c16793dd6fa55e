-- `report::report_in` meets its contract: a case for each manager's state. Assumes nothing.
use Rattle.soundness.proofs.SoundSession.{session-fits, session-sound}
use Rattle.report.proofs.ReportLaws.{clean-up-fits}
use Rattle.report.proofs.report_in.Goals as goal

pub report_activating-requires : goal.report_activating-requires
report_activating-requires c = search (session-fits, session-sound)

pub report_cleaning_up-requires : goal.report_cleaning_up-requires
report_cleaning_up-requires c = search clean-up-fits
