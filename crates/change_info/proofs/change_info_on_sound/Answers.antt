-- `change_info::change_info_on_sound` meets its contract: the report of the session's changes. Assumes nothing.
use Rattle.change_info.proofs.ListedLines.{session-short, changes-report}
use Rattle.change_info.proofs.change_info_on_sound.Goals as goal

pub report_changes-requires : goal.report_changes-requires
report_changes-requires c =
    session-short c.args.s c.args.store.now c.requires

pub returns : goal.returns
returns c =
    changes-report c.args.s _ _ c.report_changes.ensures
