-- `change_info::change_info` meets its contract: 1 of an unsound state, and of a sound one the report behind it. Assumes nothing.
use Rattle.base.proofs.Ladder.{told-yes}
use Rattle.model.specs.Reading.{change_info_report}
use Rattle.reading_reply.proofs.ReportLaws.{reports}
use Rattle.change_info.proofs.change_info.Goals as goal

pub returns-then-not-sound : goal.returns-then-not-sound
unfolding change_info_report
returns-then-not-sound c = search reports

pub change_info_on_sound-requires : goal.change_info_on_sound-requires
change_info_on_sound-requires c = search told-yes

pub returns : goal.returns
unfolding change_info_report
returns c = search reports
