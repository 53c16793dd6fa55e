-- `script_answers::manager_state::put_state_name` meets its contract: the line of each state. Assumes nothing.
use borrow.Author.Rules.{rules}
use Rattle.script_answers.proofs.Laws.{named-state}
use Rattle.script_answers.proofs.manager_state.put_state_name.Goals as goal

pub returns-in-Idle : goal.returns-in-Idle
returns-in-Idle c = record { line = search named-state; inside = search rules }

pub returns-in-Ready : goal.returns-in-Ready
returns-in-Ready c = record { line = search named-state; inside = search rules }

pub returns-in-Processing : goal.returns-in-Processing
returns-in-Processing c = record { line = search named-state; inside = search rules }

pub returns-in-Activating : goal.returns-in-Activating
returns-in-Activating c = record { line = search named-state; inside = search rules }

pub returns-in-Verifying : goal.returns-in-Verifying
returns-in-Verifying c = record { line = search named-state; inside = search rules }

pub returns-in-Activated : goal.returns-in-Activated
returns-in-Activated c = record { line = search named-state; inside = search rules }

pub returns-in-RollingBack : goal.returns-in-RollingBack
returns-in-RollingBack c = record { line = search named-state; inside = search rules }

pub returns-in-RolledBack : goal.returns-in-RolledBack
returns-in-RolledBack c = record { line = search named-state; inside = search rules }

pub returns-in-CleaningUp : goal.returns-in-CleaningUp
returns-in-CleaningUp c = record { line = search named-state; inside = search rules }
