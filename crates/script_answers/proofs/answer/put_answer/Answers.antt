-- `script_answers::answer::put_answer` meets its contract: the line of each answer. Assumes nothing.
use borrow.Author.Rules.{rules}
use Rattle.script_answers.proofs.Laws.{said}
use Rattle.script_answers.proofs.answer.put_answer.Goals as goal

pub returns-in-Id : goal.returns-in-Id
returns-in-Id c = record { line = search said; inside = search rules }

pub returns-in-Done : goal.returns-in-Done
returns-in-Done c = record { line = search said; inside = search rules }

pub returns-in-Working : goal.returns-in-Working
returns-in-Working c = record { line = search said; inside = search rules }

pub returns-in-Processed : goal.returns-in-Processed
returns-in-Processed c = record { line = search said; inside = search rules }

pub returns-in-Cancelled : goal.returns-in-Cancelled
returns-in-Cancelled c = record { line = search said; inside = search rules }

pub returns-in-Inconsistent : goal.returns-in-Inconsistent
returns-in-Inconsistent c = record { line = search said; inside = search rules }

pub returns-in-PreActivationFailed : goal.returns-in-PreActivationFailed
returns-in-PreActivationFailed c = record { line = search said; inside = search rules }

pub returns-in-MissingDependencies : goal.returns-in-MissingDependencies
returns-in-MissingDependencies c = record { line = search said; inside = search rules }

pub returns-in-VerificationFailed : goal.returns-in-VerificationFailed
returns-in-VerificationFailed c = record { line = search said; inside = search rules }

pub returns-in-NotAbleToRollback : goal.returns-in-NotAbleToRollback
returns-in-NotAbleToRollback c = record { line = search said; inside = search rules }

pub returns-in-NotAbleToRevert : goal.returns-in-NotAbleToRevert
returns-in-NotAbleToRevert c = record { line = search said; inside = search rules }

pub returns-in-CleaningFailed : goal.returns-in-CleaningFailed
returns-in-CleaningFailed c = record { line = search said; inside = search rules }

pub returns-in-Refused : goal.returns-in-Refused
returns-in-Refused c = record { line = search said; inside = search rules }
