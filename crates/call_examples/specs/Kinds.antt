-- The sentence that names what a case does.
use Rattle.std.specs.Prelude.{ℕ, List}
use Rattle.base.specs.Quoted.{bytes}
use Rattle.call_examples.specs.declared.kinds.SessionCall.{SessionCall}
use Rattle.call_examples.specs.declared.kinds.SessionCall.TheVariants as session
use Rattle.call_examples.specs.declared.kinds.OldCall.{OldCall}
use Rattle.call_examples.specs.declared.kinds.OldCall.TheVariants as old
use Rattle.call_examples.specs.declared.kinds.Call.{Call}
use Rattle.call_examples.specs.declared.kinds.Call.TheVariants.{Load, Start, Data, Exit, Delete, Session, Old}
use Rattle.call_examples.specs.declared.kinds.Kind.{Kind}
use Rattle.call_examples.specs.declared.kinds.Kind.TheVariants as kinds

-- of a call that is neither Load nor a transfer call
abbrev pub session_sentence : SessionCall → List ℕ
session_sentence session.Process = bytes "process %:"
session_sentence session.Work = bytes "work %:"
session_sentence session.Cancel = bytes "cancel %:"
session_sentence session.Revert = bytes "revert:"
session_sentence session.Activate = bytes "activate:"
session_sentence session.Rollback = bytes "rollback:"
session_sentence session.Finish = bytes "finish:"
session_sentence session.ReportGood = bytes "report good:"
session_sentence session.ReportBad = bytes "report bad:"

-- of one of the old four
abbrev pub old_sentence : OldCall → List ℕ
old_sentence old.Activate = bytes "old activate:"
old_sentence old.Cancel = bytes "old cancel %:"
old_sentence old.Revert = bytes "old revert:"
old_sentence old.Rollback = bytes "old rollback:"

-- of a call
abbrev pub call_sentence : Call → List ℕ
call_sentence Load = bytes "load, first id %:"
call_sentence Start = bytes "start %:"
call_sentence Data = bytes "data % %:"
call_sentence Exit = bytes "exit %:"
call_sentence Delete = bytes "delete %:"
call_sentence (Session call) = session_sentence call
call_sentence (Old call) = old_sentence call

-- of a case
abbrev pub kind_sentence : Kind → List ℕ
kind_sentence (kinds.Call call) = call_sentence call
kind_sentence kinds.Payload = bytes "payload %:"
kind_sentence kinds.Store = bytes "store:"
kind_sentence kinds.Unsound = bytes "unsound, %:"
kind_sentence kinds.Marked = bytes "mark set in the %:"
