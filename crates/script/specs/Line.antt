-- The lines of the script, one definition for the lines of the table that have the same words behind the first.
use Rattle.std.specs.Prelude.{ℕ, true, false, cond, List, get_or, drop, eqb, ltb}
use Rattle.base.specs.Quoted.{bytes}
use Rattle.text.specs.Word.{same_bytes}
use Rattle.text.specs.Then.{and_then_read, and_then_some}
use Rattle.request.specs.declared.Request.TheVariants as call
use Rattle.four_state.specs.declared.call.OldCall.TheVariants as old
use Rattle.script.specs.declared.line.ScriptLine.{ScriptLine}
use Rattle.script.specs.declared.line.ScriptLine.TheVariants as line
use Rattle.script.specs.Limits.{number_most, store_most, records_most, waves_most, report_most}
use Rattle.script.specs.Words.{word_at, behind_word, number_word, last_number}
use Rattle.script.specs.Place.{last_block}

-- "a line that begins with `#`"
abbrev pub hash : ℕ
hash = 35

-- ---- lines with bytes: the words from a position on, behind the first word

-- "`load FIRST STORE BYTES`"
unfoldable pub load_line : List ℕ → ℕ → ScriptLine
load_line s at =
    and_then_read line.Unknown (number_word s at number_most) λ first behind-first.
    and_then_read line.Unknown (number_word s behind-first.at store_most) λ store behind-store.
    and_then_some line.Unknown (last_block s behind-store.at) λ list.
    line.Load first store list

-- "`data ID COUNTER BYTES`"
unfoldable pub data_line : List ℕ → ℕ → ScriptLine
data_line s at =
    and_then_read line.Unknown (number_word s at number_most) λ id behind-id.
    and_then_read line.Unknown (number_word s behind-id.at number_most) λ counter behind-counter.
    and_then_some line.Unknown (last_block s behind-counter.at) λ b.
    line.Data id counter b

-- "`poke AT BYTES`"
unfoldable pub poke_line : List ℕ → ℕ → ScriptLine
poke_line s at =
    and_then_read line.Unknown (number_word s at number_most) λ n behind-n.
    and_then_some line.Unknown (last_block s behind-n.at) λ b.
    line.Poke n b

-- ---- lines of a word and one number

-- "past one of these rooms": `unknown`
unfoldable pub within : ℕ → ℕ → ScriptLine → ScriptLine
within n most l = cond (ltb most n) line.Unknown l

-- "`packages ROOM`", "`clusters ROOM`, `changes ROOM`", "`waves ROOM`"
unfoldable pub room_line : List ℕ → ℕ → ScriptLine
room_line w n =
    cond (same_bytes w (bytes "packages")) (within n records_most (line.Packages n))
    (cond (same_bytes w (bytes "clusters")) (within n report_most (line.Clusters n))
    (cond (same_bytes w (bytes "changes")) (within n report_most (line.Changes n))
    (cond (same_bytes w (bytes "waves")) (within n waves_most (line.Waves n))
    line.Unknown)))

-- "`process ID`, `work N`, `cancel ID`"
unfoldable pub processing_line : List ℕ → ℕ → ScriptLine
processing_line w n =
    cond (same_bytes w (bytes "process")) (line.Call (call.Process n))
    (cond (same_bytes w (bytes "work")) (line.Call (call.Work n))
    (cond (same_bytes w (bytes "cancel")) (line.Call (call.Cancel n))
    (room_line w n)))

-- "`payload ID`", "`check ID`"
unfoldable pub payload_line : List ℕ → ℕ → ScriptLine
payload_line w n =
    cond (same_bytes w (bytes "payload")) (line.Payload n)
    (cond (same_bytes w (bytes "check")) (line.Check n)
    (processing_line w n))

-- "`start SIZE`", "`exit ID`, `delete ID`"
unfoldable pub transfer_line : List ℕ → ℕ → ScriptLine
transfer_line w n =
    cond (same_bytes w (bytes "start")) (line.Call (call.TransferStart n))
    (cond (same_bytes w (bytes "exit")) (line.Call (call.TransferExit n))
    (cond (same_bytes w (bytes "delete")) (line.Call (call.DeleteTransfer n))
    (payload_line w n)))

-- ---- lines of fixed words

-- "`progress`", "`store`"; and `state`, which shows the manager's state
unfoldable pub show_line : List ℕ → ScriptLine
show_line s =
    cond (same_bytes s (bytes "progress")) line.Progress
    (cond (same_bytes s (bytes "state")) line.State
    (cond (same_bytes s (bytes "store")) line.Store
    line.Unknown))

-- "`report good`, `report bad`"
unfoldable pub report_line : List ℕ → ScriptLine
report_line s =
    cond (same_bytes s (bytes "report good")) (line.Call (call.Report true))
    (cond (same_bytes s (bytes "report bad")) (line.Call (call.Report false))
    (show_line s))

-- "`revert`, `activate`, `rollback`, `finish`"
unfoldable pub session_line : List ℕ → ScriptLine
session_line s =
    cond (same_bytes s (bytes "revert")) (line.Call call.Revert)
    (cond (same_bytes s (bytes "activate")) (line.Call call.Activate)
    (cond (same_bytes s (bytes "rollback")) (line.Call call.Rollback)
    (cond (same_bytes s (bytes "finish")) (line.Call call.Finish)
    (report_line s))))

-- ---- lines of the old calls: the words behind `old`

-- "`old status`, `old activate`, .. `old revert`, `old rollback`"
unfoldable pub old_fixed_line : List ℕ → ScriptLine
old_fixed_line s =
    cond (same_bytes s (bytes "status")) line.OldStatus
    (cond (same_bytes s (bytes "activate")) (line.Old old.Activate)
    (cond (same_bytes s (bytes "revert")) (line.Old old.Revert)
    (cond (same_bytes s (bytes "rollback")) (line.Old old.Rollback)
    line.Unknown)))

-- "`old cancel ID`"; "`old cancel` without id and any word more are `unknown`"
unfoldable pub old_cancel_line : List ℕ → ℕ → ScriptLine
old_cancel_line s at = and_then_read line.Unknown (last_number s at number_most) λ id end. line.Old (old.Cancel id)

-- the words from a position on
unfoldable pub old_line : List ℕ → ℕ → ScriptLine
old_line s at = cond (same_bytes (word_at s at) (bytes "cancel")) (old_cancel_line s (behind_word s at)) (old_fixed_line (drop at s))

-- ---- a line

-- a line of one number, or of fixed words, whose first word ends at a position
unfoldable pub short_line : List ℕ → ℕ → List ℕ → ℕ → ScriptLine
short_line s at w next = and_then_read (session_line (drop at s)) (last_number s next number_most) λ n end. transfer_line w n

-- a line by its first word, with the position behind that
unfoldable pub command_line : List ℕ → ℕ → List ℕ → ℕ → ScriptLine
command_line s at w next =
    cond (same_bytes w (bytes "load")) (load_line s next)
    (cond (same_bytes w (bytes "data")) (data_line s next)
    (cond (same_bytes w (bytes "poke")) (poke_line s next)
    (cond (same_bytes w (bytes "old")) (old_line s next)
    (short_line s at w next))))

-- the line at a position of a text, up to its end: "a line that is none of the above .. `unknown`"
unfoldable pub script_line_at : List ℕ → ℕ → ScriptLine
script_line_at s at =
    cond (eqb (get_or s at 0) hash) line.Remark (command_line s at (word_at s at) (behind_word s at))
