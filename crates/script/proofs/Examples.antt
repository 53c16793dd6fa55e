-- Lines and their words at their boundaries, computed: what is accepted, and what is `unknown` beside it. Assumes nothing.
use Prim.Native.Nat.{ℕ}
use Prim.Native.String.{String}
use mathlib.Core.Path.{refl}
use mathlib.Core.Bool.{true, false}
use mathlib.Core.List.{List, [], ◌∷◌}
use mathlib.Core.Option.{none, some}
use Rattle.base.specs.Quoted.{bytes}
use Rattle.base.proofs.Tables.{◌gives◌, AllHold}
use Rattle.request.specs.declared.Request.TheVariants as call
use Rattle.four_state.specs.declared.call.OldCall.TheVariants as old
use Rattle.script.specs.declared.line.ScriptLine.{ScriptLine}
use Rattle.script.specs.declared.line.ScriptLine.TheVariants as line
use Rattle.script.specs.Gathered.{nothing_gathered, line_so_far, with_part}
use Rattle.script.specs.Place.{place}
use Rattle.script.specs.Line.{script_line_at}
use Rattle.script.specs.Open.{computing}

abbrev line_of : String → ScriptLine
line_of s = script_line_at (bytes s) 0

-- each line of the table
lines-computed : AllHold line_of
    ("load 1 4096 =a" gives line.Load 1 4096 (place 12 14)
    ∷ "start 91" gives line.Call (call.TransferStart 91)
    ∷ "data 1 2 0aff" gives line.Data 1 2 (place 9 13)
    ∷ "exit 3" gives line.Call (call.TransferExit 3)
    ∷ "delete 4" gives line.Call (call.DeleteTransfer 4)
    ∷ "process 5" gives line.Call (call.Process 5)
    ∷ "work 6" gives line.Call (call.Work 6)
    ∷ "cancel 7" gives line.Call (call.Cancel 7)
    ∷ "revert" gives line.Call call.Revert
    ∷ "activate" gives line.Call call.Activate
    ∷ "rollback" gives line.Call call.Rollback
    ∷ "finish" gives line.Call call.Finish
    ∷ "report good" gives line.Call (call.Report true)
    ∷ "report bad" gives line.Call (call.Report false)
    ∷ "old status" gives line.OldStatus
    ∷ "old activate" gives line.Old old.Activate
    ∷ "old cancel 14" gives line.Old (old.Cancel 14)
    ∷ "old revert" gives line.Old old.Revert
    ∷ "old rollback" gives line.Old old.Rollback
    ∷ "packages 8" gives line.Packages 8
    ∷ "clusters 9" gives line.Clusters 9
    ∷ "changes 10" gives line.Changes 10
    ∷ "waves 15" gives line.Waves 15
    ∷ "payload 11" gives line.Payload 11
    ∷ "check 12" gives line.Check 12
    ∷ "progress" gives line.Progress
    ∷ "state" gives line.State
    ∷ "store" gives line.Store
    ∷ "poke 13 -" gives line.Poke 13 (place 8 9)
    ∷ "# load" gives line.Remark
    ∷ "#" gives line.Remark
    ∷ [])
unfolding computing
lines-computed = refl

-- "`SIZE`, `ID`, `COUNTER`, `N`, `AT` and `FIRST` are 0 to 4,294,967,295. `STORE` is at most 1,048,576 ..; `ROOM` at most 64 records, 64 entries or 65,536 bytes"
rooms-computed : AllHold line_of
    ("load 4294967295 1048576 =" gives line.Load 4294967295 1048576 (place 24 25)
    ∷ "load 4294967296 1 =" gives line.Unknown
    ∷ "load 1 1048577 =" gives line.Unknown
    ∷ "start 4294967295" gives line.Call (call.TransferStart 4294967295)
    ∷ "start 4294967296" gives line.Unknown
    ∷ "data 0 4294967296 -" gives line.Unknown
    ∷ "poke 4294967296 -" gives line.Unknown
    ∷ "old cancel 0" gives line.Old (old.Cancel 0)
    ∷ "old cancel 4294967295" gives line.Old (old.Cancel 4294967295)
    ∷ "old cancel 4294967296" gives line.Unknown
    ∷ "packages 64" gives line.Packages 64
    ∷ "packages 65" gives line.Unknown
    ∷ "clusters 65536" gives line.Clusters 65536
    ∷ "clusters 65537" gives line.Unknown
    ∷ "changes 65536" gives line.Changes 65536
    ∷ "changes 65537" gives line.Unknown
    ∷ "waves 0" gives line.Waves 0
    ∷ "waves 64" gives line.Waves 64
    ∷ "waves 65" gives line.Unknown
    ∷ [])
unfolding computing
rooms-computed = refl

-- "a line that is none of the above": words too many, too few or of no bytes, numbers with leading zeros, other words
unknown-computed : AllHold line_of
    ("" gives line.Unknown
    ∷ " start 1" gives line.Unknown
    ∷ "start" gives line.Unknown
    ∷ "start " gives line.Unknown
    ∷ "start  1" gives line.Unknown
    ∷ "start 1 " gives line.Unknown
    ∷ "start 1 2" gives line.Unknown
    ∷ "start 01" gives line.Unknown
    ∷ "start +1" gives line.Unknown
    ∷ "Start 1" gives line.Unknown
    ∷ "starts 1" gives line.Unknown
    ∷ "revert " gives line.Unknown
    ∷ "revert 1" gives line.Unknown
    ∷ "report" gives line.Unknown
    ∷ "report  good" gives line.Unknown
    ∷ "report 1" gives line.Unknown
    ∷ "data 1 1" gives line.Unknown
    ∷ "data 1 1 " gives line.Unknown
    ∷ "data 1 1 0A" gives line.Unknown
    ∷ "data 1 1 =a b" gives line.Unknown
    ∷ "data 1 -" gives line.Unknown
    ∷ "load 1 1" gives line.Unknown
    ∷ "poke 1" gives line.Unknown
    ∷ "State" gives line.Unknown
    ∷ "state 1" gives line.Unknown
    ∷ "state " gives line.Unknown
    ∷ "states" gives line.Unknown
    ∷ "waves" gives line.Unknown
    ∷ "wave 1" gives line.Unknown
    ∷ "waves 1 2" gives line.Unknown
    ∷ " # load" gives line.Unknown
    ∷ [])
unfolding computing
unknown-computed = refl

-- "`old` alone, `old finish`, `old cancel` without id and any word more are `unknown`", and so are words and numbers of another form
old-unknown-computed : AllHold line_of
    ("old" gives line.Unknown
    ∷ "old " gives line.Unknown
    ∷ "old 1" gives line.Unknown
    ∷ "old finish" gives line.Unknown
    ∷ "old process 1" gives line.Unknown
    ∷ "old cancel" gives line.Unknown
    ∷ "old cancel " gives line.Unknown
    ∷ "old cancel 01" gives line.Unknown
    ∷ "old cancel  1" gives line.Unknown
    ∷ "old cancel 1 " gives line.Unknown
    ∷ "old cancel 1 2" gives line.Unknown
    ∷ "old cancel status" gives line.Unknown
    ∷ "old status 1" gives line.Unknown
    ∷ "old status " gives line.Unknown
    ∷ "old  status" gives line.Unknown
    ∷ "old activate " gives line.Unknown
    ∷ "old activate 1" gives line.Unknown
    ∷ "old revert 1" gives line.Unknown
    ∷ "old rollback 1" gives line.Unknown
    ∷ "old activate revert" gives line.Unknown
    ∷ "olds status" gives line.Unknown
    ∷ "Old status" gives line.Unknown
    ∷ "status" gives line.Unknown
    ∷ [])
unfolding computing
old-unknown-computed = refl

-- a line behind other text
prefix-computed : AllHold (λ (at : ℕ). script_line_at (bytes "7 data 1 2 =a") at)
    (2 gives line.Data 1 2 (place 11 13) ∷ 0 gives line.Unknown ∷ 13 gives line.Unknown ∷ 14 gives line.Unknown ∷ [])
unfolding computing
prefix-computed = refl

-- "a line is at most 262,144 bytes with its LF": a part that fills the room, one byte more, and what is too long already
gathered-computed : AllHold (λ (part : List ℕ). with_part 4 (some (bytes "ab")) part)
    (bytes "cd" gives some (bytes "abcd") ∷ bytes "cde" gives none ∷ [] gives some (bytes "ab") ∷ [])
unfolding computing
gathered-computed = refl

too-long-computed : AllHold (λ (part : List ℕ). with_part 4 none part) ([] gives none ∷ bytes "a" gives none ∷ [])
unfolding computing
too-long-computed = refl

-- nothing gathered is a line of no bytes, whatever the buffer holds
nothing-computed : AllHold (line_so_far nothing_gathered) (bytes "" gives some [] ∷ bytes "abcd" gives some [] ∷ [])
unfolding computing
nothing-computed = refl
