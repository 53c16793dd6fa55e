-- What each line of the script gives.
use Rattle.std.specs.Prelude.{ℕ, ◌+◌, ◌≡◌, Bool, true, false, cond, List, [], ◌++◌, leb, ltb, length, take, drop}
use Rattle.std.proofs.lemmas.List.Edits.{sets}
use Rattle.model.specs.State.{Store}
use Rattle.model.specs.Calls.{Call, transfer_data}
use Rattle.request.specs.Call.{call_of}
use Rattle.state.specs.declared.answer.Answer.{Answer}
use Rattle.state.specs.declared.answer.Answer.TheVariants.{Done}
use Rattle.state.specs.Outcome.{is_refusal}
use Rattle.load.specs.Exact.{load}
use Rattle.manager.specs.Accepts.{exact_step}
use Rattle.four_state.specs.declared.call.OldCall.{OldCall}
use Rattle.four_state.specs.Exact.{exact_old_step}
use Rattle.script_bytes.specs.Block.{block_bytes}
use Rattle.script.specs.declared.line.ScriptLine.{ScriptLine}
use Rattle.script.specs.declared.line.ScriptLine.TheVariants as line
use Rattle.script.specs.Place.{part_at}
use Rattle.script_calls.specs.declared.kept.Kept.{Kept}
use Rattle.script_calls.specs.declared.kept.LineAnswer.{LineAnswer}
use Rattle.script_calls.specs.declared.kept.LineAnswer.TheVariants as line-answer
use Rattle.script_calls.specs.Kept.{nothing_changed, answered_with, old_answered_with, LineOutcome, line_outcome}

-- how many bytes are lent: as many as are asked for, and at most all
unfoldable pub lent_count : ℕ → ℕ → ℕ
lent_count asked all = cond (ltb all asked) all asked

-- a call of the twelve on the bytes that are lent. The bytes behind them keep their values
unfoldable pub calling : Call → Kept → Store → LineOutcome
calling call k bytes =
    let n = k.store_length in
    let o = exact_step k.state (take n bytes) call in
    line_outcome (answered_with o.answered n) (o.store ++ drop n bytes)

-- "TransferData" with the bytes that a word stands for
abbrev pub calling_data : ℕ → ℕ → List ℕ → Kept → Store → LineOutcome
calling_data id counter word k bytes = calling (transfer_data id counter (block_bytes word)) k bytes

-- an old call on the bytes that are lent, which is answered "`old N`, never `refused`"
unfoldable pub calling_old : OldCall → Kept → Store → LineOutcome
calling_old call k bytes =
    let n = k.store_length in
    let o = exact_old_step k.state (take n bytes) call in
    line_outcome (old_answered_with o.answer o.state n) (o.store ++ drop n bytes)

-- "A refused Load leaves the state and the store that were there before it.": as many bytes are lent as before
abbrev pub length_after : Answer → ℕ → ℕ → ℕ
length_after answer before size = cond (is_refusal answer) before size

-- Load with a list on the first of the program's bytes, so many as the line says. A store past the room of the program is `unknown`
unfoldable pub loading : ℕ → ℕ → List ℕ → Kept → Store → LineOutcome
loading first size list k bytes =
    let o = load k.state list first (take size bytes) in
    cond (ltb (length bytes) size)
    (line_outcome (nothing_changed line-answer.Unknown k) bytes)
    (line_outcome (answered_with o.answered (length_after o.answered.answer k.store_length size)) (o.store ++ drop size bytes))

-- "another writer puts the bytes into the store at `AT`"; "`poke` that does not fit the store whole is `unknown`", and nothing changes
pub record Poked (at : ℕ) (text store : List ℕ) (is_put : Bool) (after : List ℕ) : Type 0 where
  pub put : is_put ≡ leb (at + length text) (length store)
  pub bytes : after ≡ cond is_put (sets store at text) store

abbrev pub poke_answer : Bool → LineAnswer
poke_answer true = line-answer.Answer Done
poke_answer false = line-answer.Unknown

unfoldable pub poking : ℕ → List ℕ → Kept → Store → LineOutcome
poking at text k bytes =
    let n = k.store_length in
    let fits = leb (at + length text) (length (take n bytes)) in
    line_outcome (nothing_changed (poke_answer fits) k) (cond fits (sets (take n bytes) at text) (take n bytes) ++ drop n bytes)

-- what a line gives, with its text: the definition of each case of `ScriptLine`. A reading call, the old status,
-- `store` and a remark change nothing
unfoldable pub line_gives : List ℕ → ScriptLine → Kept → Store → LineOutcome
line_gives text (line.Load first size list) k bytes = loading first size (block_bytes (part_at text list)) k bytes
line_gives text (line.Data id counter block) k bytes = calling_data id counter (part_at text block) k bytes
line_gives text (line.Call request) k bytes = calling (call_of request []) k bytes
line_gives text (line.Old call) k bytes = calling_old call k bytes
line_gives text line.OldStatus k bytes = line_outcome (nothing_changed line-answer.Shown k) bytes
line_gives text (line.Packages room) k bytes = line_outcome (nothing_changed line-answer.Shown k) bytes
line_gives text (line.Clusters room) k bytes = line_outcome (nothing_changed line-answer.Shown k) bytes
line_gives text (line.Changes room) k bytes = line_outcome (nothing_changed line-answer.Shown k) bytes
line_gives text (line.Waves room) k bytes = line_outcome (nothing_changed line-answer.Shown k) bytes
line_gives text (line.Payload id) k bytes = line_outcome (nothing_changed line-answer.Shown k) bytes
line_gives text (line.Check id) k bytes = line_outcome (nothing_changed line-answer.Shown k) bytes
line_gives text line.Progress k bytes = line_outcome (nothing_changed line-answer.Shown k) bytes
line_gives text line.State k bytes = line_outcome (nothing_changed line-answer.Shown k) bytes
line_gives text line.Store k bytes = line_outcome (nothing_changed line-answer.Shown k) bytes
line_gives text (line.Poke at word) k bytes = poking at (block_bytes (part_at text word)) k bytes
line_gives text line.Remark k bytes = line_outcome (nothing_changed line-answer.Shown k) bytes
line_gives text line.Unknown k bytes = line_outcome (nothing_changed line-answer.Unknown k) bytes
