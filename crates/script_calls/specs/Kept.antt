-- What the program keeps from line to line, and what a line gives.
use Rattle.std.specs.Prelude.{ℕ, ◌≡◌, false}
use Rattle.model.specs.State.{Store}
use Rattle.model.specs.Sound.{sound_for}
use Rattle.state.specs.declared.answer.Answer.{Answer}
use Rattle.state.specs.declared.answer.Answered.{Answered}
use Rattle.state.specs.declared.state.State.{State}
use Rattle.state.specs.View.{view_state}
use Rattle.script_calls.specs.declared.kept.Kept.{Kept}
use Rattle.script_calls.specs.declared.kept.LineAnswer.{LineAnswer}
use Rattle.script_calls.specs.declared.kept.LineAnswer.TheVariants as line-answer
use Rattle.script_calls.specs.declared.kept.Played.{Played}

-- "Until the first accepted Load the program holds a state that is not sound, and a store of no bytes."
pub record NothingLoaded (k : Kept) : Type 0 where
  pub unsound : sound_for (view_state k.state) 0 ≡ false
  pub no_bytes : k.store_length ≡ 0

abbrev pub keeps : State → ℕ → Kept
keeps s n = record { state = s; store_length = n }

-- an answer, and what is kept as it was
abbrev pub nothing_changed : LineAnswer → Kept → Played
nothing_changed answer k = record { answer = answer; kept = k }

-- the answer of a call and its state, with so many bytes lent
abbrev pub answered_with : Answered Answer → ℕ → Played
answered_with made n = record { answer = line-answer.Answer made.answer; kept = keeps made.state n }

-- the same of an old call
abbrev pub old_answered_with : ℕ → State → ℕ → Played
old_answered_with answer s n = record { answer = line-answer.Old answer; kept = keeps s n }

-- what a line gives: its answer, what is kept then, and all the bytes of the program's store
pub record LineOutcome : Type 0 where
  pub played : Played
  pub bytes : Store

abbrev pub line_outcome : Played → Store → LineOutcome
line_outcome played bytes = record { played = played; bytes = bytes }
