-- The answer to the line `state`, which is no call: `state NAME`, or `refused 1` where the state is not sound.
use Rattle.std.specs.Prelude.{ℕ, cond, List, ◌++◌}
use Rattle.base.specs.Quoted.{bytes}
use Rattle.model.specs.State as model
use Rattle.model.specs.Sound.{sound_for}
use Rattle.state.specs.declared.answer.Answer.TheVariants.{Refused}
use Rattle.script_answers.specs.Answers.{name_line, answer_text}

-- "States: Idle 0, Ready 1, Processing 2, Activating 3, Verifying 4, Activated 5, RollingBack 6, RolledBack 7, CleaningUp 8.": their names
abbrev pub state_name : model.Phase → List ℕ
state_name model.idle = bytes "Idle"
state_name model.ready = bytes "Ready"
state_name model.processing = bytes "Processing"
state_name model.activating = bytes "Activating"
state_name model.verifying = bytes "Verifying"
state_name model.activated = bytes "Activated"
state_name (model.rolling_back origin) = bytes "RollingBack"
state_name model.rolled_back = bytes "RolledBack"
state_name (model.cleaning_up origin) = bytes "CleaningUp"

-- the line with the name
abbrev pub state_line : model.Phase → List ℕ
state_line phase = name_line (bytes "state " ++ state_name phase)

-- the answer, of a state and a store of that many bytes: "1. BadState: any call but Load; the state isn't sound (below)."
abbrev pub state_answer : model.State → ℕ → List ℕ
state_answer s size = cond (sound_for s size) (state_line s.phase) (answer_text (Refused 1))
