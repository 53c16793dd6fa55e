-- `script_answers::manager_state::put_state` meets its contract: refused where the check of soundness says no, else the name. Assumes nothing.
use borrow.Author.Rules.{rules}
use Rattle.base.proofs.Ladder.{told-no, told-yes}
use Rattle.script_answers.proofs.Laws.{unsound-state, sound-state}
use Rattle.script_answers.proofs.manager_state.put_state.Goals as goal

pub returns-then-not-sound : goal.returns-then-not-sound
returns-then-not-sound c = record { line = search (unsound-state, told-no); inside = search rules }

pub returns : goal.returns
returns c = record { line = search (sound-state, told-yes); inside = search rules }
