-- `script_calls::kept::nothing_loaded` meets its contract: a state without a next id is not sound. Assumes nothing.
use borrow.Author.Rules.{rules}
use Rattle.script_calls.proofs.NothingLoaded.{first-unsound}
use Rattle.script_calls.proofs.kept.nothing_loaded.Goals as goal

pub returns : goal.returns
returns c = record { unsound = first-unsound _ _ c.loaded_state.ensures; no_bytes = search rules }
