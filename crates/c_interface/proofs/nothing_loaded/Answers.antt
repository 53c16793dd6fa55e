-- `c_interface::nothing_loaded` meets its contract: it gives a loaded state of the empty table without a next id. Assumes nothing.
use Rattle.c_interface.proofs.NumberLaws.{from_nothing}
use Rattle.c_interface.proofs.nothing_loaded.Goals as goal

pub returns : goal.returns
returns c = from_nothing _ _ c.empty_table.ensures c.loaded_state.ensures
