-- `four_state::call::old_call` meets its contract: the call after the check that it makes; its clauses follow from the exact one. Assumes nothing.
use Rattle.four_state.proofs.OldWays.{old-clauses}
use Rattle.four_state.proofs.call.old_call.Goals as goal

pub returns : goal.returns
returns c =
    let told = old-clauses c.args.s c.args.store.now c.args.call c.old_call_after_check.result c.old_call_after_check.ensures in
    record { meaning = told.0; exact = told.1.0; sound = told.1.1 }
