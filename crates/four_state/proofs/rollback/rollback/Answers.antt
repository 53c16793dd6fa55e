-- `four_state::rollback::rollback` meets its contract: the call after the check that it makes; its clauses follow from the exact one. Assumes nothing.
use Rattle.four_state.specs.declared.call.OldCall.TheVariants.{Rollback}
use Rattle.four_state.proofs.OldWays.{old-clauses}
use Rattle.four_state.proofs.rollback.rollback.Goals as goal

pub returns : goal.returns
returns c =
    let told = old-clauses c.args.s c.args.store.now Rollback c.rollback_after_check.result c.rollback_after_check.ensures in
    record { meaning = told.0; exact = told.1.0; sound = told.1.1 }
