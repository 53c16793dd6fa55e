-- `four_state::revert::revert` meets its contract: the call after the check that it makes; its clauses follow from the exact one. Assumes nothing.
use Rattle.four_state.specs.declared.call.OldCall.TheVariants.{Revert}
use Rattle.four_state.proofs.OldWays.{old-clauses}
use Rattle.four_state.proofs.revert.revert.Goals as goal

pub returns : goal.returns
returns c =
    let told = old-clauses c.args.s c.args.store.now Revert c.revert_after_check.result c.revert_after_check.ensures in
    record { meaning = told.0; exact = told.1.0; sound = told.1.1 }
