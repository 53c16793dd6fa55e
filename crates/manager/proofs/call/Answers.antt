-- `manager::call` meets its contract: the call after the check that it makes. Assumes nothing.
use Rattle.manager.proofs.call.Goals as goal

pub returns : goal.returns
returns c =
    let told = c.call_after_check.ensures in
    record { meaning = told.meaning; exact = told.exact; sound = told.sound }
