-- `c_interface::wozkindu_load_and_run` meets its contract: what `load_and_run` promises from the state that nothing was loaded into, by the
-- number of its reply. Assumes nothing.
use Rattle.c_interface.proofs.NumberLaws.{by_number}
use Rattle.c_interface.proofs.wozkindu_load_and_run.Goals as goal

pub returns : goal.returns
returns c =
    let made = c.load_and_run-made.ensures in
    let told =
    by_number _ _ _ _ _ _ _ c.nothing_loaded.result c.load_and_run-made.result _ c.nothing_loaded.ensures (made.exact, (made.load_reply, made.demand3)) c.result_number.ensures in
    record { exact = told.0; load_reply = told.1.0; demand3 = told.1.1 }
