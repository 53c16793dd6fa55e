-- How processing ends, on the code's structs.
use Rattle.std.specs.Prelude.{ℕ, cond, eqb}
use Rattle.checksum.specs.Sum.{sum_number}
use Rattle.state.specs.declared.package.PackageState.{PackageState}
use Rattle.state.specs.declared.package.PackageState.TheVariants as packages
use Rattle.state.specs.declared.transfers.Transfers.{Transfers}
use Rattle.state.specs.declared.phase.Phase.{Phase}
use Rattle.state.specs.declared.phase.Phase.TheVariants.{Idle, Ready}
use Rattle.state.specs.declared.session.Session.{Session}
use Rattle.state.specs.declared.work.Work.{Work}
use Rattle.state.specs.declared.answer.Answer.{Answer}
use Rattle.state.specs.declared.answer.Answer.TheVariants.{Processed, Inconsistent}
use Rattle.state.specs.declared.answer.Answered.{Answered}
use Rattle.state.specs.Exact.{in_state, with_package, with_entry, cleared_work, state}
use Rattle.state.specs.Outcome.{answered}
use Rattle.areas.specs.Changed.{package_at}

-- "The state after any of the three endings is Ready if the session's list isn't empty, else Idle.": by the number of its entries
unfoldable pub phase_after : ℕ → Phase
phase_after count = cond (eqb count 0) Idle Ready

-- each of the three endings: the package at i goes to a state, and "When Processing ends all of these and the cancel note are cleared to 0."
unfoldable pub ended : Transfers → ℕ → PackageState → Session → Answer → Answered Answer
ended t i package_state session answer =
    answered answer (state (phase_after session.count) (with_package i (in_state package_state (package_at t i)) t) session cleared_work)

-- "With none left, answer Inconsistent when the sum differs, else Processed, and the action joins the session's list."; "Cancelled and
-- Inconsistent make the package Transferred again."
unfoldable pub sum_compared : Transfers → ℕ → Session → Work → Answered Answer
sum_compared t i session w =
    cond (eqb (sum_number w.running_sums) w.sum)
    (ended t i packages.Processed (with_entry session (record { id = (package_at t i).id; action = w.action })) Processed)
    (ended t i packages.Transferred session Inconsistent)
