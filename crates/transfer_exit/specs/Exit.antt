-- TransferExit on the code's structs.
use Rattle.std.specs.Prelude.{ℕ}
use Rattle.model.specs.State.{Store}
use Rattle.model.specs.Calls.{transfer_exit}
use Rattle.state.specs.declared.package.PackageState.TheVariants.{Transferred}
use Rattle.state.specs.declared.state.State.{State}
use Rattle.state.specs.declared.answer.Answer.TheVariants.{Done}
use Rattle.state.specs.Exact.{in_state, with_transfers}
use Rattle.state.specs.Outcome.{Outcome, outcome, answered, called, called_on_sound}
use Rattle.areas.specs.Changed.{with_changed}

-- "TransferExit(id) checks the package: Transferred."
abbrev pub exited : State → Store → ℕ → Outcome
exited s store id = outcome (answered Done (with_transfers (with_changed id (in_state Transferred) s.transfers) s)) store

-- TransferExit(id): refused as the model refuses it, or accepted
abbrev pub exit_called : State → Store → ℕ → Outcome
exit_called s store id = called s store (transfer_exit id) (exited s store id)

-- the same after refusal 1, of a sound state
abbrev pub exit_called_on_sound : State → Store → ℕ → Outcome
exit_called_on_sound s store id = called_on_sound s store (transfer_exit id) (exited s store id)
