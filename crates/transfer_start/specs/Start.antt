-- TransferStart on the code's structs.
use Rattle.std.specs.Prelude.{ℕ}
use Rattle.model.specs.State.{Store}
use Rattle.model.specs.Calls.{transfer_start}
use Rattle.state.specs.declared.state.State.{State}
use Rattle.state.specs.declared.answer.Answer.TheVariants.{Id}
use Rattle.state.specs.Exact.{with_new_package, with_transfers}
use Rattle.state.specs.Outcome.{Outcome, outcome, answered, called, called_on_sound}

-- "TransferStart(size) gives the next id, one above the last given."
abbrev pub started : State → Store → ℕ → Outcome
started s store size = outcome (answered (Id s.transfers.next) (with_transfers (with_new_package size s.transfers) s)) store

-- TransferStart(size): refused as the model refuses it, or accepted
abbrev pub start_called : State → Store → ℕ → Outcome
start_called s store size = called s store (transfer_start size) (started s store size)

-- the same after refusal 1, of a sound state
abbrev pub start_called_on_sound : State → Store → ℕ → Outcome
start_called_on_sound s store size = called_on_sound s store (transfer_start size) (started s store size)
