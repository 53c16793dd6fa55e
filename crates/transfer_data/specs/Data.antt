-- TransferData on the code's structs.
use Rattle.std.specs.Prelude.{ℕ, ◌+◌, ◌≤◌, List, length, take}
use Rattle.model.specs.State.{Store}
use Rattle.model.specs.Areas.{declared, block_put}
use Rattle.model.specs.Calls.{transfer_data}
use Rattle.model.specs.Step as step
use Rattle.state.specs.declared.package.Package.{Package as Struct}
use Rattle.state.specs.declared.transfers.Transfers.{Transfers}
use Rattle.state.specs.declared.state.State.{State}
use Rattle.state.specs.declared.answer.Answer.TheVariants.{Done}
use Rattle.state.specs.View.{view_packages, view_state}
use Rattle.state.specs.Exact.{with_block, with_package, with_transfers}
use Rattle.state.specs.Outcome.{Outcome, outcome, answered, called, called_on_sound}
use Rattle.areas.specs.Inside.{AreaInside}
use Rattle.areas.specs.Changed.{with_changed}
use Rattle.store.specs.Positions.{written}

-- what is known of a block of a size where no refusal applies, for the package p at i, in a store of a length
pub record BlockFits (t : Transfers) (i : ℕ) (p : Struct) (store_length size : ℕ) : Type 0 where
  pub inside : AreaInside t i p store_length
  pub some : 1 ≤ size
  pub fits : p.received + size ≤ p.size
  pub blocks : p.blocks ≤ p.received

-- a block accepted for the package p at i: it stands behind the area's start and the bytes received so far
unfoldable pub block_received_at : State → Store → ℕ → Struct → List ℕ → Outcome
block_received_at s store i p block =
    outcome
    (answered Done (with_transfers (with_package i (with_block (length block) p) s.transfers) s))
    (written (declared (take i (view_packages s.transfers)) + p.received) block store)

-- "the counter .. rises by one per accepted block. The block is written directly behind the bytes received so far."
abbrev pub block_received : State → Store → ℕ → List ℕ → Outcome
block_received s store id block =
    outcome
    (answered Done (with_transfers (with_changed id (with_block (length block)) s.transfers) s))
    (block_put id block (view_packages s.transfers) store)

-- TransferData(id, block counter, data): refused as the model refuses it, or accepted
abbrev pub data_called : State → Store → ℕ → ℕ → List ℕ → Outcome
data_called s store id counter block = called s store (transfer_data id counter block) (block_received s store id block)

-- the same after refusal 1, of a sound state
abbrev pub data_called_on_sound : State → Store → ℕ → ℕ → List ℕ → Outcome
data_called_on_sound s store id counter block = called_on_sound s store (transfer_data id counter block) (block_received s store id block)

-- the same call in the model
abbrev pub data_step : State → Store → ℕ → ℕ → List ℕ → step.Outcome
data_step s store id counter block = step.step (view_state s) store (transfer_data id counter block)
