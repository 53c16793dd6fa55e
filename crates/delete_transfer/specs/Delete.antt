-- DeleteTransfer on the code's structs.
use Rattle.std.specs.Prelude.{ℕ}
use Rattle.model.specs.State.{Store}
use Rattle.model.specs.Areas.{deleted}
use Rattle.model.specs.Calls.{delete_transfer}
use Rattle.state.specs.declared.state.State.{State}
use Rattle.state.specs.declared.answer.Answer.TheVariants.{Done}
use Rattle.state.specs.View.{view_packages}
use Rattle.state.specs.Exact.{with_transfers}
use Rattle.state.specs.Outcome.{Outcome, outcome, answered, called, called_on_sound}
use Rattle.areas.specs.declared.deletion.Deletion.TheVariants.{WithId}
use Rattle.areas.specs.Deletion.{keeps, remaining_transfers}

-- "DeleteTransfer(id)."; "Deleting moves later areas down whole and fills the bytes between the new and the old end of the last area
-- with 0"
abbrev pub without_transfer : State → Store → ℕ → Outcome
without_transfer s store id =
    outcome
    (answered Done (with_transfers (remaining_transfers (WithId id) s.transfers) s))
    (deleted (keeps (WithId id)) (view_packages s.transfers) store)

-- DeleteTransfer(id): refused as the model refuses it, or accepted
abbrev pub delete_called : State → Store → ℕ → Outcome
delete_called s store id = called s store (delete_transfer id) (without_transfer s store id)

-- the same after refusal 1, of a sound state
abbrev pub delete_called_on_sound : State → Store → ℕ → Outcome
delete_called_on_sound s store id = called_on_sound s store (delete_transfer id) (without_transfer s store id)
