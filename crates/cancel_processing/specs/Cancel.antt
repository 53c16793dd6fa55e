-- Cancel on the code's structs.
use Rattle.std.specs.Prelude.{ℕ, true}
use Rattle.model.specs.State.{Store}
use Rattle.model.specs.Calls.{cancel}
use Rattle.state.specs.declared.work.Work.{Work}
use Rattle.state.specs.declared.state.State.{State}
use Rattle.state.specs.declared.answer.Answer.TheVariants.{Done}
use Rattle.state.specs.Outcome.{Outcome, outcome, answered, called, called_on_sound}
use Rattle.state.specs.Exact.{with_work}

-- the kept values with the cancel noted
abbrev pub with_cancel_noted : Work → Work
with_cancel_noted w =
    record { action = w.action; start = w.start; count = w.count; sum = w.sum; running_sums = w.running_sums; done = w.done; cancel_noted = true }

-- "Cancel(id) notes the cancel until Processing ends; again is accepted."
abbrev pub cancel_noted : State → Store → Outcome
cancel_noted s store = outcome (answered Done (with_work (with_cancel_noted s.work) s)) store

-- Cancel(id): refused as the model refuses it, or accepted
abbrev pub cancel_called : State → Store → ℕ → Outcome
cancel_called s store id = called s store (cancel id) (cancel_noted s store)

-- the same after refusal 1, of a sound state
abbrev pub cancel_called_on_sound : State → Store → ℕ → Outcome
cancel_called_on_sound s store id = called_on_sound s store (cancel id) (cancel_noted s store)
