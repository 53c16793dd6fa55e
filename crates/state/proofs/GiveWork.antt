-- What a call gives that changes the kept values alone, as the model has it. Assumes nothing.
use mathlib.Core.Path.{◌≡◌}
use mathlib.Core.Bool.{false}
use mathlib.Core.Option.{some}
use Rattle.model.specs.State as model
use Rattle.model.specs.State.{Store}
use Rattle.model.specs.Calls as calls
use Rattle.model.specs.Step as step
use Rattle.state.specs.declared.work.Work.{Work}
use Rattle.state.specs.declared.state.State.{State}
use Rattle.state.specs.declared.answer.Answer.{Answer}
use Rattle.state.specs.declared.answer.Answered.{Answered}
use Rattle.state.specs.View.{view_transfers, view_phase, view_session, is_cleared_work, kept_work}
use Rattle.state.specs.Exact.{with_work}
use Rattle.state.specs.Outcome.{outcome, answered, reply_of, view_outcome}

-- values that are not cleared are seen as they are
pub view-with-work : (s : State) (store : Store) (w : Work) (answer : Answer) (answer' : calls.Answer) → reply_of answer ≡ calls.accepted answer'
    → is_cleared_work w ≡ false
    → view_outcome (outcome (answered answer (with_work w s)) store)
    ≡ step.outcome answer' (model.state (view_phase s.phase) (view_transfers s.transfers) (view_session s.session) (some (kept_work w))) store
view-with-work s store w answer answer' same e = rw (e, same)
