-- Lists of calls on the code's structs, the twelve and the old four: `run_events` of `model` by what one call gives.
use Rattle.model.specs.State.{Store}
use Rattle.model.specs.Layers.{EventOutcome, event_outcome}
use Rattle.state.specs.declared.state.State.{State}
use Rattle.state.specs.Outcome.{reply_of}
use Rattle.manager.specs.Accepts.{exact_step}
use Rattle.four_state.specs.Exact.{exact_old_step}
use Rattle.four_state.specs.MixedLists.{MixedCall, of_twelve, of_four, MixedReply, by_twelve, by_four}

-- what one call gives: "A dealer tool's calls may stand in any list with the twelve"
unfoldable pub exact_mixed_step : State → Store → MixedCall → EventOutcome State MixedReply
exact_mixed_step s store (of_twelve call) =
    let o = exact_step s store call in
    event_outcome (by_twelve (reply_of o.answered.answer)) o.answered.state o.store
exact_mixed_step s store (of_four call) =
    let o = exact_old_step s store call in
    event_outcome (by_four o.answer) o.state o.store
