-- `four_state::cancel::cancel_after_check` meets its contract: the ways out of an old call. Assumes nothing.
use Rattle.base.proofs.Ladder.{told-yes}
use Rattle.manager.specs.Accepts.{accepts}
use Rattle.four_state.specs.OldCalls.{further_answers}
use Rattle.four_state.proofs.OldWays.{told-permitted, old-ways, as-ensured}
use Rattle.four_state.proofs.cancel.cancel_after_check.Goals as goal

pub returns-then-not-is_sound : goal.returns-then-not-is_sound
returns-then-not-is_sound c = as-ensured _ _ _ _ c.answer_with.result (search old-ways)

pub returns-then-not-allowed : goal.returns-then-not-allowed
unfolding further_answers
returns-then-not-allowed c = as-ensured _ _ _ _ c.answer_with-then-not-allowed.result (search (old-ways, told-permitted))

pub cancel_on_sound-requires : goal.cancel_on_sound-requires
cancel_on_sound-requires c = search told-yes

pub returns : goal.returns
unfolding further_answers accepts
returns c = as-ensured _ _ _ _ c.answer_by.result (search (old-ways, told-yes, told-permitted))
