-- `four_state::rollback::rollback_after_check` meets its contract: the ways out of an old call. Assumes nothing.
use mathlib.Core.Path.{◌≡◌}
use mathlib.Core.Bool.{◌||◌}
use Rattle.base.proofs.Ladder.{told-yes}
use Rattle.model.specs.State.{is_idle}
use Rattle.model.specs.Step.{own_refusals}
use Rattle.state.specs.View.{view_phase}
use Rattle.manager.specs.Accepts.{accepts}
use Rattle.four_state.specs.OldCalls.{is_ready, further_answers}
use Rattle.four_state.proofs.OldWays.{told-either, other-either, old-ways, as-ensured}
use Rattle.four_state.proofs.rollback.rollback_after_check.Goals.{Joined-matches, in-Idle, in_default}
use Rattle.four_state.proofs.rollback.rollback_after_check.Goals as goal

either : (c : Joined-matches) → is_idle (view_phase c.args.s.phase) || is_ready (view_phase c.args.s.phase) ≡ c.match-matches.matches
either c = elim c.match-matches.branch [ in-Idle w ↦ search told-either | in_default w ↦ search other-either ]

pub returns-then-not-is_sound : goal.returns-then-not-is_sound
returns-then-not-is_sound c = as-ensured _ _ _ _ c.answer_with.result (search old-ways)

pub returns-then-matches : goal.returns-then-matches
unfolding further_answers
returns-then-matches c =
    as-ensured _ _ _ _ c.answer_with-then-matches.result (search (old-ways, either (goal.at.returns-then-matches c).Joined-matches))

pub rollback_on_sound-requires : goal.rollback_on_sound-requires
rollback_on_sound-requires c = search told-yes

pub returns : goal.returns
unfolding further_answers accepts own_refusals
returns c = as-ensured _ _ _ _ c.answer_by.result (search (old-ways, told-yes, either (goal.at.returns c).Joined-matches))
