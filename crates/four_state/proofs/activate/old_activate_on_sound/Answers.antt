-- `four_state::activate::old_activate_on_sound` meets its contract: the ways out of an old call. Assumes nothing.
use mathlib.Core.Path.{◌≡◌}
use Rattle.base.proofs.Ladder.{told}
use Rattle.model.specs.State.{is_idle}
use Rattle.model.specs.Step.{own_refusals}
use Rattle.state.specs.View.{view_phase}
use Rattle.soundness.proofs.SoundSession.{session-fits, session-sound}
use Rattle.manager.specs.Accepts.{accepts}
use Rattle.four_state.specs.OldCalls.{further_answers}
use Rattle.four_state.proofs.OldWays.{told-idle, other-idle, old-ways, as-ensured}
use Rattle.four_state.proofs.activate.old_activate_on_sound.Goals.{Joined-matches, in-Idle, in_default}
use Rattle.four_state.proofs.activate.old_activate_on_sound.Goals as goal

idle : (c : Joined-matches) → is_idle (view_phase c.args.s.phase) ≡ c.match-matches.matches
idle c = elim c.match-matches.branch [ in-Idle w ↦ search told-idle | in_default w ↦ search other-idle ]

pub returns-then-matches : goal.returns-then-matches
unfolding further_answers
returns-then-matches c =
    as-ensured _ _ _ _ c.answer_with.result (search (old-ways, idle (goal.at.returns-then-matches c).Joined-matches))

pub ready_with_unmet_needs-requires : goal.ready_with_unmet_needs-requires
ready_with_unmet_needs-requires c = search (session-fits, session-sound)

pub returns-then-ready_with_unmet_needs : goal.returns-then-ready_with_unmet_needs
unfolding further_answers
returns-then-ready_with_unmet_needs c =
    as-ensured _ _ _ _ c.answer_with-then-ready_with_unmet_needs.result
    (search (old-ways, told, idle (goal.at.returns-then-ready_with_unmet_needs c).Joined-matches))

pub returns : goal.returns
unfolding further_answers accepts own_refusals
returns c = as-ensured _ _ _ _ c.answer_by.result (search (old-ways, told, idle (goal.at.returns c).Joined-matches))
