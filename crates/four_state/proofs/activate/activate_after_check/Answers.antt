-- `four_state::activate::activate_after_check` meets its contract: the ways out of an old call. Assumes nothing.
use Rattle.base.proofs.Ladder.{told-yes}
use Rattle.four_state.proofs.OldWays.{old-ways, as-ensured}
use Rattle.four_state.proofs.activate.activate_after_check.Goals as goal

pub returns-then-not-is_sound : goal.returns-then-not-is_sound
returns-then-not-is_sound c = as-ensured _ _ _ _ c.answer_with.result (search old-ways)

pub old_activate_on_sound-requires : goal.old_activate_on_sound-requires
old_activate_on_sound-requires c = search told-yes

pub returns : goal.returns
returns c = as-ensured _ _ _ _ c.old_activate_on_sound.result (search old-ways)
