-- `listed_actions::in_turn::staged_after` meets its contract: a case for each change. Assumes nothing.
use mathlib.Core.Path.{refl}
use Prim.Native.Nat.{ℕ}
use Rattle.actions.specs.declared.action.Change.TheVariants.{Install, Update, Remove}
use Rattle.actions.specs.Action.{Action}
use Rattle.actions.proofs.StagedLaws.{by-change}
use Rattle.listed_actions.specs.InTurn.{staged_after}
use Rattle.listed_actions.proofs.in_turn.staged_after.Goals as goal

abbrev after : ℕ → Action → ℕ
after staged a = staged_after a staged

pub returns-in-Install : goal.returns-in-Install
unfolding staged_after
returns-in-Install c d = by-change (after c.args.staged) _ Install d _ c.in-Install.is refl

pub returns-in-Update : goal.returns-in-Update
unfolding staged_after
returns-in-Update c d = by-change (after c.args.staged) _ Update d _ c.in-Update.is refl

pub returns-in-Remove : goal.returns-in-Remove
unfolding staged_after
returns-in-Remove c d = by-change (after c.args.staged) _ Remove d _ c.in-Remove.is c.saturating_sub.ensures
