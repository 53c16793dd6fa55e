-- `soundness::session::actions_within` meets its contract. The loop's invariant: the actions are within their limits exactly where those
-- from i on are. Assumes nothing.
use mathlib.Core.Path.{◌≡◌}
use lib.ListN.{drop}
use Rattle.actions.specs.Action.{actions_within}
use Rattle.listed_actions.specs.Listed.{listed_actions}
use Rattle.soundness.proofs.session.actions_within.Given as goal

abbrev pub invariant-loop-i : goal.invariant-loop-i
invariant-loop-i l = actions_within (listed_actions l.entries l.count) ≡ actions_within (drop l.i (listed_actions l.entries l.count))
