-- `soundness::session::actions_within` meets its contract. The loop's invariant: the actions are within their limits exactly where those
-- from i on are. Assumes nothing.
use borrow.Author.Rules.{rules}
use native.Mathlib.Omega.{arith}
use mathlib.Core.Path.{◌≡◌, refl, sym, ap, ◌∙◌}
use mathlib.Core.List.{◌∷◌}
use Prim.Native.Nat.{◌+◌, ◌≤◌}
use lib.ListN.{length, drop, get_or}
use Rattle.base.proofs.Counted.{unmapped, from_step, from_end}
use Rattle.base.proofs.Ladder.{told-no, told-yes}
use Rattle.actions.specs.Action.{actions_within}
use Rattle.state.specs.View.{entries_most, no_entry}
use Rattle.listed_actions.specs.Listed.{entry_action, listed_actions}
use Rattle.soundness.proofs.session.actions_within.Goals.{In-loop-i, Start}
use Rattle.soundness.proofs.session.actions_within.Goals as goal

-- the listed entries are in the array
few : (c : Start) → c.args.count ≤ length c.args.entries
few c =
    let long : length c.args.entries ≡ entries_most = search (rules, unmapped) in
    omega (arith, long, c.requires)

step : (c : In-loop-i) → (let i = c.loop-i.i in
    actions_within (listed_actions c.args.entries c.args.count) ≡ actions_within (entry_action (get_or c.args.entries i no_entry) ∷ drop (i + 1) (listed_actions c.args.entries c.args.count)))
step c =
    c.loop-i.invariant ∙ ap actions_within (from_step entry_action c.args.entries c.args.count (few c.before.before) c.loop-i.i no_entry c.loop-i-test.true)

pub loop-i-init : goal.loop-i-init
loop-i-init c = refl

pub returns-then-not-action_within : goal.returns-then-not-action_within
unfolding actions_within
returns-then-not-action_within c =
    sym (step (goal.at.returns-then-not-action_within c).In-loop-i ∙ simp (told-no _ _ c.action_within.ensures c.if-not-action_within.true-raw))

pub loop-i-preserved : goal.loop-i-preserved
unfolding actions_within
loop-i-preserved c =
    step (goal.at.loop-i-preserved c).In-loop-i ∙ simp (told-yes _ _ c.action_within.ensures c.if-not-action_within.false-raw)

pub returns : goal.returns
unfolding actions_within
returns c =
    sym (c.loop-i.invariant ∙ rw (from_end entry_action c.args.entries c.args.count (few (goal.at.returns c).Start) c.loop-i.i c.loop-i-test.false))
