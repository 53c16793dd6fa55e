-- "pass 11 to 15 in turn", and 21 beside them, decided on the beginning table and the number of staged clusters: each cluster is touched
-- once, so what is staged of an untouched one is what the beginning table has. proofs/Untouched.antt shows that it is `pass_in_turn`.
use Rattle.std.specs.Prelude.{ℕ, ◌+◌, ◌-◌, ◌≡◌, Bool, true, not, ◌&&◌, List, [], ◌∷◌, ◌++◌}
use Rattle.base.specs.Refusals.{none_applies}
use Rattle.clusters.specs.declared.columns.Columns.{Columns}
use Rattle.clusters.specs.Table.{Table, find, table_within}
use Rattle.clusters.specs.Columns.{ColumnsOf}
use Rattle.actions.specs.Action.{Action, install, update, remove, action_part, actions_within}
use Rattle.actions.specs.Refusals.{touched, staged_refusals, pass_in_turn}
use Rattle.state.specs.declared.session.Entry.{Entry}
use Rattle.listed_actions.specs.Listed.{listed_actions}

-- ---- on the beginning table

-- 12 to 15 and 21 of an action on a cluster that no listed action touches, with so many clusters staged
unfoldable pub passes_untouched : Table → ℕ → Action → Bool
passes_untouched beginning staged a = none_applies (staged_refusals (find (action_part a) beginning) staged a)

-- how many clusters are staged after an action that passes: "install adds the cluster .., update replaces both, remove takes the
-- cluster out"
unfoldable pub staged_after : Action → ℕ → ℕ
staged_after (install c) staged = staged + 1
staged_after (update c) staged = staged
staged_after (remove part) staged = staged - 1

-- "pass 11 to 15 in turn": each action after those listed before it, 11 by the list and the others as above
unfoldable pub pass_in_turn_on : Table → ℕ → List Action → List Action → Bool
pass_in_turn_on beginning staged listed [] = true
pass_in_turn_on beginning staged listed (a ∷ rest) =
    not (touched (action_part a) listed)
    && (passes_untouched beginning staged a && pass_in_turn_on beginning (staged_after a staged) (listed ++ a ∷ []) rest)

-- ---- what `pass_in_turn` answers

-- the answer r says whether the listed actions pass in turn on each table that the columns are of, where both are within their limits
abbrev pub PassesInTurn : Columns → List Entry → ℕ → Bool → Type 0
PassesInTurn columns entries count r =
    (t : Table) → ColumnsOf columns t → table_within t ≡ true → actions_within (listed_actions entries count) ≡ true
    → r ≡ pass_in_turn t [] (listed_actions entries count)
