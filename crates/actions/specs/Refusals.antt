-- The refusals of an action: 11 to 15, and 21 "directly after 13".
use Rattle.std.specs.Prelude.{ℕ, Bool, true, false, not, ◌&&◌, ◌||◌, List, [], ◌∷◌, ◌++◌, eqb, leb, length}
use Rattle.std.proofs.Math.Option.{Option, none, some}
use Rattle.base.specs.Refusals.{Refusal, refuse◌when◌, none_applies, first_refusal, number_or_zero}
use Rattle.clusters.specs.Version.{above}
use Rattle.clusters.specs.Cluster.{Cluster}
use Rattle.clusters.specs.Table.{Table, find, clusters_most}
use Rattle.actions.specs.Action.{Action, install, update, remove, action_part, apply}

-- "11. ClusterTouched: Process; the session's list has the cluster."
unfoldable pub touched : ℕ → List Action → Bool
touched part [] = false
touched part (a ∷ rest) = eqb part (action_part a) || touched part rest

-- ---- 12 to 15 and 21 by what they look at: the cluster that is staged under the action's part number, or none, and the number of staged
-- clusters

-- there is such a cluster
abbrev pub is_staged : Option Cluster → Bool
is_staged none = false
is_staged (some d) = true

-- "12. ClusterPresent: install of a staged cluster."
unfoldable pub cluster_present : Option Cluster → Action → Bool
cluster_present staged (install c) = is_staged staged
cluster_present staged (update c) = false
cluster_present staged (remove part) = false

-- "13. ClusterAbsent: update or remove of one not staged."
unfoldable pub cluster_absent : Option Cluster → Action → Bool
cluster_absent staged (install c) = false
cluster_absent staged (update c) = not (is_staged staged)
cluster_absent staged (remove part) = not (is_staged staged)

-- the cluster that is staged is marked
abbrev pub is_marked : Option Cluster → Bool
is_marked none = false
is_marked (some d) = d.stays

-- A.2: "21 Stays, directly after 13, for remove of a cluster marked 1". One that is not staged has 13 before
unfoldable pub cluster_stays : Option Cluster → Action → Bool
cluster_stays staged (install c) = false
cluster_stays staged (update c) = false
cluster_stays staged (remove part) = is_marked staged

-- "14. OldVersion: update not above the staged version." One that is not staged has 13 before
unfoldable pub old_version : Option Cluster → Action → Bool
old_version staged (install c) = false
old_version staged (update c) = elim staged [ none ↦ false | some d ↦ not (above c.version d.version) ]
old_version staged (remove part) = false

-- "15. TableFull: install with 64 staged."
unfoldable pub table_full : ℕ → Action → Bool
table_full count (install c) = leb clusters_most count
table_full count (update c) = false
table_full count (remove part) = false

-- 12 to 15 "in this order", and 21 "directly after 13"
abbrev pub staged_refusals : Option Cluster → ℕ → Action → List Refusal
staged_refusals staged count a =
    (refuse 12 when cluster_present staged a)
    ∷ (refuse 13 when cluster_absent staged a)
    ∷ (refuse 21 when cluster_stays staged a)
    ∷ (refuse 14 when old_version staged a)
    ∷ (refuse 15 when table_full count a)
    ∷ []

-- ---- of an action on a staged table, after the session's listed actions

-- 11 to 15 "in this order", with 21
unfoldable pub action_refusals : Table → List Action → Action → List Refusal
action_refusals staged listed a =
    (refuse 11 when touched (action_part a) listed) ∷ staged_refusals (find (action_part a) staged) (length staged) a

-- the first of these that applies, or 0
unfoldable pub action_refusal : Table → List Action → Action → ℕ
action_refusal staged listed a = number_or_zero (first_refusal (action_refusals staged listed a))

-- "pass 11 to 15"; A.2: "soundness has it beside 11 to 15", 21
unfoldable pub passes : Table → List Action → Action → Bool
passes staged listed a = none_applies (action_refusals staged listed a)

-- "pass 11 to 15 in turn": each after those before it
unfoldable pub pass_in_turn : Table → List Action → List Action → Bool
pass_in_turn staged listed [] = true
pass_in_turn staged listed (a ∷ rest) = passes staged listed a && pass_in_turn (apply a staged) (listed ++ a ∷ []) rest
