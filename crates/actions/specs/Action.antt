-- What actions do to a table: "The staged table is the session's beginning table with the listed actions applied".
use Rattle.std.specs.Prelude.{ℕ, Bool, true, false, cond, ◌&&◌, List, [], ◌∷◌, eqb, ltb}
use Rattle.clusters.specs.Cluster.{Cluster, with_mark, part_within, cluster_within}
use Rattle.clusters.specs.Table.{Table}

-- "Action is `install`, `update` or `remove`": of a cluster, to a cluster, of a part number. A package gives no mark, so the mark of
-- that cluster plays no part
pub data Action : Type 0 where
  install update : Cluster → Action
  remove : ℕ → Action

-- the part number of the cluster that an action is about
abbrev pub action_part : Action → ℕ
action_part (install c) = c.part
action_part (update c) = c.part
action_part (remove part) = part

-- a cluster added, before the first with a larger part number: a table is "in rising part number"
unfoldable pub insert : Cluster → Table → Table
insert c [] = c ∷ []
insert c (d ∷ t) = cond (ltb c.part d.part) (c ∷ d ∷ t) (d ∷ insert c t)

-- version and needs replaced: a cluster in the place of the one with its part number, whose mark it keeps (A.2: "update keeps it")
unfoldable pub replace : Cluster → Table → Table
replace c [] = []
replace c (d ∷ t) = cond (eqb c.part d.part) (with_mark c d.stays ∷ replace c t) (d ∷ replace c t)

-- the table without the cluster with a part number
unfoldable pub take_out : ℕ → Table → Table
take_out part [] = []
take_out part (d ∷ t) = cond (eqb part d.part) (take_out part t) (d ∷ take_out part t)

-- "install adds the cluster with the package's version and needs, update replaces both, remove takes the cluster out". A.2: "Install
-- gives 0", the mark
unfoldable pub apply : Action → Table → Table
apply (install c) t = insert (with_mark c false) t
apply (update c) t = replace c t
apply (remove part) t = take_out part t

-- "with the listed actions applied", in their order
unfoldable pub apply_all : Table → List Action → Table
apply_all t [] = t
apply_all t (a ∷ rest) = apply_all (apply a t) rest

-- an action is within the limits of a cluster
unfoldable pub action_within : Action → Bool
action_within (install c) = cluster_within c
action_within (update c) = cluster_within c
action_within (remove part) = part_within part

-- each of these actions
unfoldable pub actions_within : List Action → Bool
actions_within [] = true
actions_within (a ∷ rest) = action_within a && actions_within rest
