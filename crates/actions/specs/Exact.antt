-- The tables that the functions give, unused places included. proofs/Views.antt has what they stand for.
use Rattle.std.specs.Prelude.{ℕ, ◌+◌, ◌-◌, cond, false, ◌∷◌, ◌++◌, leb, take, drop, get_or, None, Some}
use Rattle.clusters.specs.declared.cluster.Cluster.{Cluster}
use Rattle.clusters.specs.declared.table.Table.{Table}
use Rattle.place_in_list.specs.Place.{Found}
use Rattle.clusters.specs.Table.{clusters_most}
use Rattle.clusters.specs.View.{no_cluster, view_table}
use Rattle.clusters.specs.Place.{place_of}
use Rattle.clusters.specs.Exact.{put_at, with_mark}
use Rattle.actions.specs.declared.action.Change.{Change}
use Rattle.actions.specs.declared.action.Change.TheVariants.{Install, Update, Remove}
use Rattle.actions.specs.declared.action.Action.{Action}
use Rattle.actions.specs.Place.{insert_place_from}

-- a cluster at the place i; what stood from there on is moved up by one place
unfoldable pub insert_at : ℕ → Cluster → Table → Table
insert_at i c t = record {
  clusters = (take i t.clusters ++ c ∷ drop i (take t.count t.clusters)) ++ drop (t.count + 1) t.clusters;
  count = t.count + 1;
}

-- a cluster before the first with a larger part number
unfoldable pub insert : Cluster → Table → Table
insert c t = insert_at (insert_place_from 0 c.part (view_table t)) c t

-- a cluster in the place that was found, with the mark of the one that stood there
abbrev pub replace_at : Found → Cluster → Table → Table
replace_at (Some i) c t = record { clusters = put_at i (with_mark c (get_or t.clusters i no_cluster).stays) t.clusters; count = t.count }
replace_at None c t = t

-- a cluster in the place of the one with its part number
unfoldable pub replace : Cluster → Table → Table
replace c t = replace_at (place_of c.part (view_table t)) c t

-- what stands behind the place i is moved down by one place; the place that becomes unused keeps its value
unfoldable pub close_gap : ℕ → Table → Table
close_gap i t = record {
  clusters = (take i t.clusters ++ drop (i + 1) (take t.count t.clusters)) ++ drop (t.count - 1) t.clusters;
  count = t.count - 1;
}

-- the table without the cluster in the place that was found
abbrev pub take_out_at : Found → Table → Table
take_out_at (Some i) t = close_gap i t
take_out_at None t = t

-- the table without the cluster with a part number
unfoldable pub take_out : ℕ → Table → Table
take_out part t = take_out_at (place_of part (view_table t)) t

-- an install gives mark 0, and leaves a full table as it is
abbrev pub change : Change → Cluster → Table → Table
change Install c t = cond (leb clusters_most t.count) t (insert (with_mark c false) t)
change Update c t = replace c t
change Remove c t = take_out c.part t

-- a table whose count does not fit is left as it is
unfoldable pub apply : Action → Table → Table
apply a t = cond (leb t.count clusters_most) (change a.change a.cluster t) t
