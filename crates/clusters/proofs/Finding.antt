-- What is found of a part number says whether a need is met. Assumes nothing.
use mathlib.Core.Path.{◌≡◌}
use mathlib.Core.Bool.{false}
use mathlib.Core.Option.{none, some}
use Rattle.clusters.specs.declared.cluster.Need.{Need}
use Rattle.clusters.specs.Version.{fulfils}
use Rattle.clusters.specs.Cluster.{Cluster}
use Rattle.clusters.specs.Table.{Table, find, meets}

pub meets-none : (t : Table) (n : Need) → find n.part t ≡ none → meets t n ≡ false
unfolding meets
meets-none t n e = rw (meets, e)

pub meets-some : (t : Table) (n : Need) (c : Cluster) → find n.part t ≡ some c → meets t n ≡ fulfils c.version n.least
unfolding meets
meets-some t n c e = rw (meets, e)
