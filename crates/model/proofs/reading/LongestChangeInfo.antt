-- The longest ChangeInfo is reached: a sound state whose session has 16 packages processed, each a remove of a cluster whose part number
-- has ten digits, has a ChangeInfo of `change_info_most` bytes. That none is longer is `change-info-most` of Lengths. Assumes nothing.
use Prim.Native.Nat.{ℕ, zero, suc, ◌+◌}
use mathlib.Core.Path.{◌≡◌, refl}
use mathlib.Core.Bool.{true}
use mathlib.Core.List.{List, [], ◌∷◌, map}
use mathlib.Core.Option.{none}
use lib.ListN.{length, replicate}
use Rattle.clusters.specs.Cluster.{Cluster, cluster}
use Rattle.actions.specs.Action.{remove}
use Rattle.clusters.specs.View.{no_version}
use Rattle.model.specs.State.{processed, Package, ready, Entry, State, state, Store}
use Rattle.model.specs.Areas.{new_package, with_block, in_state}
use Rattle.model.specs.Sound.{sound}
use Rattle.model.specs.Reading.{change_info, change_info_most}
use Rattle.model.proofs.examples.Open.{computing}

-- so many numbers from the first on
abbrev numbers_from : ℕ → ℕ → List ℕ
numbers_from first zero = []
numbers_from first (suc n) = first ∷ numbers_from (first + 1) n

abbrev ids : List ℕ
ids = numbers_from 1 16

-- the cluster that the package with an id removes
abbrev part_of : ℕ → ℕ
part_of id = 1000000000 + id

abbrev cluster_of : ℕ → Cluster
cluster_of id = cluster (part_of id) no_version []

-- a package of one byte, received in one block and processed
abbrev processed_package : ℕ → Package
processed_package id = in_state processed (with_block 1 (new_package id 1))

abbrev entry_of : ℕ → Entry
entry_of id = record { id = id; action = remove (part_of id) }

-- all of them processed: Ready
abbrev longest : State
longest =
    state ready
    (record { packages = map processed_package ids; next = 17 })
    (record { beginning = map cluster_of ids; listed = map entry_of ids })
    none

abbrev store : Store
store = replicate 16 0

pub record Longest : Type 0 where
  pub is_sound : sound longest store ≡ true
  pub reaches : length (change_info longest) ≡ change_info_most

pub longest-change-info : Longest
unfolding computing
longest-change-info = record { is_sound = refl; reaches = refl }
