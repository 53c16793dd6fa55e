-- Clusters, their needs and limits.
use Rattle.std.specs.Prelude.{ℕ, Bool, true, false, ◌&&◌, List, [], ◌∷◌, ◌++◌, leb, length}
use Rattle.text.specs.declared.version.Version.{Version}
use Rattle.text.specs.Version.{version_within}
use Rattle.clusters.specs.declared.cluster.Need.{Need}

-- "A cluster is a part number .., a version, and 0 to 4 needs in order." A need is "a part number and a least version". A.2: "A
-- cluster now has a mark, `stays`, 0 or 1"
pub record Cluster : Type 0 where
  pub part : ℕ
  pub version : Version
  pub needs : List Need
  pub stays : Bool

-- the cluster of these parts and this mark, the one of these parts with mark 0, and the need of these parts
abbrev pub marked_cluster : ℕ → Version → List Need → Bool → Cluster
marked_cluster part version needs stays = record { part = part; version = version; needs = needs; stays = stays }

abbrev pub cluster : ℕ → Version → List Need → Cluster
cluster part version needs = marked_cluster part version needs false

abbrev pub need : ℕ → Version → Need
need part least = record { part = part; least = least }

-- a cluster with one need more, behind the others
abbrev pub with_need : Cluster → Need → Cluster
with_need c n = marked_cluster c.part c.version (c.needs ++ n ∷ []) c.stays

-- a cluster with this mark
abbrev pub with_mark : Cluster → Bool → Cluster
with_mark c stays = marked_cluster c.part c.version c.needs stays

-- "a part number 1 to 4,294,967,295"
unfoldable pub part_within : ℕ → Bool
part_within part = leb 1 part && leb part 4294967295

-- a need's part number and least version within their limits
unfoldable pub need_within : Need → Bool
need_within n = part_within n.part && version_within n.least

-- each of these needs
unfoldable pub needs_within : List Need → Bool
needs_within [] = true
needs_within (n ∷ ns) = need_within n && needs_within ns

-- "0 to 4 needs"
abbrev pub needs_most : ℕ
needs_most = 4

-- "a part number .., a version, and 0 to 4 needs", all within their limits
unfoldable pub cluster_within : Cluster → Bool
cluster_within c = part_within c.part && (version_within c.version && (leb (length c.needs) needs_most && needs_within c.needs))
