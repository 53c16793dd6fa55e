-- The rules of the definitions by computation, each at its limits from both sides: a table of cases for each. Assumes nothing.
use Prim.Native.Nat.{ℕ, zero, suc, ◌+◌}
use mathlib.Core.Path.{◌≡◌, refl, ap}
use mathlib.Core.Bool.{Bool, true, false, true≢false}
use mathlib.Core.List.{List, [], ◌∷◌}
use mathlib.Core.Option.{Option, none, some}
use lib.ListN.{get_or, replicate}
use Rattle.text.specs.declared.version.Version.{Version}
use Rattle.text.specs.Version.{version, version_within}
use Rattle.clusters.specs.declared.cluster.Need.{Need}
use Rattle.clusters.specs.Version.{above, at_or_above, fulfils}
use Rattle.clusters.specs.Cluster.{Cluster, marked_cluster, cluster, need, with_need, with_mark, part_within, need_within, needs_within, cluster_within}
use Rattle.clusters.specs.Columns.{mark_of}
use Rattle.clusters.specs.Table.{Table, find, meets, meets_all, needs_met_of, needs_met, rising_above, table_within}
use Rattle.std.specs.Prelude.{None, Some}
use Rattle.place_in_list.specs.Place.{Found}
use Rattle.clusters.specs.Place.{place_of}
use Rattle.base.proofs.Tables.{◌gives◌, AllHold}

-- ---- versions

-- "four parts of 0 to 65,535"; A.7: "The fourth version part may be 0 to 4,294,967,295."
pub version_limits : AllHold version_within (
    version 0 0 0 0 gives true
    ∷ version 65535 65535 65535 4294967295 gives true
    ∷ version 65536 0 0 0 gives false
    ∷ version 0 65536 0 0 gives false
    ∷ version 0 0 65536 0 gives false
    ∷ version 0 0 0 4294967296 gives false
    ∷ [])
unfolding version_within
version_limits = refl

-- whether the first is above the second, and the second above the first
abbrev above_either_way : Version × Version → Bool × Bool
above_either_way p = (above p.0 p.1, above p.1 p.0)

-- "compared part by part from the left"
pub comparisons : AllHold above_either_way (
    (version 2 0 0 0, version 1 9 9 9) gives (true, false)
    ∷ (version 1 2 0 0, version 1 1 9 9) gives (true, false)
    ∷ (version 1 1 2 0, version 1 1 1 9) gives (true, false)
    ∷ (version 1 1 1 2, version 1 1 1 1) gives (true, false)
    ∷ (version 1 0 0 10, version 1 0 0 9) gives (true, false)
    ∷ (version 1 0 0 4294967295, version 1 0 0 4294967294) gives (true, false)
    ∷ (version 1 0 1 0, version 1 0 0 4294967295) gives (true, false)
    ∷ (version 1 2 3 4, version 1 2 3 4) gives (false, false)
    ∷ [])
unfolding above
comparisons = refl

-- "at the least version or above", which is the second
pub least_versions : AllHold (λ (p : Version × Version). at_or_above p.0 p.1) (
    (version 1 0 4 0, version 1 0 4 0) gives true
    ∷ (version 1 0 4 1, version 1 0 4 0) gives true
    ∷ (version 1 0 3 4294967295, version 1 0 4 0) gives false
    ∷ (version 2 0 0 0, version 1 0 4 0) gives true
    ∷ (version 0 65535 0 0, version 1 0 4 0) gives false
    ∷ [])
unfolding above at_or_above
least_versions = refl

-- ---- clusters

-- "a part number 1 to 4,294,967,295"
pub part_limits : AllHold part_within (0 gives false ∷ 1 gives true ∷ 4294967295 gives true ∷ 4294967296 gives false ∷ [])
unfolding part_within
part_limits = refl

abbrev lowest : Version
lowest = version 0 0 0 0

abbrev highest : Version
highest = version 65535 65535 65535 4294967295

abbrev too_high : Version
too_high = version 0 0 65536 0

-- a need within the limits, and needs whose part number and whose version is not
abbrev fine_need : Need
fine_need = need 4294967295 highest

abbrev part_low : Need
part_low = need 0 lowest

abbrev least_high : Need
least_high = need 1 too_high

pub need_limits : AllHold need_within (fine_need gives true ∷ part_low gives false ∷ least_high gives false ∷ [])
unfolding version_within part_within need_within
need_limits = refl

-- "a part number .., a version, and 0 to 4 needs"
pub cluster_limits : AllHold cluster_within (
    cluster 1 lowest [] gives true
    ∷ cluster 4294967295 highest (replicate 4 fine_need) gives true
    ∷ cluster 1 lowest (replicate 5 fine_need) gives false
    ∷ cluster 0 lowest [] gives false
    ∷ cluster 1 too_high [] gives false
    ∷ cluster 1 lowest (part_low ∷ fine_need ∷ []) gives false
    ∷ cluster 1 lowest (fine_need ∷ fine_need ∷ fine_need ∷ least_high ∷ []) gives false
    ∷ [])
unfolding version_within part_within need_within needs_within cluster_within
cluster_limits = refl

-- A.2: "A cluster now has a mark, `stays`, 0 or 1": with either mark it is within its limits. A cluster made of its parts alone has 0, and a
-- need more changes no mark
abbrev marked : Bool → Cluster
marked stays = marked_cluster 20 highest (fine_need ∷ []) stays

pub marks : AllHold {B = Bool × Bool} (λ (c : Cluster). (mark_of c, cluster_within c)) (
    marked true gives (true, true)
    ∷ marked false gives (false, true)
    ∷ cluster 20 highest (fine_need ∷ []) gives (false, true)
    ∷ with_need (marked true) fine_need gives (true, true)
    ∷ with_need (marked false) fine_need gives (false, true)
    ∷ marked_cluster 0 highest [] true gives (true, false)
    ∷ [])
unfolding version_within part_within need_within needs_within cluster_within
marks = refl

-- a mark given, whichever stood there, changes nothing but the mark
pub marks_given : AllHold (λ (p : Bool × Bool). with_mark (marked p.0) p.1) (
    (false, true) gives marked true
    ∷ (true, false) gives marked false
    ∷ (true, true) gives marked true
    ∷ (false, false) gives marked false
    ∷ [])
marks_given = refl

-- A.2: "Tables are equal only with equal marks"
pub unequal_marks : marked true ∷ [] ≡ marked false ∷ [] → ⊥
unequal_marks e = true≢false (ap (λ (t : Table). mark_of (get_or t 0 (marked false))) e)

-- ---- tables

-- a cluster at 1.0.4.0 without needs
abbrev pub plain : ℕ → Cluster
plain part = cluster part (version 1 0 4 0) []

abbrev plain_from : ℕ → ℕ → Table
plain_from part zero = []
plain_from part (suc n) = plain part ∷ plain_from (part + 1) n

-- the clusters 1 to n
abbrev pub plain_to : ℕ → Table
plain_to n = plain_from 1 n

-- "at most 64 clusters in rising part number"
pub table_limits : AllHold table_within (
    [] gives true
    ∷ plain_to 64 gives true
    ∷ plain_to 65 gives false
    ∷ (plain 10 ∷ plain 11 ∷ plain 12 ∷ []) gives true
    ∷ (plain 10 ∷ plain 11 ∷ plain 11 ∷ []) gives false
    ∷ (plain 10 ∷ plain 11 ∷ plain 10 ∷ []) gives false
    ∷ (plain 10 ∷ plain 10 ∷ plain 11 ∷ []) gives false
    ∷ (plain 0 ∷ plain 1 ∷ []) gives false
    ∷ (plain 10 ∷ cluster 11 too_high [] ∷ []) gives false
    ∷ [])
unfolding version_within part_within need_within needs_within cluster_within rising_above table_within
table_limits = refl

abbrev three : Table
three = plain 10 ∷ cluster 20 lowest (fine_need ∷ []) ∷ plain 30 ∷ []

-- what is found of a part number, and its place
abbrev looked_up : ℕ → Option Cluster × Found
looked_up part = (find part three, place_of part three)

pub found : AllHold looked_up (
    10 gives (some (plain 10), Some 0)
    ∷ 20 gives (some (cluster 20 lowest (fine_need ∷ [])), Some 1)
    ∷ 30 gives (some (plain 30), Some 2)
    ∷ 0 gives (none, None)
    ∷ 15 gives (none, None)
    ∷ 31 gives (none, None)
    ∷ [])
unfolding find
found = refl

-- ---- needs

-- "met by a table that holds that cluster at the least version or above", A.5: "and has the same first part"
pub met : AllHold (meets three) (
    need 10 (version 1 0 4 0) gives true
    ∷ need 10 (version 1 0 4 1) gives false
    ∷ need 10 lowest gives false
    ∷ need 20 lowest gives true
    ∷ need 20 (version 0 0 0 1) gives false
    ∷ need 15 lowest gives false
    ∷ need 15 (version 1 0 4 0) gives false
    ∷ [])
unfolding above at_or_above fulfils find meets
met = refl

-- whether a table that holds 20 at the first version meets the need of 20 with the second as its least
abbrev met_at : Version × Version → Bool
met_at p = meets (cluster 20 p.0 [] ∷ []) (need 20 p.1)

-- the main versions below and above that of the least, and the last version of its own
pub met_in_main_version : AllHold met_at (
    (version 1 0 4 0, version 1 0 4 0) gives true
    ∷ (version 1 65535 65535 4294967295, version 1 0 4 0) gives true
    ∷ (version 1 0 3 4294967295, version 1 0 4 0) gives false
    ∷ (version 2 0 0 0, version 1 0 4 0) gives false
    ∷ (version 0 65535 0 0, version 1 0 4 0) gives false
    ∷ (version 0 0 0 1, lowest) gives true
    ∷ (version 1 0 0 0, lowest) gives false
    ∷ [])
unfolding above at_or_above fulfils find meets
met_in_main_version = refl

-- whether a table that holds 20 at this version meets its need at 1.0.4.0 and its need at 2.0.0.0
abbrev met_twice : Version → Bool
met_twice v = meets_all (cluster 20 v [] ∷ []) (need 20 (version 1 0 4 0) ∷ need 20 (version 2 0 0 0) ∷ [])

-- none of these meets the same need in two main versions (`one-main-version` of Meaning says it of every version)
pub never_met : AllHold met_twice (
    version 1 0 4 0 gives false
    ∷ version 1 65535 65535 4294967295 gives false
    ∷ version 2 0 0 0 gives false
    ∷ version 2 65535 65535 4294967295 gives false
    ∷ version 3 0 0 0 gives false
    ∷ [])
unfolding above at_or_above fulfils find meets meets_all
never_met = refl

-- 10 and 20 at 1.0.4.0, with needs
abbrev pair : List Need → List Need → Table
pair needs_of10 needs_of20 = cluster 10 (version 1 0 4 0) needs_of10 ∷ cluster 20 (version 1 0 4 0) needs_of20 ∷ []

-- a need that 1.0.4.0 meets, and one that it just does not
abbrev low : ℕ → Need
low part = need part (version 1 0 4 0)

abbrev high : ℕ → Need
high part = need part (version 1 0 4 1)

-- all needs of all clusters are met in the whole table; "a cluster may need itself"
pub all_met : AllHold needs_met (
    [] gives true
    ∷ pair [] [] gives true
    ∷ pair (low 20 ∷ []) (low 10 ∷ []) gives true
    ∷ pair (high 20 ∷ []) (low 10 ∷ []) gives false
    ∷ pair (low 20 ∷ []) (high 10 ∷ []) gives false
    ∷ pair (low 10 ∷ low 20 ∷ []) [] gives true
    ∷ pair (high 10 ∷ low 20 ∷ []) [] gives false
    ∷ pair (low 10 ∷ high 20 ∷ []) [] gives false
    ∷ pair [] (low 20 ∷ low 30 ∷ []) gives false
    -- a need of itself in another main version
    ∷ pair (need 10 (version 0 0 4 0) ∷ []) [] gives false
    ∷ pair [] (low 10 ∷ need 20 (version 2 0 4 0) ∷ []) gives false
    ∷ [])
unfolding above at_or_above fulfils find meets meets_all needs_met_of needs_met
all_met = refl
