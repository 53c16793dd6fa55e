-- "Sound", word by word: for each part of the sentence a state that violates it alone, at the first value that does, beside the last
-- that does not. What is only said of a store's length is said for that length. Assumes nothing.
use Prim.Native.Nat.{ℕ}
use mathlib.Core.Path.{◌≡◌, refl}
use mathlib.Core.Bool.{Bool, true, false, cond}
use mathlib.Core.List.{List, [], ◌∷◌, ◌++◌, map}
use mathlib.Core.Option.{none, some}
use lib.ListN.{replicate}
use Rattle.text.specs.declared.version.Version.{Version}
use Rattle.text.specs.Version.{version}
use Rattle.clusters.specs.Cluster.{cluster, need}
use Rattle.clusters.specs.declared.cluster.Need.{Need}
use Rattle.clusters.specs.Table.{Table}
use Rattle.actions.specs.Action.{Action, install, update, remove}
use Rattle.model.specs.State.{PackageState, transferring, transferred, being_processed, processed, Package, verifying_rolls_back, activated_rolls_back, ready_cleans_up, activated_cleans_up, rolled_back_cleans_up, Phase, idle, ready, processing, activating, verifying, activated, rolling_back, rolled_back, cleaning_up, Entry, Work, State, state}
use Rattle.model.specs.Sound.{sound_for}
use Rattle.model.proofs.examples.Open.{computing}
use Rattle.model.proofs.examples.Transcript.{package_of, transfers, session, entry, kept}
use Rattle.model.proofs.examples.Samples.{cluster20, updated20, cluster30, marked20, marked_updated20, clusters, begun, complete, listed_from}

-- a state, the length of a store, and whether they are sound
pub record Judged : Type 0 where
  pub state : State
  pub room : ℕ
  pub is_sound : Bool

-- in a store of 99 bytes, where the length does not matter
abbrev sound : State → Judged
sound s = record { state = s; room = 99; is_sound = true }

abbrev unsound : State → Judged
unsound s = record { state = s; room = 99; is_sound = false }

-- ---- the store

abbrev holding : List Package → ℕ → State
holding packages next = state idle (transfers packages next) (session (cluster20 ∷ []) []) none

abbrev in_room : State → ℕ → Bool → Judged
in_room s room is_sound = record { state = s; room = room; is_sound = is_sound }

abbrev of_store : List Judged
of_store =
    -- "every limit above holds, that of the store handed in too": "a lent store of at most 16,777,216 bytes"
    in_room (holding [] 1) 16777216 true
    ∷ in_room (holding [] 1) 16777217 false
    ∷ in_room (holding [] 1) 0 true
    -- "areas fit the store"
    ∷ in_room (holding (package_of 1 2 0 0 transferring ∷ package_of 2 3 0 0 transferring ∷ []) 3) 5 true
    ∷ in_room (holding (package_of 1 2 0 0 transferring ∷ package_of 2 3 0 0 transferring ∷ []) 3) 4 false
    ∷ in_room (holding (package_of 1 16777216 0 0 transferring ∷ []) 2) 16777216 true
    ∷ []

-- ---- the table that the session began with

abbrev on_table : Table → State
on_table table = state idle (transfers [] 1) (session table []) none

abbrev on_cluster : ℕ → Version → List Need → State
on_cluster part v needs = on_table (cluster part v needs ∷ [])

abbrev v1 : Version
v1 = version 1 0 0 0

abbrev needing : Need → State
needing n = on_cluster 20 v1 (n ∷ [])

abbrev of_table : List Judged
of_table =
    -- "a mark, `stays`, 0 or 1"
    sound (on_table (marked20 ∷ []))
    ∷ sound (on_table (cluster20 ∷ []))
    -- "a part number 1 to 4,294,967,295"
    ∷ unsound (on_cluster 0 v1 [])
    ∷ sound (on_cluster 1 v1 [])
    ∷ sound (on_cluster 4294967295 v1 [])
    ∷ unsound (on_cluster 4294967296 v1 [])
    -- "A version is four parts of 0 to 65,535"; A.7: "The fourth version part may be 0 to 4,294,967,295."
    ∷ sound (on_cluster 20 (version 65535 65535 65535 4294967295) [])
    ∷ unsound (on_cluster 20 (version 65536 0 0 0) [])
    ∷ unsound (on_cluster 20 (version 0 65536 0 0) [])
    ∷ unsound (on_cluster 20 (version 0 0 65536 0) [])
    ∷ unsound (on_cluster 20 (version 0 0 0 4294967296) [])
    -- "0 to 4 needs"
    ∷ sound (on_cluster 20 v1 (replicate 4 (need 20 v1)))
    ∷ unsound (on_cluster 20 v1 (replicate 5 (need 20 v1)))
    -- "A need is a part number and a least version."
    ∷ unsound (needing (need 0 v1))
    ∷ sound (needing (need 1 v1))
    ∷ sound (needing (need 4294967295 (version 65535 65535 65535 4294967295)))
    ∷ unsound (needing (need 4294967296 v1))
    ∷ unsound (needing (need 20 (version 65536 0 0 0)))
    ∷ unsound (needing (need 20 (version 0 65536 0 0)))
    ∷ unsound (needing (need 20 (version 0 0 65536 0)))
    ∷ unsound (needing (need 20 (version 0 0 0 4294967296)))
    ∷ unsound (on_cluster 20 v1 (need 20 v1 ∷ need 0 v1 ∷ []))
    -- "A table has at most 64 clusters in rising part number."
    ∷ sound (on_table (clusters 64 101))
    ∷ unsound (on_table (clusters 65 101))
    ∷ sound (on_table (cluster 20 v1 [] ∷ cluster 21 v1 [] ∷ []))
    ∷ unsound (on_table (cluster 20 v1 [] ∷ cluster 20 v1 [] ∷ []))
    ∷ unsound (on_table (cluster 21 v1 [] ∷ cluster 20 v1 [] ∷ []))
    ∷ []

-- ---- the packages

-- with one package, of id 2
abbrev one : ℕ → ℕ → ℕ → PackageState → State
one size received blocks s = holding (package_of 2 size received blocks s ∷ []) 3

-- with ids in this order, and a next id
abbrev with_ids : List ℕ → ℕ → State
with_ids ids next = holding (map (λ id. package_of id 1 0 0 transferring) ids) next

abbrev of_packages : List Judged
of_packages =
    -- "At most 16 packages."
    sound (holding (begun 16 1) 17)
    ∷ unsound (holding (begun 17 1) 18)
    -- "ids and sizes are at least 1"
    ∷ unsound (with_ids (0 ∷ []) 3)
    ∷ sound (with_ids (1 ∷ []) 3)
    ∷ unsound (one 0 0 0 transferring)
    ∷ sound (one 1 0 0 transferring)
    -- "ids rise and are below the next id (spent: no bound)"
    ∷ sound (with_ids (1 ∷ 2 ∷ []) 3)
    ∷ unsound (with_ids (2 ∷ 2 ∷ []) 3)
    ∷ unsound (with_ids (2 ∷ 1 ∷ []) 3)
    ∷ unsound (with_ids (1 ∷ 3 ∷ []) 3)
    ∷ unsound (with_ids (1 ∷ 4 ∷ []) 3)
    ∷ sound (with_ids (1 ∷ 2 ∷ []) 4)
    ∷ sound (with_ids (1 ∷ 4294967295 ∷ []) 4294967296)
    ∷ unsound (with_ids (1 ∷ 4294967295 ∷ []) 4294967295)
    -- the next id is one that can be given, or says that all are spent
    ∷ unsound (with_ids [] 0)
    ∷ sound (with_ids [] 1)
    ∷ sound (with_ids [] 4294967296)
    ∷ unsound (with_ids [] 4294967297)
    -- "received is at most the size, and equal to it past Transferring"
    ∷ sound (one 4 4 1 transferring)
    ∷ unsound (one 4 5 1 transferring)
    ∷ sound (one 4 4 1 transferred)
    ∷ unsound (one 4 3 1 transferred)
    ∷ unsound (one 4 5 1 transferred)
    -- "accepted blocks are at most the bytes received"
    ∷ sound (one 4 3 3 transferring)
    ∷ unsound (one 4 3 4 transferring)
    ∷ sound (one 4 4 4 transferred)
    ∷ unsound (one 4 4 5 transferred)
    ∷ unsound (one 4 0 1 transferring)
    ∷ sound (one 4 3 0 transferring)
    -- of each package
    ∷ unsound (holding (package_of 1 4 4 1 transferred ∷ package_of 2 4 3 1 transferred ∷ []) 3)
    ∷ []

-- ---- the actions

-- these actions listed from id 1 on, each with its Processed package of one byte
abbrev listed : List Action → List Package
listed actions = complete processed 1 (map (λ a. 0 ∷ []) actions)

-- an action behind others of a session, and whether it is within its limits and passes 11 to 15 and 21
pub record ActionCase : Type 0 where
  pub beginning : Table
  pub earlier : List Action
  pub action : Action
  pub may : Bool

abbrev passing : Table → List Action → Action → ActionCase
passing beginning earlier action = record { beginning = beginning; earlier = earlier; action = action; may = true }

abbrev failing : Table → List Action → Action → ActionCase
failing beginning earlier action = record { beginning = beginning; earlier = earlier; action = action; may = false }

-- listed last, in Ready
abbrev as_listed : ActionCase → Judged
as_listed c =
    let actions = c.earlier ++ c.action ∷ [] in
    in_room (state ready (transfers (listed actions) 9) (session c.beginning (listed_from 1 actions)) none) 99 c.may

-- kept, in Processing, of a package behind theirs
abbrev as_kept : ActionCase → Judged
as_kept c =
    in_room
    (state
    processing
    (transfers (listed c.earlier ++ package_of 8 5 5 1 being_processed ∷ []) 9)
    (session c.beginning (listed_from 1 c.earlier))
    (some (kept c.action 2 3 0 0 0 0 false)))
    99
    c.may

abbrev table20 : Table
table20 = cluster20 ∷ []

-- "the listed actions .. pass 11 to 15 in turn"; "one package is Processing, with an action that passes them"; A.2: 21 beside them
abbrev action_cases : List ActionCase
action_cases =
    -- the limits of a cluster, of an install and of an update
    failing table20 [] (install (cluster 0 v1 []))
    ∷ passing table20 [] (install (cluster 1 v1 []))
    ∷ passing table20 [] (install (cluster 4294967295 v1 []))
    ∷ failing table20 [] (install (cluster 4294967296 v1 []))
    ∷ passing table20 [] (install (cluster 30 (version 65535 65535 65535 4294967295) (replicate 4 (need 1 v1))))
    ∷ failing table20 [] (install (cluster 30 (version 0 0 0 4294967296) []))
    ∷ failing table20 [] (install (cluster 30 v1 (replicate 5 (need 1 v1))))
    ∷ failing table20 [] (install (cluster 30 v1 (need 0 v1 ∷ [])))
    ∷ passing table20 [] (update (cluster 20 (version 65535 0 0 0) (replicate 4 (need 1 v1))))
    ∷ failing table20 [] (update (cluster 20 (version 65536 0 0 0) []))
    ∷ failing table20 [] (update (cluster 20 (version 2 0 0 0) (replicate 5 (need 1 v1))))
    -- 11, alone
    ∷ failing table20 (update updated20 ∷ []) (update (cluster 20 (version 1 0 6 0) []))
    ∷ failing table20 (update updated20 ∷ []) (remove 20)
    ∷ failing table20 (remove 20 ∷ []) (install cluster20)
    ∷ passing table20 (install cluster30 ∷ []) (remove 20)
    -- 12
    ∷ failing table20 [] (install cluster20)
    ∷ passing [] [] (install cluster20)
    -- 13
    ∷ failing table20 [] (update (cluster 30 v1 []))
    ∷ failing table20 [] (remove 30)
    ∷ passing table20 [] (remove 20)
    -- 14
    ∷ failing table20 [] (update cluster20)
    ∷ passing table20 [] (update (cluster 20 (version 1 0 4 1) []))
    -- 15, of the table that is staged then
    ∷ failing (clusters 64 101) [] (install cluster30)
    ∷ passing (clusters 63 101) [] (install cluster30)
    ∷ failing (clusters 63 101) (install cluster20 ∷ []) (install cluster30)
    ∷ passing (clusters 64 101) (remove 101 ∷ []) (install cluster30)
    -- 21, of a listed and of a kept remove; marks of other clusters, and of updates and installs, hinder nothing
    ∷ failing (marked20 ∷ []) [] (remove 20)
    ∷ failing (marked20 ∷ cluster30 ∷ []) (remove 30 ∷ []) (remove 20)
    ∷ passing (marked20 ∷ cluster30 ∷ []) [] (remove 30)
    ∷ passing (marked20 ∷ []) [] (update updated20)
    ∷ passing (marked20 ∷ []) (update updated20 ∷ []) (install cluster30)
    -- the mark of an action's own cluster plays no part
    ∷ passing table20 [] (update marked_updated20)
    ∷ passing [] [] (install marked20)
    -- in turn: what fails is not mended by what follows
    ∷ failing (clusters 64 101) (install cluster30 ∷ []) (remove 101)
    ∷ []

-- ---- the list and the Processed packages

-- Ready with packages and entries; a package of one byte
abbrev listing : List Package → List Entry → State
listing packages entries = state ready (transfers packages 9) (session table20 entries) none

abbrev one_byte : ℕ → PackageState → Package
one_byte id s = package_of id 1 1 1 s

abbrev of_list : List Judged
of_list =
    -- "the listed actions are those of exactly the Processed packages", in any order
    sound (listing (one_byte 1 processed ∷ one_byte 2 processed ∷ []) (entry 1 (remove 20) ∷ entry 2 (install cluster30) ∷ []))
    ∷ sound (listing (one_byte 1 processed ∷ one_byte 2 processed ∷ []) (entry 2 (remove 20) ∷ entry 1 (install cluster30) ∷ []))
    -- one that is Processed and not listed
    ∷ unsound (listing (one_byte 1 processed ∷ one_byte 2 processed ∷ []) (entry 1 (remove 20) ∷ []))
    ∷ unsound (listing (one_byte 1 processed ∷ one_byte 2 processed ∷ []) (entry 2 (remove 20) ∷ []))
    -- one that is listed and not Processed; and no package
    ∷ unsound (listing (one_byte 1 processed ∷ one_byte 2 transferred ∷ []) (entry 1 (remove 20) ∷ entry 2 (install cluster30) ∷ []))
    ∷ unsound (listing (one_byte 1 processed ∷ package_of 2 1 0 0 transferring ∷ []) (entry 1 (remove 20) ∷ entry 2 (install cluster30) ∷ []))
    ∷ unsound (listing (one_byte 1 processed ∷ []) (entry 1 (remove 20) ∷ entry 2 (install cluster30) ∷ []))
    -- another id; an id twice
    ∷ unsound (listing (one_byte 1 processed ∷ one_byte 2 processed ∷ []) (entry 1 (remove 20) ∷ entry 3 (install cluster30) ∷ []))
    ∷ unsound (listing (one_byte 1 processed ∷ one_byte 2 processed ∷ []) (entry 1 (remove 20) ∷ entry 1 (install cluster30) ∷ []))
    ∷ unsound (listing (one_byte 1 processed ∷ []) (entry 1 (remove 20) ∷ entry 1 (install cluster30) ∷ []))
    -- "received is .. equal to it past Transferring"
    ∷ unsound (listing (package_of 1 2 1 1 processed ∷ []) (entry 1 (remove 20) ∷ []))
    ∷ []

-- ---- the kept values

-- Processing of a package of 7 bytes, of which 7 are received, beside one of 3
abbrev keeping : Work → State
keeping w =
    state
    processing
    (transfers (package_of 1 3 3 1 transferred ∷ package_of 2 7 7 1 being_processed ∷ []) 3)
    (session table20 [])
    (some w)

-- payload's start and count; sum, c0, c1 and bytes done
abbrev placed : ℕ → ℕ → State
placed payload_start count = keeping (kept (remove 20) payload_start count 0 0 0 0 false)

abbrev summed : ℕ → ℕ → ℕ → ℕ → State
summed sum c0 c1 bytes_done = keeping (kept (remove 20) 2 5 sum c0 c1 bytes_done true)

abbrev of_kept : List Judged
of_kept =
    -- "in Processing the kept payload start plus count is that package's size", not another's
    sound (placed 2 5)
    ∷ unsound (placed 2 4)
    ∷ unsound (placed 2 6)
    ∷ sound (placed 7 0)
    ∷ sound (placed 0 7)
    ∷ unsound (placed 1 2)
    -- "sum 0 to 65,535"; "c0 and c1 are at most 254"
    ∷ sound (summed 65535 254 254 5)
    ∷ unsound (summed 65536 0 0 0)
    ∷ unsound (summed 0 255 0 0)
    ∷ unsound (summed 0 0 255 0)
    -- "done bytes at most its payload"
    ∷ unsound (summed 0 0 0 6)
    -- "equal to it past Transferring"
    ∷ unsound
    (state
    processing
    (transfers (package_of 2 7 6 1 being_processed ∷ []) 3)
    (session table20 [])
    (some (kept (remove 20) 2 5 0 0 0 0 false)))
    -- "one package is Processing"
    ∷ unsound
    (state
    processing
    (transfers (package_of 1 7 7 1 being_processed ∷ package_of 2 7 7 1 being_processed ∷ []) 3)
    (session table20 [])
    (some (kept (remove 20) 2 5 0 0 0 0 false)))
    ∷ []

-- ---- the manager's state

-- an action is listed or none, values are kept or none, a package is Processing or Transferred
abbrev shaped : Phase → Bool → Bool → Bool → State
shaped phase lists keeps processes =
    state
    phase
    (transfers (cond lists (one_byte 1 processed ∷ []) [] ++ package_of 2 7 7 1 (cond processes being_processed transferred) ∷ []) 3)
    (session table20 (cond lists (entry 1 (remove 20) ∷ []) []))
    (cond keeps (some (kept (install cluster30) 0 (cond processes 7 0) 0 0 0 0 false)) none)

-- whether each of the eight is sound in a manager's state
abbrev eight : Phase → List Bool
eight phase =
    map (λ s. sound_for s 8)
    (shaped phase false false false
    ∷ shaped phase false false true
    ∷ shaped phase false true false
    ∷ shaped phase false true true
    ∷ shaped phase true false false
    ∷ shaped phase true false true
    ∷ shaped phase true true false
    ∷ shaped phase true true true
    ∷ [])

-- "in Processing" values are kept, "outside it the kept values and the cancel note are cleared"; "one package is Processing .. exactly in
-- state Processing"; "the list is empty in Idle, may be empty in Processing, else isn't"
abbrev in_idle : List Bool
in_idle = true ∷ false ∷ false ∷ false ∷ false ∷ false ∷ false ∷ false ∷ []

abbrev in_processing : List Bool
in_processing = false ∷ false ∷ false ∷ true ∷ false ∷ false ∷ false ∷ true ∷ []

abbrev in_others : List Bool
in_others = false ∷ false ∷ false ∷ false ∷ true ∷ false ∷ false ∷ false ∷ []

pub states : map eight (idle ∷ processing ∷ []) ≡ in_idle ∷ in_processing ∷ []
unfolding computing
states = refl

pub other_states : map eight
    (ready
    ∷ activating
    ∷ verifying
    ∷ activated
    ∷ rolling_back verifying_rolls_back
    ∷ rolling_back activated_rolls_back
    ∷ rolled_back
    ∷ cleaning_up ready_cleans_up
    ∷ cleaning_up activated_cleans_up
    ∷ cleaning_up rolled_back_cleans_up
    ∷ [])
    ≡ replicate 10 in_others
unfolding computing
other_states = refl

-- ---- the table

abbrev judgements : List Judged
judgements = of_store ++ of_table ++ of_packages ++ map as_listed action_cases ++ map as_kept action_cases ++ of_list ++ of_kept

pub soundness : map (λ j. in_room j.state j.room (sound_for j.state j.room)) judgements ≡ judgements
unfolding computing
soundness = refl
