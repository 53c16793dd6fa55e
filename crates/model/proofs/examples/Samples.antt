-- States and stores that the tables of cases begin with, written out. Each is sound but where it says that it is not. The store's bytes
-- play no part in that, so an area that no call reads holds no package text.
use Prim.Native.Nat.{ℕ, zero, suc, ◌+◌}
use mathlib.Core.Bool.{true, false}
use mathlib.Core.List.{List, [], ◌∷◌, ◌++◌, map}
use mathlib.Core.Option.{none, some}
use lib.ListN.{length, replicate}
use Rattle.base.specs.Quoted.{bytes}
use Rattle.text.specs.Version.{version}
use Rattle.clusters.specs.Cluster.{Cluster, cluster, with_mark, need}
use Rattle.clusters.specs.Table.{Table}
use Rattle.actions.specs.Action.{Action, install, update, remove}
use Rattle.model.specs.State.{PackageState, transferring, transferred, being_processed, processed, Package, Phase, idle, ready, processing, Entry, State, Store, state}
use Rattle.model.proofs.examples.Transcript.{package_text, package_of, transfers, session, entry, kept, Start, start}

-- ---- clusters and tables

-- the cluster of `loaded_with`; raised
abbrev pub cluster20 : Cluster
cluster20 = cluster 20 (version 1 0 4 0) []

abbrev pub updated20 : Cluster
updated20 = cluster 20 (version 1 0 5 0) []

-- a cluster without needs; one that needs the raised cluster 20
abbrev pub cluster30 : Cluster
cluster30 = cluster 30 (version 1 0 0 0) []

abbrev pub dependent30 : Cluster
dependent30 = cluster 30 (version 1 0 0 0) (need 20 (version 1 0 5 0) ∷ [])

-- the first of these, marked; raised
abbrev pub marked20 : Cluster
marked20 = with_mark cluster20 true

abbrev pub marked_updated20 : Cluster
marked_updated20 = with_mark updated20 true

-- as many clusters, from a part number on
abbrev pub clusters : ℕ → ℕ → Table
clusters zero part = []
clusters (suc n) part = cluster part (version 1 0 0 0) [] ∷ clusters n (part + 1)

-- ---- package texts

abbrev pub update_text : List ℕ
update_text = package_text "update,20,1.0.5.0,3,19495,," "abc"

abbrev pub remove_text : List ℕ
remove_text = package_text "remove,20,,0,0,," ""

-- 9: another action's word
abbrev pub ill_formed_text : List ℕ
ill_formed_text = package_text "upgrade,20,1.0.5.0,3,19495,," "abc"

-- 10: a byte too many; a byte missing
abbrev pub long_text : List ℕ
long_text = package_text "update,20,1.0.5.0,2,19495,," "abc"

abbrev pub short_text : List ℕ
short_text = package_text "update,20,1.0.5.0,4,19495,," "abc"

-- 9 and 10: another action's word, and a byte too many
abbrev pub both_text : List ℕ
both_text = package_text "upgrade,20,1.0.5.0,2,19495,," "abc"

-- ---- packages

-- packages of these texts, complete, from an id on
abbrev pub complete : PackageState → ℕ → List (List ℕ) → List Package
complete s id [] = []
complete s id (text ∷ texts) = package_of id (length text) (length text) 1 s ∷ complete s (id + 1) texts

-- as many packages of one byte, nothing received, from an id on
abbrev pub begun : ℕ → ℕ → List Package
begun zero id = []
begun (suc n) id = package_of id 1 0 0 transferring ∷ begun n (id + 1)

-- these actions listed, for packages from an id on
abbrev pub listed_from : ℕ → List Action → List Entry
listed_from id [] = []
listed_from id (a ∷ rest) = entry id a ∷ listed_from (id + 1) rest

abbrev pub joined : List (List ℕ) → Store
joined [] = []
joined (text ∷ texts) = text ++ joined texts

-- ---- starts

-- the same in another manager's state
abbrev pub in_phase : Phase → Start → Start
in_phase phase begins =
    start (state phase begins.state.transfers begins.state.session begins.state.work) begins.store

-- Idle with packages, a next id, and a store of as many bytes, all 0
abbrev pub idle_with : List Package → ℕ → ℕ → Start
idle_with packages next room = start (state idle (transfers packages next) (session (cluster20 ∷ []) []) none) (replicate room 0)

-- Idle with a table, and packages of these texts, complete, from id 1 on
abbrev pub idle_from : Table → PackageState → List (List ℕ) → Start
idle_from table s texts =
    start (state idle (transfers (complete s 1 texts) (length texts + 1)) (session table []) none) (joined texts)

abbrev pub idle_holding : PackageState → List (List ℕ) → Start
idle_holding = idle_from (cluster20 ∷ [])

-- Ready with these actions listed, whose packages have one byte each and ids from 1 on, and packages of these texts Transferred behind
-- them
abbrev pub ready_with : Table → List Action → List (List ℕ) → Start
ready_with table actions texts =
    let listed : List (List ℕ) = map (λ a. 0 ∷ []) actions in
    start
    (state
    ready
    (transfers (complete processed 1 listed ++ complete transferred (length listed + 1) texts) (length listed + (length texts + 1)))
    (session table (listed_from 1 actions))
    none)
    (joined (listed ++ texts))

-- Processing, with packages in each state, of which the last is Transferring and full
abbrev pub each_state : State
each_state =
    state
    processing
    (transfers
    (package_of 1 4 2 1 transferring
    ∷ package_of 2 2 2 1 transferred
    ∷ package_of 3 3 3 1 being_processed
    ∷ package_of 4 1 1 1 processed
    ∷ package_of 5 2 2 1 transferring
    ∷ [])
    6)
    (session (cluster20 ∷ []) (entry 4 (remove 20) ∷ []))
    (some (kept (install cluster30) 1 2 0 0 0 0 false))

-- with a store as long as the areas together; with one a byte shorter, which is not sound
abbrev pub each_start : Start
each_start = start each_state (replicate 12 0)

abbrev pub unsound : Start
unsound = start each_state (replicate 11 0)

-- Idle and not sound for the same reason
abbrev pub unsound_idle : Start
unsound_idle = idle_with (package_of 1 4 2 1 transferring ∷ []) 2 3

-- ---- a session of two packages

-- beside the two, of which the later was processed first, one package is Transferring and one Transferred; two bytes are free
abbrev pub package1 : Package
package1 = package_of 1 2 2 1 processed

abbrev pub package2 : Package
package2 = package_of 2 4 1 1 transferring

abbrev pub package3 : Package
package3 = package_of 3 1 1 1 processed

abbrev pub package4 : Package
package4 = package_of 4 3 3 2 transferred

abbrev pub bytes_of_four : Store
bytes_of_four = bytes "abc" ++ replicate 3 0 ++ bytes "defg" ++ replicate 2 0

-- what is listed: the first needs what the second brings
abbrev pub listed_two : List Entry
listed_two = entry 3 (install dependent30) ∷ entry 1 (update updated20) ∷ []

abbrev pub staged_table : Table
staged_table = updated20 ∷ dependent30 ∷ []

-- with other packages, next id, list and store, in a manager's state
abbrev pub session_with : List Package → ℕ → List Entry → Store → Phase → Start
session_with packages next listed store phase = start (state phase (transfers packages next) (session (cluster20 ∷ []) listed) none) store

-- that session in a manager's state: any but Idle and Processing
abbrev pub session_in : Phase → Start
session_in = session_with (package1 ∷ package2 ∷ package3 ∷ package4 ∷ []) 5 listed_two bytes_of_four
