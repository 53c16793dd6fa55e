-- Load: what it gives, and each reason of "20. BadLoad" alone and at its boundary. A store of 16,777,216 bytes cannot be written out:
-- what is said of it is said of every store of that length. Assumes nothing.
use Prim.Native.Nat.{ℕ, zero, suc, ◌+◌}
use mathlib.Core.Path.{◌≡◌, refl}
use mathlib.Core.List.{List, [], ◌∷◌, ◌++◌, map}
use mathlib.Core.Option.{none}
use lib.ListN.{length, replicate}
use Rattle.text.specs.Digits.{digits}
use Rattle.text.specs.Version.{version}
use Rattle.clusters.specs.Cluster.{cluster, need}
use Rattle.clusters.specs.Table.{Table}
use Rattle.model.specs.State.{State, Store, idle, verifying, transferring, state}
use Rattle.model.specs.Calls.{done, refused, accepted}
use Rattle.model.specs.Step.{Outcome, outcome}
use Rattle.model.specs.Load.{load}
use Rattle.model.proofs.examples.Open.{computing}
use Rattle.model.proofs.examples.Transcript.{line, four_names_text, written_text, transfers, session, package_of}
use Rattle.model.proofs.examples.Samples.{cluster20, marked20, clusters}

-- the state that is handed to Load: it is given back when refused, whatever it holds. It is not sound, which Load does not ask
abbrev given : State
given = state verifying (transfers (package_of 1 7 0 0 transferring ∷ []) 2) (session [] []) none

-- a list, a first id, and the length of a store, whose bytes are not 0
pub record LoadCase : Type 0 where
  pub list : List ℕ
  pub first : ℕ
  pub room : ℕ
  pub gives : Outcome

abbrev load_case : List ℕ → ℕ → ℕ → Outcome → LoadCase
load_case list first room gives = record { list = list; first = first; room = room; gives = gives }

-- "It fills the store with 0 and gives the state Idle.": a table, the next id and the length of the store
abbrev loads : Table → ℕ → ℕ → Outcome
loads table next room = outcome done (state idle (transfers [] next) (session table []) none) (replicate room 0)

-- "a state that it gives back when refused", and the store
abbrev bad_load : ℕ → Outcome
bad_load room = record { reply = refused 20; state = given; store = replicate room 255 }

-- the list with cluster 20 alone; no list, for its version has three parts
abbrev list : List ℕ
list = four_names_text "20,1.0.4.0,,"

abbrev no_list : List ℕ
no_list = four_names_text "20,1.0.4,,"

-- value lines of as many clusters, from a part number on
abbrev value_lines : ℕ → ℕ → List ℕ
value_lines zero part = []
value_lines (suc n) part = digits part ++ line ",1.0.0.0,," ++ value_lines n (part + 1)

abbrev list_of : ℕ → List ℕ
list_of n = line "cluster,version,needs,least" ++ value_lines n 101

abbrev cases : List LoadCase
cases =
    load_case list 1 3 (loads (cluster20 ∷ []) 1 3)
    -- "ill-formed list"
    ∷ load_case no_list 1 3 (bad_load 3)
    ∷ load_case [] 1 3 (bad_load 3)
    -- "id 0"; the ids of 32 bits are all others
    ∷ load_case list 0 3 (bad_load 3)
    ∷ load_case list 4294967295 3 (loads (cluster20 ∷ []) 4294967295 3)
    ∷ load_case list 4294967296 3 (bad_load 3)
    ∷ load_case no_list 0 3 (bad_load 3)
    -- a store of 0 bytes, and the empty table
    ∷ load_case list 1 0 (loads (cluster20 ∷ []) 1 0)
    ∷ load_case (line "cluster,version,needs,least") 1 1 (loads [] 1 1)
    -- "A four-name list still loads, with all marks 0": the same with five names, and with mark 1; no mark, and another one
    ∷ load_case (written_text "20,1.0.4.0,,,0") 1 1 (loads (cluster20 ∷ []) 1 1)
    ∷ load_case (written_text "20,1.0.4.0,,,1") 1 1 (loads (marked20 ∷ []) 1 1)
    ∷ load_case (written_text "20,1.0.4.0,,,") 1 1 (bad_load 1)
    ∷ load_case (written_text "20,1.0.4.0,,,2") 1 1 (bad_load 1)
    -- A.7: "The fourth version part may be 0 to 4,294,967,295.", of a cluster and of a need's least version; the others stay
    ∷ load_case (four_names_text "20,0.0.0.4294967295,20,0.0.0.4294967295") 1 1
    (loads (cluster 20 (version 0 0 0 4294967295) (need 20 (version 0 0 0 4294967295) ∷ []) ∷ []) 1 1)
    ∷ load_case (four_names_text "20,0.0.0.4294967296,,") 1 1 (bad_load 1)
    ∷ load_case (four_names_text "20,0.0.0.0,20,0.0.0.4294967296") 1 1 (bad_load 1)
    ∷ load_case (four_names_text "20,0.0.0.0,," ++ line ",,20,0.0.0.4294967295") 1 1
    (loads (cluster 20 (version 0 0 0 0) (need 20 (version 0 0 0 4294967295) ∷ []) ∷ []) 1 1)
    ∷ load_case (four_names_text "20,0.0.0.0,," ++ line ",,20,0.0.0.4294967296") 1 1 (bad_load 1)
    ∷ load_case (four_names_text "20,0.0.65536.0,,") 1 1 (bad_load 1)
    -- "at most 64 clusters"
    ∷ load_case (list_of 64) 1 1 (loads (clusters 64 101) 1 1)
    ∷ load_case (list_of 65) 1 1 (bad_load 1)
    ∷ []

pub record Loads : Type 0 where
  pub table : map (λ c. load_case c.list c.first c.room (load given c.list c.first (replicate c.room 255))) cases ≡ cases
  -- "a lent store of at most 16,777,216 bytes"
  pub longest : (store : Store) → length store ≡ 16777216 → (load given list 1 store).reply ≡ accepted done
  pub too_long : (store : Store) → length store ≡ 16777217 → (load given list 1 store).reply ≡ refused 20

pub loads_give : Loads
unfolding computing
loads_give = record { table = refl; longest = λ store e. rw e refl; too_long = λ store e. rw e refl }
