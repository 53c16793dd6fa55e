-- Packages and their areas in the store. "Their areas, each of the declared size, lie back to back in id order from byte 0."
use Rattle.std.specs.Prelude.{ℕ, ◌+◌, ◌-◌, Bool, true, false, cond, List, [], ◌∷◌, ◌++◌, eqb, length, take, drop, replicate}
use Rattle.std.proofs.Math.Option.{Option, none, some}
use Rattle.model.specs.State.{PackageState, transferring, transferred, being_processed, processed, Package, Store}

-- "Declared sizes", added up
unfoldable pub declared : List Package → ℕ
declared [] = 0
declared (p ∷ ps) = p.size + declared ps

-- "Declared sizes plus free bytes equal the store's length."
unfoldable pub free : List Package → Store → ℕ
free ps store = length store - declared ps

-- the package with an id
unfoldable pub find : ℕ → List Package → Option Package
find id [] = none
find id (p ∷ ps) = cond (eqb id p.id) (some p) (find id ps)

-- a package of a size, started with an id: nothing received
abbrev pub new_package : ℕ → ℕ → Package
new_package id size = record { id = id; size = size; received = 0; blocks = 0; state = transferring }

-- what is looked at where no package has the id: InvalidTransferId is checked before it counts
abbrev pub no_package : Package
no_package = new_package 0 0

unfoldable pub package_of : ℕ → List Package → Package
package_of id ps = elim (find id ps) [ none ↦ no_package | some p ↦ p ]

-- where the area of the package with an id starts: behind those of the packages before it
unfoldable pub area_start : ℕ → List Package → ℕ
area_start id [] = 0
area_start id (p ∷ ps) = cond (eqb id p.id) 0 (p.size + area_start id ps)

-- the area of the package with an id
unfoldable pub area_of : ℕ → List Package → Store → List ℕ
area_of id [] store = []
area_of id (p ∷ ps) store = cond (eqb id p.id) (take p.size store) (area_of id ps (drop p.size store))

-- a list of bytes with others in the place of those from a position on
unfoldable pub overwritten : ℕ → List ℕ → List ℕ → List ℕ
overwritten at block bytes = take at bytes ++ (block ++ drop (at + length block) bytes)

-- "The block is written directly behind the bytes received so far."
unfoldable pub block_put : ℕ → List ℕ → List Package → Store → Store
block_put id block [] store = store
block_put id block (p ∷ ps) store =
    cond (eqb id p.id)
    (overwritten p.received block store)
    (take p.size store ++ block_put id block ps (drop p.size store))

-- the packages that are kept
unfoldable pub remaining : (Package → Bool) → List Package → List Package
remaining keeps [] = []
remaining keeps (p ∷ ps) = cond (keeps p) (p ∷ remaining keeps ps) (remaining keeps ps)

-- the areas of the packages that are kept, back to back
unfoldable pub remaining_areas : (Package → Bool) → List Package → Store → List ℕ
remaining_areas keeps [] store = []
remaining_areas keeps (p ∷ ps) store =
    let later = remaining_areas keeps ps (drop p.size store) in
    cond (keeps p) (take p.size store ++ later) later

-- "Deleting moves later areas down whole and fills the bytes between the new and the old end of the last area with 0"
unfoldable pub deleted : (Package → Bool) → List Package → Store → Store
deleted keeps ps store =
    remaining_areas keeps ps store ++ (replicate (declared ps - declared (remaining keeps ps)) 0 ++ drop (declared ps) store)

abbrev pub in_state : PackageState → Package → Package
in_state s p = record { id = p.id; size = p.size; received = p.received; blocks = p.blocks; state = s }

-- a package after an accepted block of a length
abbrev pub with_block : ℕ → Package → Package
with_block n p = record { id = p.id; size = p.size; received = p.received + n; blocks = p.blocks + 1; state = p.state }

-- the packages with the one of an id changed
unfoldable pub changed : ℕ → (Package → Package) → List Package → List Package
changed id change [] = []
changed id change (p ∷ ps) =
    cond (eqb id p.id) (change p ∷ ps) (p ∷ changed id change ps)

abbrev pub is_transferring : PackageState → Bool
is_transferring transferring = true
is_transferring transferred = false
is_transferring being_processed = false
is_transferring processed = false

abbrev pub is_transferred : PackageState → Bool
is_transferred transferring = false
is_transferred transferred = true
is_transferred being_processed = false
is_transferred processed = false

abbrev pub is_being_processed : PackageState → Bool
is_being_processed transferring = false
is_being_processed transferred = false
is_being_processed being_processed = true
is_being_processed processed = false

abbrev pub is_processed : PackageState → Bool
is_processed transferring = false
is_processed transferred = false
is_processed being_processed = false
is_processed processed = true

-- how many packages are in a state
unfoldable pub count_in : (PackageState → Bool) → List Package → ℕ
count_in is [] = 0
count_in is (p ∷ ps) = cond (is p.state) 1 0 + count_in is ps

-- the id of the package that is processing, and 0 where none is
unfoldable pub processing_id : List Package → ℕ
processing_id [] = 0
processing_id (p ∷ ps) = cond (is_being_processed p.state) p.id (processing_id ps)
