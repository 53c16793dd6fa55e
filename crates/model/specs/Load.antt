-- Load: "Load takes such a list (any other text is ill-formed), a first transfer id 1 to 4,294,967,295, a lent store of at most
-- 16,777,216 bytes, and a state that it gives back when refused. It fills the store with 0 and gives the state Idle."
use Rattle.std.specs.Prelude.{ℕ, Bool, true, false, not, ◌&&◌, ◌||◌, List, [], ◌∷◌, leb, ltb, length, replicate}
use Rattle.std.proofs.Math.Option.{Option, none, some}
use Rattle.base.specs.Refusals.{refuse◌when◌, first_refusal}
use Rattle.clusters.specs.Table.{Table}
use Rattle.cluster_list.specs.Read.{read_list}
use Rattle.model.specs.State.{State, state, idle, Store}
use Rattle.model.specs.Calls.{done}
use Rattle.model.specs.Sound.{store_most, id_most}
use Rattle.model.specs.Step.{Outcome, outcome, unless_refused}

-- no table was read: the list is ill-formed
abbrev pub is_none : Option Table → Bool
is_none none = true
is_none (some table) = false

-- the table that was read; an ill-formed list is refused by 20 before the empty one counts
abbrev pub table_or_empty : Option Table → Table
table_or_empty none = []
table_or_empty (some table) = table

-- "20. BadLoad: Load with ill-formed list, id 0 or too long a store."
unfoldable pub is_bad_load : List ℕ → ℕ → Store → Bool
is_bad_load list first store = is_none (read_list list) || (not (leb 1 first && leb first id_most) || ltb store_most (length store))

-- the state that an accepted Load gives: Idle, with no package, the loaded table and the given first id
abbrev pub loaded_state : Table → ℕ → State
loaded_state table first =
    state idle (record { packages = []; next = first }) (record { beginning = table; listed = [] }) none

-- "It fills the store with 0 and gives the state Idle."; refused by 20 alone, it gives state and store back
unfoldable pub load : State → List ℕ → ℕ → Store → Outcome
load s list first store =
    unless_refused s store
    (first_refusal ((refuse 20 when is_bad_load list first store) ∷ []))
    (outcome done (loaded_state (table_or_empty (read_list list)) first) (replicate (length store) 0))
