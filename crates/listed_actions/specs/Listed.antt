-- The session's list as the code has it: the first of an array's entries.
use Rattle.std.specs.Prelude.{ℕ, ◌≡◌, Bool, false, ◌||◌, List, [], ◌∷◌, map, eqb, take}
use Rattle.actions.specs.Action.{Action}
use Rattle.actions.specs.View.{view_action}
use Rattle.state.specs.declared.session.Entry.{Entry}
use Rattle.listed_actions.specs.declared.columns.EntryColumns.{EntryColumns}

-- the action of an entry
abbrev pub entry_action : Entry → Action
entry_action e = view_action e.action

-- the actions of the entries that count
abbrev pub listed_actions : List Entry → ℕ → List Action
listed_actions entries count = map entry_action (take count entries)

-- the part number of the cluster that an entry's action is about
abbrev pub entry_part : Entry → ℕ
entry_part e = e.action.cluster.part

-- the transfer id of the package that an entry is of
abbrev pub entry_id : Entry → ℕ
entry_id e = e.id

-- the first count places of the columns are those of the entries
pub record EntryColumnsOf (columns : EntryColumns) (entries : List Entry) (count : ℕ) : Type 0 where
  pub ids : take count columns.ids ≡ map entry_id entries
  pub parts : take count columns.parts ≡ map entry_part entries

-- a number is one of a column
unfoldable pub is_among : ℕ → List ℕ → Bool
is_among number [] = false
is_among number (n ∷ rest) = eqb number n || is_among number rest
