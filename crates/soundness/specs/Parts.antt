-- What the parts of the check are handed and give: the session's list as an array with a count, counts of packages, and the kept numbers.
use Rattle.std.specs.Prelude.{ℕ, ◌+◌, ◌≤◌, ◌≡◌, Bool, true, cond, ◌&&◌, List, [], ◌∷◌, ◌++◌, map, eqb, leb, length, take}
use Rattle.std.proofs.Math.Option.{Option}
use Rattle.base.specs.Counted.{counted}
use Rattle.checksum.specs.Sum.{sums_within}
use Rattle.clusters.specs.declared.table.Table.{Table}
use Rattle.clusters.specs.Table.{Table as PlainTable}
use Rattle.clusters.specs.View.{view_table}
use Rattle.actions.specs.declared.action.Action.{Action as ActionStruct}
use Rattle.actions.specs.Action.{Action, actions_within}
use Rattle.actions.specs.Refusals.{pass_in_turn}
use Rattle.actions.specs.View.{view_action}
use Rattle.package_heading.specs.Heading.{sum_most}
use Rattle.model.specs.State as model
use Rattle.model.specs.Areas.{is_being_processed, is_processed, count_in, package_of, processing_id}
use Rattle.model.specs.Sound.{packages_most, packages_rise, session_sound, kept_sound, processed_as_listed, list_sound, processing_sound, list_fits}
use Rattle.state.specs.declared.transfers.Transfers.{Transfers}
use Rattle.state.specs.declared.phase.Phase.{Phase}
use Rattle.state.specs.declared.session.Entry.{Entry}
use Rattle.state.specs.declared.work.Work.{Work}
use Rattle.state.specs.View.{view_packages, view_phase, entries_most, cleared_entry, view_entry, is_cleared_work}
use Rattle.listed_actions.specs.Listed.{listed_actions}
use Rattle.soundness.specs.declared.counts.Counts.{Counts}

-- how many packages are Processed, and how many Processing
abbrev pub counts_of : List model.Package → Counts
counts_of ps = record { processed = count_in is_processed ps; processing = count_in is_being_processed ps }

-- the entries that count; `view_entries` of a session is this of its array
abbrev pub counted_entries : List Entry → ℕ → List model.Entry
counted_entries entries count = map view_entry (counted entries_most cleared_entry count entries)

-- the transfer id of the package that an entry is of
abbrev pub plain_id : model.Entry → ℕ
plain_id e = e.id

-- the session of a table and those entries; `view_session` is this of its parts
abbrev pub counted_session : Table → List Entry → ℕ → model.Session
counted_session beginning entries count = record { beginning = view_table beginning; listed = counted_entries entries count }

-- "c0 and c1 are at most 254; in Processing the kept payload start plus count is that package's size"; "done bytes at most its
-- payload": what soundness of the kept values asks of their numbers
abbrev pub work_numbers_sound : Work → ℕ → Bool
work_numbers_sound w size =
    eqb (w.start + w.count) size && (leb w.done w.count && (leb w.sum sum_most && sums_within w.running_sums))

-- ---- the kept values behind the list, by whether the manager's state is Processing

-- the kept values but for their action: "in Processing" their numbers, and outside it all of them "are cleared"
abbrev pub kept_values_sound : Bool → List model.Package → Work → Bool
kept_values_sound processing packages w =
    cond processing (work_numbers_sound w (package_of (processing_id packages) packages).size) (is_cleared_work w)

-- how many actions are checked in turn: the listed ones, and in Processing the kept one behind them
abbrev pub listed_with_kept : Bool → ℕ → ℕ
listed_with_kept processing count = count + cond processing 1 0

-- those actions
abbrev pub actions_with_kept : Bool → List Entry → ℕ → ActionStruct → List Action
actions_with_kept processing entries count action =
    cond processing (listed_actions entries count ++ view_action action ∷ []) (listed_actions entries count)

-- ---- what each part of the check answers

-- the listed entries, the manager's state and the packages go together
abbrev pub list_part_sound : model.Phase → List model.Package → List model.Entry → Bool
list_part_sound phase packages listed = list_sound listed packages && (processing_sound phase packages && list_fits phase listed)

-- the session and the kept values behind it
abbrev pub session_part_sound : model.Phase → model.Session → List model.Package → Option model.Work → Bool
session_part_sound phase session packages w = session_sound session && kept_sound phase session packages w

-- actions on a table that is within its limits, sound as a session's are
abbrev pub actions_sound_on : PlainTable → List Action → Bool
actions_sound_on table acts = actions_within acts && pass_in_turn table [] acts

-- the answer r says whether the manager's state goes with so many packages that are Processing and with a list of so many entries
abbrev pub PhaseFits : Phase → ℕ → ℕ → Bool → Type 0
PhaseFits phase processing count r =
    (listed : List model.Entry) → length listed ≡ count
    → r ≡ eqb processing (cond (model.is_processing (view_phase phase)) 1 0) && list_fits (view_phase phase) listed

-- the answer r says whether exactly the Processed packages are those of the entries whose ids come first in an array
abbrev pub ProcessedAsListed : Transfers → List ℕ → ℕ → Bool → Type 0
ProcessedAsListed t ids count r =
    (entries : List model.Entry) → take count ids ≡ map plain_id entries → r ≡ processed_as_listed entries (view_packages t)

-- what the check of the session and the kept values requires: "At most 16 packages.", each sound by itself, with ids that rise, and room in the
-- list for the entries, and in Processing for one more
abbrev pub KeptCheckable : Phase → Transfers → ℕ → Type 0
KeptCheckable phase t count =
    (t.count ≤ packages_most) × (packages_rise 0 t.next (view_packages t) ≡ true)
    × (listed_with_kept (model.is_processing (view_phase phase)) count ≤ entries_most)
