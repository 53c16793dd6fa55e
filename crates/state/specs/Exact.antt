-- The structs that the functions give, unused places included. proofs/Views.antt has what they stand for.
use Rattle.std.specs.Prelude.{ℕ, ◌+◌, false, replicate}
use Rattle.checksum.specs.Sum.{start_sums}
use Rattle.clusters.specs.declared.table.Table.{Table}
use Rattle.clusters.specs.Exact.{put_at}
use Rattle.model.specs.Sound.{packages_most}
use Rattle.state.specs.declared.package.PackageState.{PackageState}
use Rattle.state.specs.declared.package.PackageState.TheVariants.{Transferring}
use Rattle.state.specs.declared.package.Package.{Package}
use Rattle.state.specs.declared.transfers.Transfers.{Transfers}
use Rattle.state.specs.declared.phase.Phase.{Phase}
use Rattle.state.specs.declared.phase.Phase.TheVariants.{Idle}
use Rattle.state.specs.declared.session.Entry.{Entry}
use Rattle.state.specs.declared.session.Session.{Session}
use Rattle.state.specs.declared.work.Work.{Work}
use Rattle.state.specs.declared.state.State.{State}
use Rattle.actions.specs.Struct.{cleared_action}
use Rattle.state.specs.View.{cleared_package, entries_most, cleared_entry}

-- ---- packages

-- a package of a size, started with an id: nothing received
abbrev pub new_package : ℕ → ℕ → Package
new_package id size = record { id = id; size = size; received = 0; blocks = 0; state = Transferring }

abbrev pub in_state : PackageState → Package → Package
in_state state p = record { id = p.id; size = p.size; received = p.received; blocks = p.blocks; state = state }

-- a package after an accepted block of a length
abbrev pub with_block : ℕ → Package → Package
with_block n p = record { id = p.id; size = p.size; received = p.received + n; blocks = p.blocks + 1; state = p.state }

-- ---- transfers

-- no packages, with the first id to be given
abbrev pub no_transfers : ℕ → Transfers
no_transfers first = record { packages = replicate packages_most cleared_package; count = 0; next = first }

-- another package in the place of the one at i
abbrev pub with_package : ℕ → Package → Transfers → Transfers
with_package i p t = record { packages = put_at i p t.packages; count = t.count; next = t.next }

-- a package of a size behind the others, with the next id, which then rises by one
abbrev pub with_new_package : ℕ → Transfers → Transfers
with_new_package size t =
    record { packages = put_at t.count (new_package t.next size) t.packages; count = t.count + 1; next = t.next + 1 }

-- ---- sessions

-- a session with an empty list
abbrev pub new_session : Table → Session
new_session table = record { beginning = table; entries = replicate entries_most cleared_entry; count = 0 }

-- a session with one entry more, behind the others
abbrev pub with_entry : Session → Entry → Session
with_entry session entry =
    record { beginning = session.beginning; entries = put_at session.count entry session.entries; count = session.count + 1 }

-- ---- the kept values

-- "cleared to 0"
abbrev pub cleared_work : Work
cleared_work =
    record { action = cleared_action; start = 0; count = 0; sum = 0; running_sums = start_sums; done = 0; cancel_noted = false }

-- ---- the whole

abbrev pub state : Phase → Transfers → Session → Work → State
state phase transfers session work = record { phase = phase; transfers = transfers; session = session; work = work }

-- the state that Load gives: Idle, with no package, a table and the first id to be given
abbrev pub loaded_state : Table → ℕ → State
loaded_state table first = state Idle (no_transfers first) (new_session table) cleared_work

abbrev pub in_phase : Phase → State → State
in_phase phase s = state phase s.transfers s.session s.work

abbrev pub with_transfers : Transfers → State → State
with_transfers transfers s = state s.phase transfers s.session s.work

abbrev pub with_work : Work → State → State
with_work work s = state s.phase s.transfers s.session work
