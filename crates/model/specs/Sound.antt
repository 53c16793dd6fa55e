-- "Sound": the parts of soundness, each by its words in document 01.
use Rattle.std.specs.Prelude.{ℕ, ◌+◌, Bool, true, false, not, cond, ◌&&◌, ◌||◌, List, [], ◌∷◌, eqb, leb, ltb, length}
use Rattle.std.specs.Bool.{beq}
use Rattle.std.proofs.Math.Option.{Option, none, some}
use Rattle.base.specs.Refusals.{Refusal, refuse◌when◌}
use Rattle.checksum.specs.Sum.{sums_within}
use Rattle.clusters.specs.Table.{table_within}
use Rattle.actions.specs.Action.{action_within, actions_within}
use Rattle.actions.specs.Refusals.{passes, pass_in_turn}
use Rattle.package_heading.specs.Heading.{sum_most}
use Rattle.model.specs.State.{Package, Phase, is_idle, is_processing, Transfers, Entry, Session, Work, State, Store, actions}
use Rattle.model.specs.Areas.{declared, package_of, is_transferring, is_being_processed, is_processed, count_in, processing_id}
use Rattle.model.specs.Tables.{staged}

-- "a lent store of at most 16,777,216 bytes"
abbrev pub store_most : ℕ
store_most = 16777216

-- "At most 16 packages."
abbrev pub packages_most : ℕ
packages_most = 16

-- the last transfer id; the next id above it says that all are spent
abbrev pub id_most : ℕ
id_most = 4294967295

-- "that of the store handed in too"; "areas fit the store"
unfoldable pub store_sound : List Package → ℕ → Bool
store_sound packages store_length = leb store_length store_most && leb (declared packages) store_length

-- "received is at most the size, and equal to it past Transferring"
unfoldable pub received_sound : Package → Bool
received_sound p = cond (is_transferring p.state) (leb p.received p.size) (eqb p.received p.size)

-- "ids and sizes are at least 1"; "accepted blocks are at most the bytes received"
unfoldable pub package_sound : Package → Bool
package_sound p = leb 1 p.id && (leb 1 p.size && (received_sound p && leb p.blocks p.received))

-- "ids rise and are below the next id": those of the list, from above `last`. Each package is checked by `package_sound` on the way
unfoldable pub packages_rise : ℕ → ℕ → List Package → Bool
packages_rise last next [] = true
packages_rise last next (p ∷ ps) = ltb last p.id && (ltb p.id next && (package_sound p && packages_rise p.id next ps))

-- "At most 16 packages."; the next id is at least 1 and at most one above the last; ids rise and each package is sound
unfoldable pub transfers_sound : Transfers → Bool
transfers_sound t =
    leb (length t.packages) packages_most
    && (leb 1 t.next && (leb t.next (id_most + 1) && packages_rise 0 t.next t.packages))

-- some entry of the session's list has the id
unfoldable pub is_listed : ℕ → List Entry → Bool
is_listed id [] = false
is_listed id (e ∷ entries) = eqb id e.id || is_listed id entries

-- a package is Processed exactly when its id is listed
unfoldable pub processed_as_listed : List Entry → List Package → Bool
processed_as_listed entries [] = true
processed_as_listed entries (p ∷ ps) = beq (is_processed p.state) (is_listed p.id entries) && processed_as_listed entries ps

-- "the listed actions are those of exactly the Processed packages": as many entries as Processed packages, whose ids differ
unfoldable pub list_sound : List Entry → List Package → Bool
list_sound entries packages = eqb (length entries) (count_in is_processed packages) && processed_as_listed entries packages

-- "and pass 11 to 15 in turn", A.2: 21 "beside 11 to 15", within "every limit above"
unfoldable pub session_sound : Session → Bool
session_sound session =
    table_within session.beginning
    && (actions_within (actions session.listed) && pass_in_turn session.beginning [] (actions session.listed))

-- "c0 and c1 are at most 254; in Processing the kept payload start plus count is that package's size"; "with an action that
-- passes them and done bytes at most its payload", 21 among them since A.2
unfoldable pub work_sound : Session → List Package → Work → Bool
work_sound session packages w =
    action_within w.action
    && (passes (staged session) (actions session.listed) w.action
    && (eqb (w.start + w.count) (package_of (processing_id packages) packages).size
    && (leb w.done w.count && (leb w.sum sum_most && sums_within w.running_sums))))

-- "in Processing" there are kept values; "outside it the kept values and the cancel note are cleared"
unfoldable pub kept_sound : Phase → Session → List Package → Option Work → Bool
kept_sound phase session packages none = not (is_processing phase)
kept_sound phase session packages (some w) = is_processing phase && work_sound session packages w

-- "one package is Processing .. exactly in state Processing"
unfoldable pub processing_sound : Phase → List Package → Bool
processing_sound phase packages = eqb (count_in is_being_processed packages) (cond (is_processing phase) 1 0)

-- "the list is empty in Idle, may be empty in Processing, else isn't"
unfoldable pub list_fits : Phase → List Entry → Bool
list_fits phase [] = is_idle phase || is_processing phase
list_fits phase (e ∷ entries) = not (is_idle phase)

-- "Sound: every limit above holds, that of the store handed in too; ..": all the parts above, joined, for a store of a length
unfoldable pub sound_for : State → ℕ → Bool
sound_for s store_length =
    store_sound s.transfers.packages store_length
    && (transfers_sound s.transfers
    && (session_sound s.session
    && (list_sound s.session.listed s.transfers.packages
    && (kept_sound s.phase s.session s.transfers.packages s.work
    && (processing_sound s.phase s.transfers.packages && list_fits s.phase s.session.listed)))))

-- "The store's bytes play no part in it."
abbrev pub sound : State → Store → Bool
sound s store = sound_for s (length store)

-- "1. BadState: any call but Load; the state isn't sound"
abbrev pub bad_state : State → Store → Refusal
bad_state s store = refuse 1 when not (sound s store)
