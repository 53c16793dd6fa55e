-- "Reading calls": what they answer and what they leave in a lent buffer. None changes state or store.
use Rattle.std.specs.Prelude.{ℕ, ◌*◌, ◌/◌, ◌≡◌, false, cond, List, [], ◌∷◌, ◌++◌, map, eqb, ltb, length, take, drop}
use Rattle.std.proofs.Math.Option.{Option, none, some}
use Rattle.base.specs.Quoted.{bytes}
use Rattle.base.specs.Refusals.{Refusal, refuse◌when◌, first_refusal}
use Rattle.text.specs.Digits.{digits}
use Rattle.rows.specs.Line.{line_text}
use Rattle.actions.specs.Action.{Action, install, update, remove, action_part}
use Rattle.cluster_list.specs.Write.{write_list}
use Rattle.manifest.specs.Package.{Manifest, consistent, read_package}
use Rattle.manifest.specs.Refused.{package_refusals}
use Rattle.model.specs.State.{package_state_number, Package, Work, State, Store, actions}
use Rattle.model.specs.Areas.{find, area_of, is_transferring}
use Rattle.model.specs.Tables.{running}
use Rattle.model.specs.Sound.{bad_state}
use Rattle.model.specs.Step.{unknown, area_read, named, manifest_of}

-- ---- the reply of a reading call

-- "a refusal is the number alone (19 adds a length)"; else the number that the call gives: of records or bytes, or the progress
pub data ReadingReply : Type 0 where
  refused_by : ℕ → ReadingReply
  short_buffer : ℕ → ReadingReply
  given : ℕ → ReadingReply

-- "the refusal number, or 0"
abbrev pub reply_number : ReadingReply → ℕ
reply_number (refused_by number) = number
reply_number (short_buffer needed) = 19
reply_number (given count) = 0

-- the reply by the first refusal that applies. 19 "gives the length needed", which is the number of records or bytes to be written
abbrev pub reading_reply : Option ℕ → ℕ → ReadingReply
reading_reply none count = given count
reading_reply (some number) count = cond (eqb number 19) (short_buffer count) (refused_by number)

-- ---- reports into a lent buffer: Packages, ClusterInfo and ChangeInfo

-- the refusals after refusal 1: "19. ShortBuffer: a report buffer too short; gives the length needed."
unfoldable pub further_report_refusals : ℕ → ℕ → List Refusal
further_report_refusals needed room = (refuse 19 when ltb room needed) ∷ []

unfoldable pub report_refusals : State → Store → ℕ → ℕ → List Refusal
report_refusals s store needed room = bad_state s store ∷ further_report_refusals needed room

-- "These three answer the number of records or bytes written."
unfoldable pub report_reply : State → Store → ℕ → ℕ → ReadingReply
report_reply s store needed room = reading_reply (first_refusal (report_refusals s store needed room)) needed

-- "Records or bytes behind what was written keep their values." A refusal writes nothing
unfoldable pub report_buffer : {A : Type 0} → ReadingReply → List A → List A → List A
report_buffer (refused_by number) content old = old
report_buffer (short_buffer needed) content old = old
report_buffer (given count) content old = content ++ drop count old

-- a report: its reply, and what the lent buffer holds then
pub record Report (A : Type 0) : Type 0 where
  pub reply : ReadingReply
  pub buffer : List A

-- the report of a content into a lent buffer: the length is the content's
unfoldable pub report_of : {A : Type 0} → State → Store → List A → List A → Report A
report_of s store content old =
    record {
      reply = report_reply s store (length content) (length old);
      buffer = report_buffer (report_reply s store (length content) (length old)) content old;
    }

-- ---- Packages

-- "records (id, size, received, state)"
pub record PackageRecord : Type 0 where
  pub id : ℕ
  pub size : ℕ
  pub received : ℕ
  pub state : ℕ

abbrev pub package_record : Package → PackageRecord
package_record p = record { id = p.id; size = p.size; received = p.received; state = package_state_number p.state }

-- "in id order"
unfoldable pub package_records : State → List PackageRecord
package_records s = map package_record s.transfers.packages

unfoldable pub packages_report : State → Store → List PackageRecord → Report PackageRecord
packages_report s store old = report_of s store (package_records s) old

-- ---- ClusterInfo and ChangeInfo

-- "ClusterInfo writes the running table as text"
unfoldable pub cluster_info : State → List ℕ
cluster_info s = write_list (running s)

unfoldable pub cluster_info_report : State → Store → List ℕ → Report ℕ
cluster_info_report s store old = report_of s store (cluster_info s) old

-- "Added, Updated or Removed"
abbrev pub change_word : Action → List ℕ
change_word (install c) = bytes "Added"
change_word (update c) = bytes "Updated"
change_word (remove part) = bytes "Removed"

unfoldable pub change_lines : List Action → List ℕ
change_lines [] = []
change_lines (a ∷ rest) = line_text (digits (action_part a) ∷ change_word a ∷ []) ++ change_lines rest

-- "ChangeInfo the session's list in order as names `cluster`, `change`"; "with a names line always"
unfoldable pub change_info : State → List ℕ
change_info s = line_text (bytes "cluster" ∷ bytes "change" ∷ []) ++ change_lines (actions s.session.listed)

-- the bytes of the longest ChangeInfo: the names line, and 16 lines of a part number of ten digits and `Updated` or `Removed`
abbrev pub change_info_most : ℕ
change_info_most = 319

unfoldable pub change_info_report : State → Store → List ℕ → Report ℕ
change_info_report s store old = report_of s store (change_info s) old

-- ---- Payload

-- the refusals after refusal 1: 4; 5 "Payload on Transferring"; 9; 10
unfoldable pub further_payload_refusals : State → Store → ℕ → List Refusal
further_payload_refusals s store id =
    (refuse 4 when unknown id s.transfers.packages)
    ∷ (refuse 5 when is_transferring (named s store id).state)
    ∷ package_refusals (area_read s store id)

unfoldable pub payload_refusals : State → Store → ℕ → List Refusal
payload_refusals s store id = bad_state s store ∷ further_payload_refusals s store id

-- "the payload's part of the store": of the area of the package
unfoldable pub payload_part : State → Store → ℕ → List ℕ
payload_part s store id =
    let m = manifest_of (area_read s store id) in
    take m.count (drop m.start (area_of id s.transfers.packages store))

abbrev pub empty_when_refused : ReadingReply → List ℕ → List ℕ
empty_when_refused (refused_by number) part = []
empty_when_refused (short_buffer needed) part = []
empty_when_refused (given count) part = part

-- it gives the number of the payload's bytes
unfoldable pub payload_reply : State → Store → ℕ → ReadingReply
payload_reply s store id = reading_reply (first_refusal (payload_refusals s store id)) (length (payload_part s store id))

-- "Payload(id) returns the payload's part of the store itself, empty when refused"
unfoldable pub payload : State → Store → ℕ → List ℕ
payload s store id = empty_when_refused (payload_reply s store id) (payload_part s store id)

-- "a call beside it with the same checks gives the refusal number, or 0"
unfoldable pub payload_check : State → Store → ℕ → ℕ
payload_check s store id = reply_number (payload_reply s store id)

-- what Payload demands and nothing else: 4, a package has the id; 5, it is not Transferring; 9 and 10, its area reads as a package with
-- exactly its payload
pub record PayloadGiven (s : State) (store : Store) (id : ℕ) : Type 0 where
  pub named : Package
  pub found : find id s.transfers.packages ≡ some named
  pub received : is_transferring named.state ≡ false
  pub manifest : Manifest
  pub read : read_package (area_of id s.transfers.packages store) ≡ consistent manifest

-- ---- Progress

-- "floor(100 × done / payload), 100 for payload 0, and 0 outside Processing"
unfoldable pub progress_of : Option Work → ℕ
progress_of none = 0
progress_of (some w) = cond (eqb w.count 0) 100 (100 * w.done / w.count)

-- refused by 1 alone
unfoldable pub progress_refusals : State → Store → List Refusal
progress_refusals s store = bad_state s store ∷ []

unfoldable pub progress : State → Store → ReadingReply
progress s store = reading_reply (first_refusal (progress_refusals s store)) (progress_of s.work)
