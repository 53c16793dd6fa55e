-- "Reading calls": what Packages, ClusterInfo, ChangeInfo, Payload with `payload_check`, and Progress answer, and what the first
-- three leave in the lent buffer, with each of their refusals. A report that is made up, or the same each time, does not hold, nor one
-- that rounds up, wants more room than it writes, or lists in another order. Assumes nothing.
use Prim.Native.Nat.{ℕ, ◌+◌}
use mathlib.Core.Path.{◌≡◌, refl}
use mathlib.Core.Bool.{Bool, true, false}
use mathlib.Core.List.{List, [], ◌∷◌, ◌++◌, map}
use mathlib.Core.Option.{some}
use lib.ListN.{replicate}
use Rattle.base.specs.Quoted.{bytes}
use Rattle.text.specs.Version.{version}
use Rattle.clusters.specs.Cluster.{cluster}
use Rattle.actions.specs.Action.{install, update, remove}
use Rattle.model.specs.State.{transferring, transferred, being_processed, processed, verifying_rolls_back, activated_rolls_back, ready_cleans_up, activated_cleans_up, rolled_back_cleans_up, ready, processing, activating, verifying, activated, rolling_back, rolled_back, cleaning_up, state}
use Rattle.model.specs.Reading.{ReadingReply, refused_by, short_buffer, given, reply_number, Report, packages_report, cluster_info_report, change_info_report, PackageRecord, payload_reply, payload, payload_check, progress}
use Rattle.model.proofs.examples.Open.{computing}
use Rattle.model.proofs.examples.Transcript.{line, written_text, package_text, package_of, transfers, session, entry, kept, Start, start, loaded_from}
use Rattle.model.proofs.examples.Samples.{cluster20, cluster30, updated20, update_text, remove_text, ill_formed_text, long_text, short_text, both_text, idle_with, idle_holding, ready_with, each_start, unsound, unsound_idle, session_in}

-- ---- what is asked and what is given

-- the first three with room for so many records or bytes
pub data Question : Type 0 where
  packages cluster_info change_info : ℕ → Question
  payload_of : ℕ → Question
  progress_now : Question

-- records or bytes, with the reply; Payload's bytes with its reply and the number of `payload_check`; a reply alone
pub data Given : Type 0 where
  records : ReadingReply → List PackageRecord → Given
  text : ReadingReply → List ℕ → Given
  part : ReadingReply → ℕ → List ℕ → Given
  number : ReadingReply → Given

abbrev row : ℕ → ℕ → ℕ → ℕ → PackageRecord
row id size received package_state = record { id = id; size = size; received = received; state = package_state }

-- what each lent record and byte holds before
abbrev lent_row : PackageRecord
lent_row = row 7 7 7 7

abbrev lent : ℕ → List ℕ
lent room = replicate room 255

abbrev records_of : Report PackageRecord → Given
records_of r = records r.reply r.buffer

abbrev text_of : Report ℕ → Given
text_of r = text r.reply r.buffer

abbrev asked : Start → Question → Given
asked at (packages room) = records_of (packages_report at.state at.store (replicate room lent_row))
asked at (cluster_info room) = text_of (cluster_info_report at.state at.store (lent room))
asked at (change_info room) = text_of (change_info_report at.state at.store (lent room))
asked at (payload_of id) = part (payload_reply at.state at.store id) (payload_check at.state at.store id) (payload at.state at.store id)
asked at progress_now = number (progress at.state at.store)

-- a question with what is given
pub record Reading : Type 0 where
  pub question : Question
  pub answer : Given

infix 70 ◌is◌
abbrev ◌is◌ : Question → Given → Reading
question is answer = record { question = question; answer = answer }

-- questions in a state with a store
pub record ReadingCase : Type 0 where
  pub at : Start
  pub readings : List Reading

infix 70 from◌reads◌
abbrev from◌reads◌ : Start → List Reading → ReadingCase
from at reads readings = record { at = at; readings = readings }

-- ---- Packages

abbrev five_rows : List PackageRecord
five_rows = row 1 4 2 0 ∷ row 2 2 2 1 ∷ row 3 3 3 2 ∷ row 4 1 1 3 ∷ row 5 2 2 0 ∷ []

abbrev of_packages : List ReadingCase
of_packages =
    -- "records (id, size, received, state) in id order": exact room, and records behind; one less
    from each_start
    reads
    (packages 5 is records (given 5) five_rows
    ∷ packages 7 is records (given 5) (five_rows ++ lent_row ∷ lent_row ∷ [])
    ∷ packages 4 is records (short_buffer 5) (replicate 4 lent_row)
    ∷ packages 0 is records (short_buffer 5) []
    ∷ [])
    -- no package
    ∷ from idle_with [] 1 0 reads (packages 0 is records (given 0) [] ∷ packages 1 is records (given 0) (lent_row ∷ []) ∷ [])
    ∷ []

-- ---- ClusterInfo

-- the tables of the session of two packages: the beginning one and the staged one
abbrev beginning_text : List ℕ
beginning_text = written_text "20,1.0.4.0,,,0"

abbrev staged_text : List ℕ
staged_text = written_text "20,1.0.5.0,,,0" ++ line "30,1.0.0.0,20,1.0.5.0,0"

abbrev says_beginning : List Reading
says_beginning = cluster_info 73 is text (given 49) (beginning_text ++ lent 24) ∷ []

abbrev says_staged : List Reading
says_staged = cluster_info 73 is text (given 73) staged_text ∷ []

-- what `clist` prints for document 01's example, with the name and the two marks that A.2 adds
abbrev printed_text : List ℕ
printed_text = written_text "11,1.0.0.3,20,1.0.0.0,0" ++ line "20,1.0.4.0,,,0"

-- a list with marks
abbrev marked_text : List ℕ
marked_text = written_text "20,1.0.4.0,,,1" ++ line "21,1.0.0.0,20,1.0.0.0,0" ++ line ",,20,1.0.4.0,"

abbrev of_cluster_info : List ReadingCase
of_cluster_info =
    -- exact room, and bytes behind; one less
    from loaded_from (line "version,cluster,least,needs" ++ (line "1.0.0.3,11,1.0.0.0,20" ++ line "1.0.4.0,20,,")) 1 9
    reads
    (cluster_info 73 is text (given 73) printed_text
    ∷ cluster_info 75 is text (given 73) (printed_text ++ lent 2)
    ∷ cluster_info 72 is text (short_buffer 73) (lent 72)
    ∷ cluster_info 0 is text (short_buffer 73) []
    ∷ [])
    -- a mark 1, a mark 0, and a need line that leaves it empty
    ∷ from loaded_from marked_text 1 9 reads (cluster_info 87 is text (given 87) marked_text ∷ [])
    -- "ClusterInfo writes the running table as text", in each manager's state
    ∷ from idle_with [] 1 0 reads says_beginning
    ∷ from each_start reads says_beginning
    ∷ from session_in ready reads says_beginning
    ∷ from session_in activating reads says_beginning
    ∷ from session_in verifying reads says_staged
    ∷ from session_in activated reads says_staged
    ∷ from session_in (rolling_back verifying_rolls_back) reads says_staged
    ∷ from session_in (rolling_back activated_rolls_back) reads says_staged
    ∷ from session_in rolled_back reads says_beginning
    ∷ from session_in (cleaning_up ready_cleans_up) reads says_beginning
    ∷ from session_in (cleaning_up activated_cleans_up) reads says_staged
    ∷ from session_in (cleaning_up rolled_back_cleans_up) reads says_beginning
    ∷ []

-- ---- ChangeInfo

abbrev changes_text : List ℕ
changes_text = line "cluster,change" ++ line "40,Removed" ++ line "30,Added" ++ line "20,Updated"

abbrev of_change_info : List ReadingCase
of_change_info =
    -- "names `cluster`, `change` with Added, Updated or Removed": exact room, and bytes behind; one less
    from ready_with (cluster20 ∷ cluster 40 (version 1 0 0 0) [] ∷ []) (remove 40 ∷ install cluster30 ∷ update updated20 ∷ []) []
    reads
    (change_info 46 is text (given 46) changes_text
    ∷ change_info 47 is text (given 46) (changes_text ++ lent 1)
    ∷ change_info 45 is text (short_buffer 46) (lent 45)
    ∷ [])
    -- "the session's list in order", which is not that of the ids
    ∷ from session_in verifying
    reads
    (change_info 35 is text (given 35) (line "cluster,change" ++ line "30,Added" ++ line "20,Updated")
    ∷ [])
    -- not the package that is processing
    ∷ from each_start reads (change_info 26 is text (given 26) (line "cluster,change" ++ line "20,Removed") ∷ [])
    -- "with a names line always"
    ∷ from idle_with [] 1 0
    reads
    (change_info 15 is text (given 15) (line "cluster,change") ∷ change_info 14 is text (short_buffer 15) (lent 14) ∷ [])
    ∷ []

-- ---- Payload

-- a package Processed and another Processing, with payloads `abc` and `xy`
abbrev other_text : List ℕ
other_text = package_text "install,30,1.0.0.0,2,0,," "xy"

abbrev processing_other : Start
processing_other =
    start
    (state
    processing
    (transfers (package_of 1 79 79 1 processed ∷ package_of 2 75 75 1 being_processed ∷ []) 3)
    (session (cluster20 ∷ []) (entry 1 (update updated20) ∷ []))
    (some (kept (install cluster30) 73 2 0 0 0 0 false)))
    (update_text ++ other_text)

-- a payload that is longer than the text before it
abbrev hundred_text : List ℕ
hundred_text = package_text "install,30,1.0.0.0,100,0,," "" ++ replicate 100 7

-- refused by a number, and empty
abbrev refused_part : ℕ → Given
refused_part n = part (refused_by n) n []

abbrev of_payload : List ReadingCase
of_payload =
    -- "the payload's part of the store itself"; no byte, and not refused; 9, 10 for each reason, 9 and 10; 4
    from idle_holding transferred (update_text ∷ remove_text ∷ ill_formed_text ∷ long_text ∷ short_text ∷ both_text ∷ [])
    reads
    (payload_of 1 is part (given 3) 0 (bytes "abc")
    ∷ payload_of 2 is part (given 0) 0 []
    ∷ payload_of 3 is refused_part 9
    ∷ payload_of 4 is refused_part 10
    ∷ payload_of 5 is refused_part 10
    ∷ payload_of 6 is refused_part 9
    ∷ payload_of 7 is refused_part 4
    ∷ payload_of 0 is refused_part 4
    ∷ [])
    ∷ from idle_holding transferred (hundred_text ∷ update_text ∷ []) reads (payload_of 1 is part (given 100) 0 (replicate 100 7) ∷ [])
    -- "Payload on Transferring": 5; 5 and 9; 5 and 10
    ∷ from idle_holding transferring (update_text ∷ ill_formed_text ∷ long_text ∷ [])
    reads
    (payload_of 1 is refused_part 5
    ∷ payload_of 2 is refused_part 5
    ∷ payload_of 3 is refused_part 5
    ∷ [])
    -- past Transferred
    ∷ from processing_other reads (payload_of 1 is part (given 3) 0 (bytes "abc") ∷ payload_of 2 is part (given 2) 0 (bytes "xy") ∷ [])
    ∷ []

-- ---- Progress

-- Processing, with as many bytes done of as many
abbrev done_of : ℕ → ℕ → Bool → Start
done_of bytes_done count noted =
    start
    (state
    processing
    (transfers (package_of 1 (count + 1) (count + 1) 1 being_processed ∷ []) 2)
    (session (cluster20 ∷ []) [])
    (some (kept (install cluster30) 1 count 0 0 0 bytes_done noted)))
    (replicate (count + 1) 0)

abbrev progress_is : ℕ → List Reading
progress_is n = progress_now is number (given n) ∷ []

abbrev of_progress : List ReadingCase
of_progress =
    -- "floor(100 × done / payload)"
    from done_of 0 3 false reads progress_is 0
    ∷ from done_of 1 3 false reads progress_is 33
    ∷ from done_of 2 3 false reads progress_is 66
    ∷ from done_of 3 3 false reads progress_is 100
    ∷ from done_of 1 100 false reads progress_is 1
    ∷ from done_of 99 100 false reads progress_is 99
    ∷ from done_of 1 101 false reads progress_is 0
    ∷ from done_of 100 101 false reads progress_is 99
    -- "100 for payload 0"
    ∷ from done_of 0 0 false reads progress_is 100
    -- a noted cancel plays no part
    ∷ from done_of 2 3 true reads progress_is 66
    -- "0 outside Processing"
    ∷ from idle_with [] 1 0 reads progress_is 0
    ∷ from session_in ready reads progress_is 0
    ∷ from session_in verifying reads progress_is 0
    ∷ []

-- ---- a state that is not sound

-- 1, before 19 and before 4; nothing is written
abbrev refused_by1 : List Reading
refused_by1 =
    packages 1 is records (refused_by 1) (lent_row ∷ [])
    ∷ packages 0 is records (refused_by 1) []
    ∷ cluster_info 1 is text (refused_by 1) (lent 1)
    ∷ cluster_info 99 is text (refused_by 1) (lent 99)
    ∷ change_info 1 is text (refused_by 1) (lent 1)
    ∷ change_info 99 is text (refused_by 1) (lent 99)
    ∷ payload_of 1 is refused_part 1
    ∷ payload_of 9 is refused_part 1
    ∷ progress_now is number (refused_by 1)
    ∷ []

abbrev of_unsound : List ReadingCase
of_unsound = from unsound reads refused_by1 ∷ from unsound_idle reads refused_by1 ∷ []

-- ---- the table

abbrev table : List ReadingCase
table = of_packages ++ of_cluster_info ++ of_change_info ++ of_payload ++ of_progress ++ of_unsound

abbrev answered : ReadingCase → ReadingCase
answered c = from c.at reads map (λ r. r.question is asked c.at r.question) c.readings

pub reports : map answered table ≡ table
unfolding computing
reports = refl

-- "a refusal is the number alone (19 adds a length)"
pub numbers : map reply_number (refused_by 1 ∷ refused_by 4 ∷ short_buffer 5 ∷ given 6 ∷ []) ≡ 1 ∷ 4 ∷ 19 ∷ 0 ∷ []
numbers = refl
