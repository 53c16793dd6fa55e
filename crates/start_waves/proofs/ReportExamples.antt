-- What the waves answer and leave in the lent buffer, computed: the room, each refusal, and the table of each manager's state. Assumes
-- nothing.
use Prim.Native.Nat.{ℕ}
use mathlib.Core.Path.{refl}
use mathlib.Core.List.{List, [], ◌∷◌, ◌++◌}
use lib.ListN.{replicate}
use Rattle.base.proofs.Tables.{◌gives◌, AllHold}
use Rattle.clusters.specs.Table.{Table}
use Rattle.model.specs.State.{Phase, ready, activating, verifying, activated, rolling_back, rolled_back, cleaning_up, verifying_rolls_back, activated_rolls_back, ready_cleans_up, activated_cleans_up, rolled_back_cleans_up}
use Rattle.model.specs.Load.{loaded_state}
use Rattle.model.specs.Reading.{ReadingReply, refused_by, short_buffer, given, Report}
use Rattle.model.proofs.examples.Open.{computing}
use Rattle.model.proofs.examples.Transcript.{Start}
use Rattle.model.proofs.examples.Samples.{unsound, unsound_idle, session_in}
use Rattle.reading_reply.specs.Reply.{reply_on_sound}
use Rattle.start_waves.specs.WavesReport.{entries_in, waves_buffer, waves_reply, waves_report}
use Rattle.start_waves.specs.OnSound.{waves_on_sound}
use Rattle.start_waves.proofs.Examples.{computing_waves, needing}

-- one name that opens every definition that an example here reads
unfoldable computing_reports : Unit {0}
unfolding computing computing_waves reply_on_sound waves_buffer waves_reply waves_report waves_on_sound
computing_reports = tt

-- what each lent number is before
abbrev lent : ℕ → List ℕ
lent numbers = replicate numbers 7

-- two waves of one cluster each
abbrev two : Table
two = needing 10 (20 ∷ []) ∷ needing 20 [] ∷ []

abbrev two_waves : List ℕ
two_waves = 20 ∷ 1 ∷ 10 ∷ 2 ∷ []

abbrev report : ReadingReply → List ℕ → Report ℕ
report reply buffer = record { reply = reply; buffer = buffer }

-- by how many numbers are lent: an entry short, exact, an entry more, and an odd count of numbers, of which the last is no room
abbrev room_of : (ℕ → Report ℕ) → Type 0
room_of f = AllHold f
    (0 gives report (short_buffer 2) []
    ∷ 2 gives report (short_buffer 2) (lent 2)
    ∷ 3 gives report (short_buffer 2) (lent 3)
    ∷ 4 gives report (given 2) two_waves
    ∷ 5 gives report (given 2) (two_waves ++ 7 ∷ [])
    ∷ 6 gives report (given 2) (two_waves ++ 7 ∷ 7 ∷ [])
    ∷ [])

loaded-reports : room_of (λ (numbers : ℕ). waves_report (loaded_state two 1) (lent 9) (lent numbers))
unfolding computing_reports
loaded-reports = refl

on-sound-reports : room_of (λ (numbers : ℕ). waves_on_sound two (lent numbers))
unfolding computing_reports
on-sound-reports = refl

empty-reports : AllHold (λ (numbers : ℕ). waves_report (loaded_state [] 1) [] (lent numbers)) (0 gives report (given 0) [] ∷ 1 gives report (given 0) (lent 1) ∷ 2 gives report (given 0) (lent 2) ∷ [])
unfolding computing_reports
empty-reports = refl

-- not sound: with the room, and without
unsound-reports : AllHold (λ (numbers : ℕ). waves_report (loaded_state two 0) (lent 9) (lent numbers)) (0 gives report (refused_by 1) [] ∷ 3 gives report (refused_by 1) (lent 3) ∷ 4 gives report (refused_by 1) (lent 4) ∷ [])
unfolding computing_reports
unsound-reports = refl

-- the store's length makes it unsound
abbrev of : Start → Report ℕ
of at = waves_report at.state at.store (lent 4)

unsound-store : AllHold of (unsound gives report (refused_by 1) (lent 4) ∷ unsound_idle gives report (refused_by 1) (lent 4) ∷ [])
unfolding computing_reports
unsound-store = refl

-- "for the running table": the staged one has a cluster more, in a second wave
abbrev beginning_waves : Report ℕ
beginning_waves = report (given 1) (20 ∷ 1 ∷ 7 ∷ 7 ∷ [])

abbrev staged_waves : Report ℕ
staged_waves = report (given 2) (20 ∷ 1 ∷ 30 ∷ 2 ∷ [])

running-reports : AllHold (λ (phase : Phase). of (session_in phase))
    (ready gives beginning_waves
    ∷ activating gives beginning_waves
    ∷ verifying gives staged_waves
    ∷ activated gives staged_waves
    ∷ rolling_back verifying_rolls_back gives staged_waves
    ∷ rolling_back activated_rolls_back gives staged_waves
    ∷ rolled_back gives beginning_waves
    ∷ cleaning_up ready_cleans_up gives beginning_waves
    ∷ cleaning_up activated_cleans_up gives staged_waves
    ∷ cleaning_up rolled_back_cleans_up gives beginning_waves
    ∷ [])
unfolding computing_reports
running-reports = refl

entries_in-computed : AllHold entries_in (0 gives 0 ∷ 1 gives 0 ∷ 2 gives 1 ∷ 3 gives 1 ∷ 128 gives 64 ∷ [])
entries_in-computed = refl

-- what a reply leaves of a lent buffer
buffer-computed : AllHold (λ (reply : ReadingReply). waves_buffer reply (1 ∷ 2 ∷ []) (7 ∷ 8 ∷ 9 ∷ [])) (refused_by 1 gives (7 ∷ 8 ∷ 9 ∷ []) ∷ short_buffer 1 gives (7 ∷ 8 ∷ 9 ∷ []) ∷ given 1 gives (1 ∷ 2 ∷ 9 ∷ []) ∷ [])
unfolding computing_reports
buffer-computed = refl
