-- A.3: "The list goes into a lent buffer of part numbers with wave numbers from 1." The reading call over the running table.
use Rattle.std.specs.Prelude.{ℕ, ◌/◌, List, [], ◌∷◌, ◌++◌, length, drop}
use Rattle.clusters.specs.Table.{Table}
use Rattle.model.specs.State.{State, Store}
use Rattle.model.specs.Tables.{running}
use Rattle.model.specs.Reading.{ReadingReply, refused_by, short_buffer, given, Report, report_reply}
use Rattle.start_waves.specs.StartOrder.{WaveEntry, start_waves}

-- an entry is two numbers, the part number and then the wave's
unfoldable pub numbers_of : List WaveEntry → List ℕ
numbers_of [] = []
numbers_of (e ∷ entries) = e.part ∷ e.wave ∷ numbers_of entries

-- how many entries a lent buffer of so many numbers has
abbrev pub entries_in : ℕ → ℕ
entries_in numbers = numbers / 2

-- "entries behind keep their values"; a refusal writes nothing
unfoldable pub waves_buffer : ReadingReply → List ℕ → List ℕ → List ℕ
waves_buffer (refused_by number) content old = old
waves_buffer (short_buffer needed) content old = old
waves_buffer (given count) content old = content ++ drop (length content) old

-- 1; 19. "The answer is the number of clusters"; "A short buffer is 19, with that number as the length."
unfoldable pub waves_reply : State → Store → List ℕ → ReadingReply
waves_reply s store old = report_reply s store (length (running s)) (entries_in (length old))

-- the report of a table's waves with this reply: what the lent buffer holds then
abbrev pub waves_with : ReadingReply → Table → List ℕ → Report ℕ
waves_with reply t old = record { reply = reply; buffer = waves_buffer reply (numbers_of (start_waves t)) old }

-- "Give the start waves for the running table."
unfoldable pub waves_report : State → Store → List ℕ → Report ℕ
waves_report s store old = waves_with (waves_reply s store old) (running s) old
