-- What the waves give after refusal 1.
use Rattle.std.specs.Prelude.{List, ℕ, length}
use Rattle.clusters.specs.Table.{Table}
use Rattle.model.specs.Reading.{Report}
use Rattle.reading_reply.specs.Reply.{reply_on_sound}
use Rattle.start_waves.specs.WavesReport.{entries_in, waves_with}

-- the report of a table's waves into a lent buffer; `waves_report` is this of the running table of a sound state
unfoldable pub waves_on_sound : Table → List ℕ → Report ℕ
waves_on_sound t old = waves_with (reply_on_sound (length t) (entries_in (length old))) t old
