-- What the program holds from line to line, and what the bytes of the input make of it.
use Rattle.std.specs.Prelude.{ℕ, ◌-◌, ◌≡◌, Bool, true, cond, List, [], eqb, length, take, get_or}
use Rattle.std.proofs.Math.Option.{Option, none, some}
use Rattle.base.specs.Quoted.{LF}
use Rattle.model.specs.State.{Store}
use Rattle.script.specs.declared.gathered.Gathered.{Gathered}
use Rattle.script.specs.Gathered.{nothing_gathered, line_so_far}
use Rattle.script.specs.Line.{script_line_at}
use Rattle.script_calls.specs.declared.kept.Kept.{Kept}
use Rattle.script_calls.specs.Kept.{NothingLoaded, LineOutcome}
use Rattle.script_calls.specs.Line.{line_gives}
use Rattle.replay_bench.specs.declared.bench.Bench.{Bench}
use Rattle.replay_bench.specs.declared.bench.Gathering.{Gathering}
use Rattle.replay_bench.specs.declared.gather.EndedLine.{EndedLine}

-- the bench before the first read
pub record NothingRead (b : Bench) : Type 0 where
  pub loaded : NothingLoaded b.kept
  pub gathered : b.gathering.gathered ≡ nothing_gathered
  pub goes : b.gathering.goes_on ≡ true

-- what is gathered of a line, and whether the program goes on
abbrev pub gathering_of : Gathered → Bool → Gathering
gathering_of g on = record { gathered = g; goes_on = on }

-- behind a line: the program goes on where its answer was written
abbrev pub new_line : Bool → Gathering
new_line written = gathering_of nothing_gathered written

-- the bench of these two parts
abbrev pub bench_with : Kept → Gathering → Bench
bench_with k g = record { kept = k; gathering = g }

-- what the program holds: what is kept from line to line, and all the bytes of its store
pub record Held : Type 0 where
  pub kept : Kept
  pub bytes : Store

abbrev pub held : Kept → Store → Held
held k bytes = record { kept = k; bytes = bytes }

-- what the program holds after a line
abbrev pub held_after : LineOutcome → Held
held_after o = held o.played.kept o.bytes

-- after a line without its LF: what it reads as is what it gives
unfoldable pub after_text : List ℕ → Held → Held
after_text text h = held_after (line_gives text (script_line_at text 0) h.kept h.bytes)

-- a line without its LF
abbrev pub text_of : List ℕ → List ℕ
text_of line = take (length line - 1) line

-- after a line: "One call to a line, every line ends in LF"
abbrev pub after_line : List ℕ → Held → Held
after_line line h = after_text (text_of line) h

-- after a line that has ended: "a line that is too long gives one `unknown`", and nothing changes
unfoldable pub after_gathered : Option (List ℕ) → Held → Held
after_gathered none h = h
after_gathered (some line) h = after_line line h

-- the bytes of a line that has ended: none of one that is too long, since a line of no bytes is `unknown` and changes nothing too
unfoldable pub ended_line : Option (List ℕ) → List ℕ
ended_line none = []
ended_line (some line) = line

-- a line that has ended is the first bytes of its buffer, and is read without its LF
pub record EndsAs (line : Option (List ℕ)) (buffer : List ℕ) (e : EndedLine) : Type 0 where
  pub whole : take e.count buffer ≡ ended_line line
  pub bytes : take e.text buffer ≡ text_of (ended_line line)
  pub reads : e.read ≡ script_line_at (take e.text buffer) 0

-- the program between two parts of the input: what it holds, and the line that is being gathered
pub record Reading : Type 0 where
  pub holds : Held
  pub line : Option (List ℕ)

abbrev pub between : Held → Option (List ℕ) → Reading
between h line = record { holds = h; line = line }

abbrev pub reading : Bench → List ℕ → Store → Reading
reading b line bytes = between (held b.kept bytes) (line_so_far b.gathering.gathered line)

-- whether a part of the input ends a line
abbrev pub ends_line : List ℕ → Bool
ends_line part = eqb (get_or part (length part - 1) 0) LF

-- after a part of a line, which has ended or not
abbrev pub after_line_part : Bool → Option (List ℕ) → Held → Reading
after_line_part ended line h =
    cond ended (between (after_gathered line h) (some [])) (between h line)
