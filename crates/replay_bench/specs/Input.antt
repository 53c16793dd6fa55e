-- What the bytes of the input make of what the program holds, in whatever parts they come.
use Rattle.std.specs.Prelude.{ℕ, ◌+◌, ◌≡◌, Bool, true, cond, List, [], ◌∷◌, eqb, length}
use Rattle.base.specs.Quoted.{LF}
use Rattle.model.specs.State.{Store}
use Rattle.script.specs.Gathered.{line_so_far, with_part, gathered_with}
use Rattle.replay_bench.specs.declared.bench.Bench.{Bench}
use Rattle.replay_bench.specs.declared.bench.Gathering.{Gathering}
use Rattle.replay_bench.specs.declared.gather.Part.{Part}
use Rattle.replay_bench.specs.Bench.{Reading, reading, ends_line, after_line_part}

-- after one byte, with so much room for a line
unfoldable pub after_byte : ℕ → ℕ → Reading → Reading
after_byte room b r = after_line_part (eqb b LF) (with_part room r.line (b ∷ [])) r.holds

-- after bytes, one after the other
unfoldable pub after_bytes : ℕ → List ℕ → Reading → Reading
after_bytes room [] r = r
after_bytes room (b ∷ input) r = after_bytes room input (after_byte room b r)

-- a text up to its first LF and with it, or all of it
unfoldable pub up_to_line_end : List ℕ → List ℕ
up_to_line_end [] = []
up_to_line_end (b ∷ l) = cond (eqb b LF) (b ∷ []) (b ∷ up_to_line_end l)

-- a line in its buffer is gathered with the next part of the rest of the input, which begins at a position; the program goes on
pub record GathersPart (g : Gathering) (line rest : List ℕ) (at : ℕ) (p : Part) (line' : List ℕ) : Type 0 where
  pub end : p.end ≡ at + length (up_to_line_end rest)
  pub so_far : line_so_far p.gathering.gathered line' ≡ gathered_with g.gathered line (up_to_line_end rest)
  pub goes : p.gathering.goes_on ≡ true
  pub ends : p.ends_line ≡ ends_line (up_to_line_end rest)

-- where the program goes on, what was to be read is what is read; where a write has failed, nothing is said
pub record IfGoesOn (on : Bool) (all read : Reading) : Type 0 where
  pub same : on ≡ true → all ≡ read

-- a bench with its line buffer and its store takes an input, and these are the bench, the line and the store then
abbrev pub TakesInput : Bench → List ℕ → Store → List ℕ → Bench → List ℕ → Store → Type 0
TakesInput b line bytes input b' line' bytes' =
    IfGoesOn b'.gathering.goes_on (after_bytes (length line) input (reading b line bytes)) (reading b' line' bytes')
