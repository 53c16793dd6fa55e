-- A line gathered from the input, which comes in parts.
use Rattle.std.specs.Prelude.{ℕ, ◌+◌, false, cond, ◌||◌, List, ◌++◌, ltb, length, take}
use Rattle.std.proofs.Math.Option.{Option, none, some}
use Rattle.script.specs.declared.gathered.Gathered.{Gathered}

abbrev pub nothing_gathered : Gathered
nothing_gathered = record { count = 0; is_too_long = false }

-- the bytes of the line so far, which are the first of its buffer; none where it is too long for that
unfoldable pub line_so_far : Gathered → List ℕ → Option (List ℕ)
line_so_far g buffer = cond (g.is_too_long || ltb (length buffer) g.count) none (some (take g.count buffer))

-- the line with a part more: too long where it has more bytes than the room, "a line is at most 262,144 bytes with its LF", and so for good
unfoldable pub with_part : ℕ → Option (List ℕ) → List ℕ → Option (List ℕ)
with_part room none part = none
with_part room (some line) part = cond (ltb room (length line + length part)) none (some (line ++ part))

-- what is gathered in a buffer, with a part more: the buffer is the room
abbrev pub gathered_with : Gathered → List ℕ → List ℕ → Option (List ℕ)
gathered_with g buffer part = with_part (length buffer) (line_so_far g buffer) part
