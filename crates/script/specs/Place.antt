-- The place of a line's bytes.
use Rattle.std.specs.Prelude.{ℕ, ◌+◌, ◌-◌, cond, List, [], length, take, drop, ltb, Option, Some, None}
use Rattle.script_bytes.specs.declared.form.Form.{Form}
use Rattle.script_bytes.specs.Block.{form_of}
use Rattle.script.specs.declared.place.Place.{Place}
use Rattle.script.specs.Words.{word_at}

abbrev pub place : ℕ → ℕ → Place
place from to = record { from = from; to = to }

-- a word of a form at a place
abbrev pub block_at : Option Form → Place → Option Place
block_at (Some form) p = Some p
block_at None p = None

-- the place of the word at a position, which is `BYTES` and the last of the line
unfoldable pub last_block : List ℕ → ℕ → Option Place
last_block s at =
    cond (ltb (at + length (word_at s at)) (length s)) None (block_at (form_of (word_at s at)) (place at (at + length (word_at s at))))

-- the bytes of a line at a place; none where the place is not within it
unfoldable pub part_at : List ℕ → Place → List ℕ
part_at s p = cond (ltb p.to p.from) [] (cond (ltb (length s) p.to) [] (take (p.to - p.from) (drop p.from s)))
