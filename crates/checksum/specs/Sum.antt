-- The sum of a payload.
use Rattle.std.specs.Prelude.{ℕ, ◌+◌, ◌*◌, ◌%◌, Bool, ◌&&◌, List, [], ◌∷◌, leb}
use Rattle.checksum.specs.declared.Sums.{Sums}

-- "c0 and c1 start at 0"
abbrev pub start_sums : Sums
start_sums = record { c0 = 0; c1 = 0 }

-- "for each payload byte b, c0 becomes (c0 + b) mod 255, then c1 becomes (c1 + c0) mod 255": c1 takes the new c0
unfoldable pub step : Sums → ℕ → Sums
step s b =
    let c0 = (s.c0 + b) % 255 in
    let c1 = (s.c1 + c0) % 255 in
    record { c0 = c0; c1 = c1 }

-- "for each payload byte", in their order, from a pair that is reached already
unfoldable pub continued : Sums → List ℕ → Sums
continued s [] = s
continued s (b ∷ rest) = continued (step s b) rest

-- "256 × c1 + c0"
unfoldable pub sum_number : Sums → ℕ
sum_number s = 256 * s.c1 + s.c0

-- "The sum": of the whole payload, from the start
unfoldable pub sum_of : List ℕ → ℕ
sum_of payload = sum_number (continued start_sums payload)

-- "c0 and c1 are at most 254"
unfoldable pub sums_within : Sums → Bool
sums_within s = leb s.c0 254 && leb s.c1 254
