-- An array with a count, as a list.
use Rattle.std.specs.Prelude.{cond, List, ℕ, leb, take, replicate}

-- the first `count` elements of an array with room for `most`. A count above the room gives a list longer than the room,
-- so that a limit on the list's length says that the count fits
abbrev pub counted : {A : Type 0} → ℕ → A → ℕ → List A → List A
counted most none count elements = cond (leb count most) (take count elements) (replicate count none)
