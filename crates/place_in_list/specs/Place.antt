-- Places in lists, as indices from 0. `position_from` of the library has the place of the first element that a test holds of.
use Rattle.std.specs.Prelude.{ℕ, Option, Some, None, List}
use Rattle.std.proofs.Math.Option as math
use Rattle.std.proofs.Math.ListN.{get_elem?}

-- what a search answers: a place, or that there is none
abbrev pub Found : Type 0
Found = Option ℕ

-- the element that an answer of a search stands for: the definition for each case of the answer
abbrev pub found_in : {A : Type 0} → List A → Found → math.Option A
found_in l (Some i) = get_elem? l i
found_in l None = math.none
