-- The first places of an array.
use Rattle.std.specs.Prelude.{List, ◌++◌, length, drop}

-- an array with others in its first places; those behind them keep what they held
abbrev pub put_first : {A : Type 0} → List A → List A → List A
put_first first xs = first ++ drop (length first) xs
