-- Parts of lists. Assumes nothing.
use Prim.Native.Nat.{ℕ, ◌+◌, ◌≤◌}
use mathlib.Core.Path.{◌≡◌}
use mathlib.Core.List.{List}
use lib.ListN.{length, take, drop}
use lib.Seq.{length-take-le, take-add, drop_at}

-- what stands behind the first n of n + more
pub drop-take : {A : Type 0} (n more : ℕ) (l : List A) → n ≤ length l → drop n (take (n + more) l) ≡ take more (drop n l)
drop-take n more l h = rw (take-add n more l) (drop_at (take n l) (take more (drop n l)) n (length-take-le n l h))
