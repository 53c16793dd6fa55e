-- The numbers of a list of entries: two for each, and those of two lists behind one another. By induction on the list. Assumes nothing.
use Prim.Native.Nat.{ℕ, ◌*◌}
use mathlib.Core.Path.{◌≡◌, refl, ap}
use mathlib.Core.List.{List, [], ◌∷◌, ◌++◌}
use native.Mathlib.Omega.{arith}
use lib.ListN.{length}
use Rattle.start_waves.specs.StartOrder.{WaveEntry}
use Rattle.start_waves.specs.WavesReport.{numbers_of}

pub two-numbers-each : (entries : List WaveEntry) → length (numbers_of entries) ≡ 2 * length entries
unfolding numbers_of
two-numbers-each [] = refl
two-numbers-each (e ∷ entries) = omega (arith, two-numbers-each entries)

pub numbers-append : (a b : List WaveEntry) → numbers_of (a ++ b) ≡ numbers_of a ++ numbers_of b
unfolding numbers_of
numbers-append [] b = refl
numbers-append (e ∷ a) b = ap (λ (l : List ℕ). e.part ∷ e.wave ∷ l) (numbers-append a b)
