-- A line with a part more, for each way out of `gather`. Assumes nothing.
use Prim.Native.Nat.{ℕ, ◌+◌, ◌-◌, ◌≤◌, ◌<◌}
use mathlib.Core.Path.{◌≡◌, refl, ap, ◌∙◌}
use mathlib.Core.Bool.{true, false}
use mathlib.Core.List.{List, [], ◌++◌}
use mathlib.Core.Option.{Option, none, some}
use native.Mathlib.Omega.{arith}
use lib.ListN.{length, take, drop, length-append}
use lib.Seq.{sets-eq, length-sets, length-take-le, take_at}
use borrow.Author.Tests.{lt-ltb, le-ltb}
use Rattle.base.proofs.Tests.{or-second}
use Rattle.text.specs.Put.{Put}
use Rattle.script.specs.declared.gathered.Gathered.{Gathered}
use Rattle.script.specs.Gathered.{nothing_gathered, line_so_far, with_part}

-- the line so far, by the two tests
module _ (g : Gathered) (l : List ℕ) where
  pub so-far-too-long : g.is_too_long ≡ true → line_so_far g l ≡ none
  unfolding line_so_far
  so-far-too-long h = rw h

  pub so-far-past : length l < g.count → line_so_far g l ≡ none
  unfolding line_so_far
  so-far-past h = rw (or-second g.is_too_long _ (lt-ltb _ _ h))

  pub so_far : g.is_too_long ≡ false → g.count ≤ length l → line_so_far g l ≡ some (take g.count l)
  unfolding line_so_far
  so_far f h = rw (f, le-ltb _ _ h)

pub nothing-so-far : (l : List ℕ) → line_so_far nothing_gathered l ≡ some []
nothing-so-far l = so_far nothing_gathered l refl (omega arith)

-- a line that is too long stays so
stays : (x : Option (List ℕ)) (room : ℕ) (part : List ℕ) → x ≡ none → x ≡ with_part room x part
unfolding with_part
stays x room part e = rw e

module _ (g : Gathered) (l part : List ℕ) where
  pub part-too-long : g.is_too_long ≡ true → line_so_far g l ≡ with_part (length l) (line_so_far g l) part
  part-too-long h = stays _ _ part (so-far-too-long g l h)

  pub part-past : length l < g.count → line_so_far g l ≡ with_part (length l) (line_so_far g l) part
  part-past h = stays _ _ part (so-far-past g l h)

  module _ (f : g.is_too_long ≡ false) (h : g.count ≤ length l) where
    -- one byte more than the room is too long
    pub part-no-room : (r : Gathered) → r.is_too_long ≡ true → length l - g.count < length part
        → line_so_far r l ≡ with_part (length l) (line_so_far g l) part
    unfolding with_part
    part-no-room r t o = so-far-too-long r l t ∙ rw (so_far g l f h, length-take-le g.count l h, lt-ltb (length l) (g.count + length part) (omega arith))

    -- a part that fills the room is not
    pub part-fits : (r : Gathered) (m : List ℕ) → r.is_too_long ≡ false → Put l g.count part r.count m → length part ≤ length l - g.count
        → line_so_far r m ≡ with_part (length l) (line_so_far g l) part
    unfolding with_part
    part-fits r m t p o =
        let long : length m ≡ length l = ap length p.bytes ∙ length-sets l g.count part in
        let line : m ≡ take g.count l ++ part ++ drop (g.count + length part) l = p.bytes ∙ sets-eq part l g.count (omega arith) in
        let n : r.count ≡ length (take g.count l ++ part) = p.behind ∙ rw (length-append, length-take-le g.count l h) in
        so_far r m t (omega (arith, p.behind))
        ∙ rw (so_far g l f h, length-take-le g.count l h, le-ltb (length l) (g.count + length part) (omega arith), line, n, take_at)
