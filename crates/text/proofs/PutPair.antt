-- A text of two parts with a byte between them and a byte behind them, put part by part: how long it is, the room that each part has once
-- those before it are put, and what they leave together. Assumes nothing.
use Prim.Native.Nat.{ℕ, ◌+◌, ◌≤◌, ◌<◌}
use mathlib.Core.Path.{◌≡◌, ap, ◌∙◌}
use mathlib.Core.List.{List, [], ◌∷◌, ◌++◌}
use native.Mathlib.Omega.{arith}
use lib.ListN.{length, length-append, set, length-set}
use Rattle.text.specs.Put.{Put}
use Rattle.text.proofs.PutLaws.{put-length, put_then, put-cons, put_last}

pub record Pair (text first : List ℕ) (between : ℕ) (second : List ℕ) (behind : ℕ) : Type 0 where
  pub parts : text ≡ first ++ (between ∷ (second ++ (behind ∷ [])))

module _ {text first second : List ℕ} {between behind : ℕ} (pair : Pair text first between second behind) where
  pub pair-length : length text ≡ length first + length second + 2
  pair-length = ap length pair.parts ∙ simp length-append (omega arith)

  module _ (l : List ℕ) (at : ℕ) (o : at + length text ≤ length l) where
    pub room-first-part : at + length first ≤ length l
    room-first-part = omega (arith, pair-length)

    module _ (m : List ℕ) (p : ℕ) (f : Put l at first p m) where
      pub room-between : p < length m
      room-between = omega (arith, pair-length, put-length l at first m p f)

      pub room-second-part : p + 1 + length second ≤ length (set m p between)
      room-second-part = simp length-set (omega (arith, pair-length, put-length l at first m p f))

      module _ (k : List ℕ) (q : ℕ) (g : Put (set m p between) (p + 1) second q k) where
        pub room-behind : q < length k
        room-behind =
            omega (
              arith,
              pair-length,
              put-length l at first m p f,
              put-length (set m p between) (p + 1) second k q g,
              length-set m p between,
            )

        pub pair_put : Put l at text (q + 1) (set k q behind)
        pair_put =
            rw pair.parts
            (put_then l at first (between ∷ (second ++ (behind ∷ []))) m (set k q behind) p (q + 1) f
            (put-cons m p between (second ++ (behind ∷ [])) (set k q behind) (q + 1) (put_last (set m p between) (p + 1) second k q behind g)))
