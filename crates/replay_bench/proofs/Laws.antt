-- The bytes of the buffers, and room for the digits of an answer. Assumes nothing.
use Prim.Native.Nat.{ℕ, ◌+◌, ◌≤◌}
use mathlib.Core.Path.{◌≡◌, sym}
use mathlib.Core.List.{List}
use native.Mathlib.Omega.{arith}
use lib.ListN.{length, take, replicate, length-replicate}
use Rattle.text.specs.Put.{Put}
use Rattle.text.proofs.PutLaws.{put-length}
use Rattle.script_bytes.specs.Hex.{bytes_digits}
use Rattle.script_bytes.proofs.RoundTrip.{length_digits}
use Rattle.script_calls.proofs.LentLaws.{part-long}

-- so many zeros are so many bytes
pub as_many : (n : ℕ) → n ≡ length (replicate {A = ℕ} n 0)
as_many n = sym (length-replicate n 0)

-- the digits of a part of an answer
module _ (l part : List ℕ) (h : length part ≤ 32768) (o : length l ≡ 65536) where
  pub digits-fit : 0 + length (bytes_digits part) ≤ length l
  digits-fit = omega (arith, length_digits part)

  module _ (m : List ℕ) (r : ℕ) (p : Put l 0 (bytes_digits part) r m) where
    pub digits-inside : r ≤ length m
    digits-inside = omega (arith, p.behind, digits-fit, put-length l 0 (bytes_digits part) m r p)

    pub digits_long : r ≡ length (take r m)
    digits_long = part-long m r digits-inside
