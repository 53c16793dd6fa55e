-- A text that is being put into a buffer, part by part or byte by byte: what is left of it, and where it goes. Assumes nothing.
use Prim.Native.Nat.{ℕ, ◌+◌, ◌≤◌, ◌<◌}
use mathlib.Core.Path.{◌≡◌, refl, sym, ap, ◌∙◌}
use mathlib.Core.List.{List, [], ◌∷◌, ◌++◌}
use native.Mathlib.Omega.{arith}
use native.Mathlib.Nat.{add-zero}
use native.Mathlib.Numerals.{add-one}
use lib.ListN.{length, drop, get_or, length-append, set, drop_of_length-le}
use lib.Seq.{sets, drop-cons}
use Rattle.text.specs.Put.{Put}
use Rattle.text.proofs.PutLaws.{sets-append, put-length, put_byte}

-- the buffer was `old` and is `new`; with `rest` put at `at` the whole text stands from `from` on
pub record Putting (old : List ℕ) (from : ℕ) (text : List ℕ) (new : List ℕ) (at : ℕ) (rest : List ℕ) : Type 0 where
  pub ends : at + length rest ≡ from + length text
  pub bytes : sets new at rest ≡ sets old from text
  pub long : length new ≡ length old

module _ (old : List ℕ) (from : ℕ) (text : List ℕ) where
  pub putting-begins : Putting old from text old from text
  putting-begins = record { ends = refl; bytes = refl; long = refl }

  module _ (new : List ℕ) (at : ℕ) (rest : List ℕ) (p : Putting old from text new at rest) where
    pub putting-done : rest ≡ [] → Put old from text at new
    putting-done e = record { behind = sym (add-zero at) ∙ rw e at p.ends; bytes = rw e at p.bytes }

    module _ (xs ys : List ℕ) (e : rest ≡ xs ++ ys) where
      -- the room for the next part
      pub putting-room : from + length text ≤ length old → at + length xs ≤ length new
      putting-room o = omega (arith, p.ends, p.long, ap length e, length-append xs ys)

      -- the next part is put
      pub putting-on : (newer : List ℕ) (next : ℕ) → Put new at xs next newer → Putting old from text newer next ys
      putting-on newer next f = record {
        ends = omega (arith, p.ends, f.behind, ap length e, length-append xs ys);
        bytes = rw (f.bytes, f.behind, ← sets-append xs ys new at, ← e) p.bytes;
        long = put-length new at xs newer next f ∙ p.long;
      }

  -- byte by byte
  module _ (new : List ℕ) (i : ℕ) where
    pub bytes_on : i < length text → Putting old from text new (from + i) (drop i text)
        → Putting old from text (set new (from + i) (get_or text i 0)) (from + (i + 1)) (drop (i + 1) text)
    bytes_on h p =
        let e : drop i text ≡ (get_or text i 0 ∷ []) ++ drop (i + 1) text = drop-cons text i 0 h ∙ rw add-one in
        let n : from + i + 1 ≡ from + (i + 1) = omega arith in
        rw n at (putting-on new (from + i) (drop i text) p (get_or text i 0 ∷ []) (drop (i + 1) text) e _ _ (put_byte new (from + i) (get_or text i 0)))

    pub bytes-done : length text ≤ i → Putting old from text new (from + i) (drop i text) → Put old from text (from + i) new
    bytes-done h p = putting-done new (from + i) (drop i text) p (drop_of_length-le text h)

  pub bytes-begin : Putting old from text old (from + 0) (drop 0 text)
  bytes-begin = rw add-zero putting-begins
