-- What `number_begins` and `number_goes_on` find at a position, for each test that the code makes there. Each law takes what the code
-- knows as premises, in the form in which a need's `c` has it, so that `search` finds them there. Assumes nothing.
use Prim.Native.Nat.{ℕ, ◌+◌, ◌*◌, ◌≤◌, ◌<◌}
use mathlib.Core.Path.{◌≡◌, ◌∙◌}
use mathlib.Core.List.{List}
use native.Mathlib.Numerals.{add-one}
use lib.ListN.{length, get_or, drop, drop_of_length-le}
use lib.Seq.{drop-cons}
use borrow.Author.Tests.{lt-ltb, le-ltb, eq-eqb, ne_eqb, lt-leb}
use Rattle.std.specs.Prelude.{Option, Some, None}
use Rattle.text.specs.declared.cursor.Cursor.{Cursor}
use Rattle.text.specs.Number.{cursor, digit_of, number_goes_on, number_begins}

module _ (most : ℕ) (s : List ℕ) (p : ℕ) where
  pub begins-at-end : (r : Option (ℕ × Cursor)) → r ≡ None → length s ≤ p → r ≡ number_begins most p (drop p s)
  unfolding number_begins
  begins-at-end r e h = e ∙ rw (drop_of_length-le s h)

  -- b is the byte that stands there
  module _ (b : ℕ) (h : p < length s) (there : b ≡ get_or s p b) where
    pub begins-no-digit : (r : Option (ℕ × Cursor)) → r ≡ None → digit_of b ≡ 10 → r ≡ number_begins most p (drop p s)
    unfolding number_begins
    begins-no-digit r e n = e ∙ rw (drop-cons s p b h, ← there, n)

    module _ (d : ℕ) (e : d ≡ digit_of b) (o : d < 10) where
      pub begins-above : most < d → None ≡ number_begins most p (drop p s)
      unfolding number_begins
      begins-above m = rw (drop-cons s p b h, ← there, ← e, lt-leb _ _ o, lt-ltb _ _ m)

      pub begins-on : (x : Option (ℕ × Cursor)) → x ≡ number_goes_on most d (p + 1) (drop (p + 1) s) → d ≤ most → x ≡ number_begins most p (drop p s)
      unfolding number_begins
      begins-on x q m = q ∙ rw (drop-cons s p b h, ← there, ← e, lt-leb _ _ o, le-ltb _ _ m, add-one)

  module _ (n : ℕ) (x : Option (ℕ × Cursor)) (q : x ≡ number_goes_on most n p (drop p s)) where
    pub goes-on-end : (e : ℕ) → length s ≤ p → e ≡ p → Some (n, cursor e) ≡ x
    unfolding number_goes_on
    goes-on-end e h i = rw (q, i, drop_of_length-le s h)

    module _ (h : p < length s) where
      pub goes-on-no-digit : digit_of (get_or s p 0) ≡ 10 → Some (n, cursor p) ≡ x
      unfolding number_goes_on
      goes-on-no-digit o = rw (q, drop-cons s p 0 h, o)

      module _ (d : ℕ) (e : d ≡ digit_of (get_or s p 0)) (o : d < 10) where
        pub goes-on-zero : n ≡ 0 → None ≡ x
        unfolding number_goes_on
        goes-on-zero z = rw (q, drop-cons s p 0 h, ← e, lt-leb _ _ o, eq-eqb _ _ z)

        pub goes-on-above : (r : Option (ℕ × Cursor)) → r ≡ None → (n ≡ 0 → ⊥) → most < n * 10 + d → r ≡ x
        unfolding number_goes_on
        goes-on-above r i z m = rw (i, q, drop-cons s p 0 h, ← e, lt-leb _ _ o, ne_eqb _ _ z, lt-ltb _ _ m)

        pub goes-on-digit : (v : ℕ) → v ≡ n * 10 + d → (n ≡ 0 → ⊥) → v ≤ most → x ≡ number_goes_on most v (p + 1) (drop (p + 1) s)
        unfolding number_goes_on
        goes-on-digit v i z m = q ∙ rw (drop-cons s p 0 h, ← e, lt-leb _ _ o, ne_eqb _ _ z, ← i, le-ltb _ _ m, add-one)
