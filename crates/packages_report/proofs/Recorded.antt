-- The records of the first packages in the first places of a list: one more, and all. Assumes nothing.
use Prim.Native.Nat.{ℕ, zero, suc, ◌+◌, ◌≤◌, ◌<◌}
use mathlib.Core.Path.{◌≡◌, refl, sym, ap, ◌∙◌}
use mathlib.Core.List.{List, [], ◌∷◌, ◌++◌}
use native.Mathlib.Numerals.{add-one}
use native.Mathlib.Omega.{arith}
use lib.ListN.{length, take, drop, get_or, set, length-map, length-take, get_or-map}
use lib.Seq.{get_or-take, take-length}
use Rattle.model.specs.Sound.{packages_most}
use Rattle.state.specs.declared.transfers.Transfers.{Transfers}
use Rattle.state.specs.View.{cleared_package}
use Rattle.packages_report.specs.declared.Record.{Record}
use Rattle.packages_report.specs.Records.{record_of, cleared_record, recorded}

-- a list with the first n of the records in its first places; those behind them keep their values
abbrev pub first_from : ℕ → List Record → List Record → List Record
first_from n records list = take n records ++ drop n list

next : (i : ℕ) (rs l : List Record) → i < length rs → i < length l → set (first_from i rs l) i (get_or rs i cleared_record) ≡ first_from (suc i) rs l
next i [] l a b = absurd (omega arith)
next i (r ∷ rs) [] a b = absurd (omega arith)
next zero (r ∷ rs) (x ∷ l) a b = refl
next (suc i) (r ∷ rs) (x ∷ l) a b = ap (λ (z : List Record). r ∷ z) (next i rs l (omega arith) (omega arith))

module _ (t : Transfers) (few : t.count ≤ packages_most) (long : length t.packages ≡ packages_most) where
  pub recorded-length : length (recorded t) ≡ t.count
  recorded-length = simp (length-map, length-take) (omega arith)

  module _ (old : List Record) (room : t.count ≤ length old) where
    -- the record of the package at i is stored: one more is written
    pub one_more : (i : ℕ) (r : Record) → i < t.count → r ≡ record_of (get_or t.packages i cleared_package)
        → set (first_from i (recorded t) old) i r ≡ first_from (i + 1) (recorded t) old
    one_more i r h e =
        let at : r ≡ get_or (recorded t) i cleared_record =
        e ∙ sym (get_or-map record_of (take t.count t.packages) i cleared_package ∙ ap record_of (get_or-take t.count t.packages i cleared_package h)) in
        rw (at, add-one) (next i (recorded t) old (omega (arith, recorded-length)) (omega arith))

    pub all-written : (i : ℕ) → i ≡ t.count → first_from i (recorded t) old ≡ recorded t ++ drop (length (recorded t)) old
    all-written i e =
        let here : i ≡ length (recorded t) = e ∙ sym recorded-length in
        rw (here, take-length (recorded t))
