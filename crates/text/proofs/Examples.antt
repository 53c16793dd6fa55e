-- Numbers, versions and words at their boundaries, computed: what is accepted, and what is refused beside it. Assumes nothing.
use Prim.Native.Nat.{ℕ}
use Prim.Native.String.{String}
use mathlib.Core.Path.{refl}
use mathlib.Core.Bool.{Bool, true, false}
use mathlib.Core.List.{[], ◌∷◌}
use mathlib.Core.Option.{Option, none, some}
use Rattle.base.specs.Quoted.{bytes}
use Rattle.base.proofs.Tables.{◌gives◌, AllHold}
use Rattle.text.specs.declared.version.Version.{Version}
use Rattle.text.specs.Number.{number_at, whole_number}
use Rattle.text.specs.Version.{version, version_within, version_at, whole_version, version_text}
use Rattle.text.specs.Word.{same_bytes}
use Rattle.text.specs.Digits.{digits}
use Rattle.text.specs.Then.{and_then_read}
use Rattle.text.specs.Open.{computing}

-- ---- numbers

-- the number that a text is, up to a limit
abbrev number : ℕ → String → Option ℕ
number most text = and_then_read none (whole_number most (bytes text)) λ n next. some n

-- "numbers in it are decimal without leading zeros"
numbers-computed : AllHold (number 65535)
    ("0" gives some 0
    ∷ "00" gives none
    ∷ "01" gives none
    ∷ "1" gives some 1
    ∷ "9" gives some 9
    ∷ "10" gives some 10
    ∷ "90" gives some 90
    ∷ "" gives none
    ∷ "+1" gives none
    ∷ "-1" gives none
    ∷ " 1" gives none
    ∷ "1 " gives none
    ∷ "1." gives none
    ∷ "/" gives none
    ∷ ":" gives none
    ∷ "1/" gives none
    ∷ "1:" gives none
    ∷ "65535" gives some 65535
    ∷ "65536" gives none
    ∷ "655350" gives none
    ∷ [])
unfolding computing
numbers-computed = refl

-- a limit of one digit
digits-computed : AllHold (number 5) ("5" gives some 5 ∷ "6" gives none ∷ "10" gives none ∷ [])
unfolding computing
digits-computed = refl

-- the number at a position, and the position behind it
abbrev number_from : ℕ → Option (ℕ × ℕ)
number_from at = and_then_read none (number_at (bytes "7,10.,0") at 99) λ n next. some (n, next.at)

positions-computed : AllHold number_from
    (0 gives some (7, 1) ∷ 1 gives none ∷ 2 gives some (10, 4) ∷ 3 gives some (0, 4) ∷ 6 gives some (0, 7) ∷ 7 gives none ∷ 8 gives none ∷ [])
unfolding computing
positions-computed = refl

-- a number as text
written-computed : AllHold digits
    (0 gives bytes "0"
    ∷ 9 gives bytes "9"
    ∷ 10 gives bytes "10"
    ∷ 100 gives bytes "100"
    ∷ 4294967295 gives bytes "4294967295"
    ∷ [])
unfolding computing
written-computed = refl

-- ---- versions

abbrev version_of : String → Option Version
version_of text = and_then_read none (whole_version (bytes text)) λ v next. some v

-- "A version is four parts of 0 to 65,535 joined by dots"; A.7: "The fourth version part may be 0 to 4,294,967,295."
versions-computed : AllHold version_of
    ("1.2.3.4" gives some (version 1 2 3 4)
    ∷ "0.0.0.0" gives some (version 0 0 0 0)
    ∷ "65535.65535.65535.4294967295" gives some (version 65535 65535 65535 4294967295)
    ∷ "65535.0.0.0" gives some (version 65535 0 0 0)
    ∷ "65536.0.0.0" gives none
    ∷ "0.65536.0.0" gives none
    ∷ "0.0.65536.0" gives none
    ∷ "0.0.0.65535" gives some (version 0 0 0 65535)
    ∷ "0.0.0.65536" gives some (version 0 0 0 65536)
    ∷ "0.0.0.4294967295" gives some (version 0 0 0 4294967295)
    ∷ "0.0.0.4294967296" gives none
    ∷ "0.0.0.42949672950" gives none
    ∷ "0.0.0.18446744073709551617" gives none
    ∷ "1.2.3" gives none
    ∷ "1.2.3.4.5" gives none
    ∷ ".2.3.4" gives none
    ∷ "1..3.4" gives none
    ∷ "1.2..4" gives none
    ∷ "1.2.3." gives none
    ∷ "01.0.0.0" gives none
    ∷ "0.0.0.00" gives none
    ∷ "0.0.0.01" gives none
    ∷ "1,2.3.4" gives none
    ∷ "1.2.3,4" gives none
    ∷ "1.2.3.4." gives none
    ∷ "1.2.3.4 " gives none
    ∷ "" gives none
    ∷ [])
unfolding computing
versions-computed = refl

-- the version at a position, and the position behind it
abbrev version_from : ℕ → Option (Version × ℕ)
version_from at = and_then_read none (version_at (bytes "5.6.7.8,1.0.0") at) λ v next. some (v, next.at)

version-positions-computed : AllHold version_from (0 gives some (version 5 6 7 8, 7) ∷ 2 gives none ∷ 8 gives none ∷ [])
unfolding computing
version-positions-computed = refl

version-limits-computed : AllHold version_within
    (version 65535 65535 65535 4294967295 gives true
    ∷ version 65536 0 0 0 gives false
    ∷ version 0 65536 0 0 gives false
    ∷ version 0 0 65536 0 gives false
    ∷ version 0 0 0 4294967296 gives false
    ∷ [])
unfolding computing
version-limits-computed = refl

version-text-computed : AllHold version_text
    (version 1 0 20 65535 gives bytes "1.0.20.65535" ∷ version 0 1 0 1547190872 gives bytes "0.1.0.1547190872" ∷ [])
unfolding computing
version-text-computed = refl

-- ---- words

-- "The names are compared as fixed byte strings."
abbrev is_needs : String → Bool
is_needs word = same_bytes (bytes word) (bytes "needs")

words-computed : AllHold is_needs
    ("needs" gives true ∷ "Needs" gives false ∷ "need" gives false ∷ "needss" gives false ∷ " needs" gives false ∷ "" gives false ∷ [])
unfolding computing
words-computed = refl
