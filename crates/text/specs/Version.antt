-- "A version is four parts of 0 to 65,535 joined by dots"; A.7: "The fourth version part may be 0 to 4,294,967,295."
use Rattle.std.specs.Prelude.{ℕ, ◌+◌, Bool, cond, ◌&&◌, List, ◌∷◌, ◌++◌, length, get_or, eqb, leb, ltb, Option, Some, None}
use Rattle.base.specs.Quoted.{dot}
use Rattle.text.specs.declared.cursor.Cursor.{Cursor}
use Rattle.text.specs.declared.version.Version.{Version}
use Rattle.text.specs.Number.{number_at}
use Rattle.text.specs.Digits.{digits}
use Rattle.text.specs.Then.{and_then_read}

-- a version by its parts, in the order in which they are written
abbrev pub version : ℕ → ℕ → ℕ → ℕ → Version
version first second third fourth = record { first = first; second = second; third = third; fourth = fourth }

-- "65,535", of the first three parts: the one place in the definitions that has this limit
abbrev pub version_part_most : ℕ
version_part_most = 65535

-- A.7: "4,294,967,295", of the fourth part: the one place in the definitions that has this limit
abbrev pub version_last_most : ℕ
version_last_most = 4294967295

-- "four parts of 0 to 65,535"; A.7: the fourth "may be 0 to 4,294,967,295"
unfoldable pub version_within : Version → Bool
version_within v = leb v.first version_part_most && (leb v.second version_part_most && (leb v.third version_part_most && leb v.fourth version_last_most))

-- a dot and the part behind it, at most as large as `most`. Past the end `get_or` gives 0, which is no dot
unfoldable pub dotted_at : List ℕ → ℕ → ℕ → Option (ℕ × Cursor)
dotted_at s at most = cond (eqb (get_or s at 0) dot) (number_at s (at + 1) most) None

-- the version at a position of a text
unfoldable pub version_at : List ℕ → ℕ → Option (Version × Cursor)
version_at s at =
    and_then_read None (number_at s at version_part_most) λ first behind-first.
    and_then_read None (dotted_at s behind-first.at version_part_most) λ second behind-second.
    and_then_read None (dotted_at s behind-second.at version_part_most) λ third behind-third.
    and_then_read None (dotted_at s behind-third.at version_last_most) λ fourth next.
    Some (version first second third fourth, next)

-- a text that is one version and nothing else
unfoldable pub whole_version : List ℕ → Option (Version × Cursor)
whole_version s =
    and_then_read None (version_at s 0) λ v next.
    cond (ltb next.at (length s)) None (Some (v, next))

-- a version as text
unfoldable pub version_text : Version → List ℕ
version_text v = digits v.first ++ ((dot ∷ digits v.second) ++ ((dot ∷ digits v.third) ++ (dot ∷ digits v.fourth)))
