-- How versions compare, and which of them meet a need.
use Rattle.std.specs.Prelude.{Bool, cond, not, ◌&&◌, eqb, ltb}
use Rattle.text.specs.declared.version.Version.{Version}

-- "compared part by part from the left": the first part that differs decides
unfoldable pub above : Version → Version → Bool
above v w =
    cond (eqb v.first w.first)
    (cond (eqb v.second w.second)
    (cond (eqb v.third w.third)
    (ltb w.fourth v.fourth)
    (ltb w.third v.third))
    (ltb w.second v.second))
    (ltb w.first v.first)

-- "at the least version or above": the least version is not above it
unfoldable pub at_or_above : Version → Version → Bool
at_or_above v least = not (above least v)

-- A.5: "a need is met by a version that is at or above the least and has the same first part"
unfoldable pub fulfils : Version → Version → Bool
fulfils v least = eqb v.first least.first && at_or_above v least
