-- The parts of soundness reordered: the definitions join them in document 01's order, the code decides counts and limits before what is
-- looked through. Assumes nothing.
use mathlib.Core.Path.{◌≡◌, refl}
use mathlib.Core.Bool.{Bool, true, false, ◌&&◌, and_assoc, and_comm}

and-left-comm : (a b c : Bool) → a && (b && c) ≡ b && (a && c)
and-left-comm true b c = refl
and-left-comm false true c = refl
and-left-comm false false c = refl

ruleset reordered = (and_assoc, and_comm, and-left-comm)

-- the limits of the transfers before each package and its area
pub limits-first : (room fits few begun ids rise : Bool)
    → (room && fits) && (few && (begun && (ids && rise))) ≡ (few && (room && (begun && ids))) && (rise && fits)
limits-first room fits few begun ids rise = simp reordered

-- a package and the end of its area before those behind it
pub area-first : (over below own rest ends fits : Bool)
    → (over && (below && (own && rest))) && (ends && fits) ≡ (over && (below && (own && ends))) && (rest && fits)
area-first over below own rest ends fits = simp reordered

-- the number of listed entries, then the manager's state, then each package
pub numbers-first : (many as-listed phase : Bool) → (many && as-listed) && phase ≡ many && (phase && as-listed)
numbers-first many as-listed phase = simp reordered

-- the kept numbers, then the table, then the kept action behind the listed ones
pub kept-action-last : (table within turn own passes numbers : Bool)
    → (table && (within && turn)) && (own && (passes && numbers)) ≡ numbers && (table && ((within && own) && (turn && passes)))
kept-action-last table within turn own passes numbers = simp reordered

-- the transfers, then the list with the manager's state, then the session with the kept values
pub session-last : (store transfers session list kept processing fits : Bool)
    → store && (transfers && (session && (list && (kept && (processing && fits)))))
    ≡ (store && transfers) && ((list && (processing && fits)) && (session && kept))
session-last store transfers session list kept processing fits = simp reordered
