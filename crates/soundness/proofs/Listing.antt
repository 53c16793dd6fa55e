-- One package of the list, held against the ids of the session's list. Assumes nothing.
use Prim.Native.Nat.{ℕ}
use mathlib.Core.Path.{◌≡◌, refl, sym, ap, ◌∙◌}
use mathlib.Core.Bool.{Bool, true, false, not, ◌&&◌, ◌||◌, beq}
use mathlib.Core.List.{List, [], ◌∷◌, map}
use lib.Dec.{eqb}
use borrow.Author.Tests.{not-true, not-false}
use Rattle.model.specs.State.{Package, Entry}
use Rattle.model.specs.Areas.{is_processed}
use Rattle.model.specs.Sound.{is_listed, processed_as_listed}
use Rattle.listed_actions.specs.Listed.{is_among}
use Rattle.soundness.specs.Parts.{plain_id}

among-listed : (id : ℕ) (entries : List Entry) → is_among id (map plain_id entries) ≡ is_listed id entries
unfolding is_among is_listed
among-listed id [] = refl
among-listed id (e ∷ entries) = ap (λ (b : Bool). eqb id e.id || b) (among-listed id entries)

-- `whole` is what is asked of all packages; processed and among are what the code is told of this one
module _ (entries : List Entry) (ids : List ℕ) (p : Package) (ps : List Package) (whole processed among : Bool)
    (so_far : whole ≡ processed_as_listed entries (p ∷ ps)) (same : ids ≡ map plain_id entries)
    (told : processed ≡ is_processed p.state) (found : among ≡ is_among p.id ids) where
  here : whole ≡ beq processed among && processed_as_listed entries ps
  unfolding processed_as_listed
  here =
      let listed : among ≡ is_listed p.id entries = found ∙ ap (is_among p.id) same ∙ among-listed p.id entries in
      rw (told, listed) so_far

  pub stops : not (beq processed among) ≡ true → false ≡ whole
  stops h = sym (here ∙ rw (not-true (beq processed among) h))

  pub goes_on : not (beq processed among) ≡ false → whole ≡ processed_as_listed entries ps
  goes_on h = here ∙ rw (not-false (beq processed among) h)
