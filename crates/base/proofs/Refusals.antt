-- A list of refusals: none applies exactly where there is no first. Assumes nothing.
use mathlib.Core.Path.{◌≡◌, refl}
use mathlib.Core.Bool.{Bool, true, false, not, cond, ◌&&◌, false≢true}
use mathlib.Core.List.{List, [], ◌∷◌}
use mathlib.Core.Option.{none, some}
use Rattle.base.specs.Refusals.{Refusal, first_refusal, none_applies}

pub accepted-none : (rs : List Refusal) → none_applies rs ≡ true → first_refusal rs ≡ none
unfolding none_applies first_refusal
accepted-none [] h = refl
accepted-none (r ∷ rs) h = go r.applies h (accepted-none rs)
  where
    go : (b : Bool) → not b && none_applies rs ≡ true → (none_applies rs ≡ true → first_refusal rs ≡ none) → cond b (some r.number) (first_refusal rs) ≡ none
    go true h ih = absurd (false≢true h)
    go false h ih = ih h

pub none-accepted : (rs : List Refusal) → first_refusal rs ≡ none → none_applies rs ≡ true
unfolding none_applies first_refusal
none-accepted [] h = refl
none-accepted (r ∷ rs) h = go r.applies h (none-accepted rs)
  where
    go : (b : Bool) → cond b (some r.number) (first_refusal rs) ≡ none → (first_refusal rs ≡ none → none_applies rs ≡ true) → not b && none_applies rs ≡ true
    go true h ih = absurd (let z : ◌≡◌ {A = Bool} false true = cc in false≢true z)
    go false h ih = ih h
