-- One action more behind a list of actions. Assumes nothing.
use mathlib.Core.Path.{◌≡◌, refl, ap, ◌∙◌}
use mathlib.Core.Bool.{Bool, true, false, ◌&&◌}
use mathlib.Core.List.{List, [], ◌∷◌, ◌++◌, append-nil, append_assoc}
use Rattle.clusters.specs.Table.{Table}
use Rattle.actions.specs.Action.{Action, apply, apply_all, action_within, actions_within}
use Rattle.actions.specs.Refusals.{passes, pass_in_turn}

and-group : (a b c d : Bool) → b ≡ c && d → a && b ≡ (a && c) && d
and-group true b c d e = e
and-group false b c d e = refl

and-true : (a : Bool) → a && true ≡ a
and-true true = refl
and-true false = refl

pub apply-all-append : (t : Table) (acts more : List Action) → apply_all t (acts ++ more) ≡ apply_all (apply_all t acts) more
unfolding apply_all
apply-all-append t [] more = refl
apply-all-append t (a ∷ acts) more = apply-all-append (apply a t) acts more

pub apply-all-last : (t : Table) (acts : List Action) (a : Action) → apply_all t (acts ++ a ∷ []) ≡ apply a (apply_all t acts)
apply-all-last t acts a = apply-all-append t acts (a ∷ []) ∙ (unfold apply_all in refl)

pub pass-in-turn-append : (t : Table) (listed acts more : List Action) → pass_in_turn t listed (acts ++ more) ≡ pass_in_turn t listed acts && pass_in_turn (apply_all t acts) (listed ++ acts) more
unfolding pass_in_turn apply_all
pass-in-turn-append t listed [] more = rw (append-nil listed)
pass-in-turn-append t listed (a ∷ acts) more =
    and-group (passes t listed a) _ _ _
    (pass-in-turn-append (apply a t) (listed ++ a ∷ []) acts more ∙ rw (append_assoc listed (a ∷ []) acts))

pub pass-in-turn-last : (t : Table) (listed acts : List Action) (a : Action) → pass_in_turn t listed (acts ++ a ∷ []) ≡ pass_in_turn t listed acts && passes (apply_all t acts) (listed ++ acts) a
pass-in-turn-last t listed acts a = pass-in-turn-append t listed acts (a ∷ []) ∙ ap (λ (b : Bool). pass_in_turn t listed acts && b) (unfold pass_in_turn in and-true (passes (apply_all t acts) (listed ++ acts) a))

pub actions-within-append : (acts more : List Action) → actions_within (acts ++ more) ≡ actions_within acts && actions_within more
unfolding actions_within
actions-within-append [] more = refl
actions-within-append (a ∷ acts) more = and-group (action_within a) _ _ _ (actions-within-append acts more)

pub actions-within-last : (acts : List Action) (a : Action) → actions_within (acts ++ a ∷ []) ≡ actions_within acts && action_within a
actions-within-last acts a = actions-within-append acts (a ∷ []) ∙ ap (λ (b : Bool). actions_within acts && b) (unfold actions_within in and-true (action_within a))
