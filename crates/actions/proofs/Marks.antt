-- Marks under actions: the mark that an action's own cluster has plays no part, actions that pass take no marked cluster out, keep the mark
-- of each other cluster and give none, and a remove of a marked cluster is refused by 21 alone. Assumes nothing.
use Prim.Native.Nat.{ℕ}
use mathlib.Core.Path.{◌≡◌, refl, sym, ap, ap₂, subst, ◌∙◌}
use mathlib.Core.Bool.{Bool, true, false, cond, ◌&&◌, ◌||◌}
use mathlib.Core.List.{List, [], ◌∷◌, ◌++◌, map, map-append}
use mathlib.Core.Option.{none, some}
use lib.Dec.{eqb}
use lib.ListN.{length}
use borrow.Author.Tests.{eqb-true, not-false}
use Rattle.base.specs.Refusals.{Refusal, refuse◌when◌, first_refusal, none_applies}
use Rattle.base.proofs.Tests.{and_left, and_right, bool_cases}
use Rattle.clusters.specs.Cluster.{Cluster, with_mark}
use Rattle.clusters.specs.Table.{Table, find}
use Rattle.actions.specs.Action.{Action, install, update, remove, action_part, replace, apply, apply_all}
use Rattle.actions.specs.Refusals.{touched, cluster_present, cluster_absent, cluster_stays, is_marked, old_version, table_full, staged_refusals, action_refusals, passes, pass_in_turn}
use Rattle.actions.proofs.StagedLaws.{not-staged, staged-is}
use Rattle.actions.proofs.Finding.{insert-same, replace-same, take-out-same}
use Rattle.actions.proofs.Changes.{passes-says, apply-other}

-- ---- an action's own mark

-- the same action with this mark in its cluster; a remove has none
abbrev pub with_own_mark : Bool → Action → Action
with_own_mark mark (install c) = install (with_mark c mark)
with_own_mark mark (update c) = update (with_mark c mark)
with_own_mark mark (remove part) = remove part

module _ (mark : Bool) where
  replace-own : (c : Cluster) (t : Table) → replace (with_mark c mark) t ≡ replace c t
  unfolding replace
  replace-own c [] = refl
  replace-own c (d ∷ t) = ap (λ (rest : Table). cond (eqb c.part d.part) (with_mark c d.stays ∷ rest) (d ∷ rest)) (replace-own c t)

  -- it gives the same table
  pub own-mark-table : (a : Action) (t : Table) → apply (with_own_mark mark a) t ≡ apply a t
  unfolding apply
  own-mark-table (install c) t = refl
  own-mark-table (update c) t = replace-own c t
  own-mark-table (remove part) t = refl

  -- and has the same refusals
  pub own-mark-refusals : (staged : Table) (listed : List Action) (a : Action)
      → action_refusals staged listed (with_own_mark mark a) ≡ action_refusals staged listed a
  unfolding action_refusals cluster_present cluster_absent cluster_stays old_version table_full
  own-mark-refusals staged listed (install c) = refl
  own-mark-refusals staged listed (update c) = refl
  own-mark-refusals staged listed (remove part) = refl

  -- ---- the marks of listed actions: with all of them exchanged the same actions pass in turn and give the same table

  own-part : (a : Action) → action_part (with_own_mark mark a) ≡ action_part a
  own-part (install c) = refl
  own-part (update c) = refl
  own-part (remove part) = refl

  touched-own : (part : ℕ) (listed : List Action) → touched part (map (with_own_mark mark) listed) ≡ touched part listed
  unfolding touched
  touched-own part [] = refl
  touched-own part (a ∷ rest) = ap₂ ◌||◌ (ap (eqb part) (own-part a)) (touched-own part rest)

  passes-own : (staged : Table) (listed : List Action) (a : Action)
      → passes staged (map (with_own_mark mark) listed) (with_own_mark mark a) ≡ passes staged listed a
  unfolding passes action_refusals
  passes-own staged listed a =
      ap none_applies
      (own-mark-refusals staged (map (with_own_mark mark) listed) a
      ∙ ap (λ (b : Bool). (refuse 11 when b) ∷ staged_refusals (find (action_part a) staged) (length staged) a) (touched-own (action_part a) listed))

  pub own-marks-table : (t : Table) (acts : List Action) → apply_all t (map (with_own_mark mark) acts) ≡ apply_all t acts
  unfolding apply_all
  own-marks-table t [] = refl
  own-marks-table t (a ∷ acts) = own-marks-table (apply (with_own_mark mark a) t) acts ∙ ap (λ (s : Table). apply_all s acts) (own-mark-table a t)

  pub own-marks-in-turn : (t : Table) (listed acts : List Action)
      → pass_in_turn t (map (with_own_mark mark) listed) (map (with_own_mark mark) acts) ≡ pass_in_turn t listed acts
  unfolding pass_in_turn
  own-marks-in-turn t listed [] = refl
  own-marks-in-turn t listed (a ∷ acts) =
      ap₂ ◌&&◌ (passes-own t listed a)
      (ap₂ (λ (s : Table) (l : List Action). pass_in_turn s l (map (with_own_mark mark) acts)) (own-mark-table a t) (sym (map-append (with_own_mark mark) listed (a ∷ [])))
      ∙ own-marks-in-turn (apply a t) (listed ++ a ∷ []) acts)

-- ---- the marks of the table

own-kept : (t : Table) (a : Action) → cluster_present (find (action_part a) t) a ≡ false → cluster_absent (find (action_part a) t) a ≡ false
    → cluster_stays (find (action_part a) t) a ≡ false → is_marked (find (action_part a) (apply a t)) ≡ is_marked (find (action_part a) t)
unfolding cluster_present cluster_absent cluster_stays apply
own-kept t (install c) h12 h13 h21 =
    let absent : find c.part t ≡ none = not-staged (find c.part t) h12 in
    ap is_marked (insert-same (with_mark c false) t absent) ∙ sym (ap is_marked absent)
own-kept t (update c) h12 h13 h21 =
    let old = staged-is (find c.part t) (not-false _ h13) in
    ap is_marked (replace-same c old.0 t old.1) ∙ sym (ap is_marked old.1)
own-kept t (remove part) h12 h13 h21 = ap is_marked (take-out-same part t) ∙ sym h21

-- an action that passes leaves every mark as it is: a marked cluster is still there and marked, and no other is marked
pub apply-marks : (t : Table) (listed : List Action) (a : Action) → passes t listed a ≡ true → (part : ℕ)
    → is_marked (find part (apply a t)) ≡ is_marked (find part t)
apply-marks t listed a h part =
    let p = passes-says t listed a h in
    bool_cases (eqb part (action_part a))
    (λ same. subst (λ (k : ℕ). is_marked (find k (apply a t)) ≡ is_marked (find k t)) (sym (eqb-true part (action_part a) same))
    (own-kept t a p.not-present p.not-absent p.may-go))
    λ other. ap is_marked (apply-other a t part other)

-- and so do actions that pass in turn
pub pass-in-turn-marks : (t : Table) (listed acts : List Action) → pass_in_turn t listed acts ≡ true → (part : ℕ)
    → is_marked (find part (apply_all t acts)) ≡ is_marked (find part t)
unfolding pass_in_turn apply_all
pass-in-turn-marks t listed [] h part = refl
pass-in-turn-marks t listed (a ∷ acts) h part =
    pass-in-turn-marks (apply a t) (listed ++ a ∷ []) acts (and_right (passes t listed a) _ h) part ∙ apply-marks t listed a (and_left _ _ h) part

-- ---- 21 alone

-- the numbers of the refusals that apply, in their order
abbrev pub applying : List Refusal → List ℕ
applying [] = []
applying (r ∷ rs) = let rest = applying rs in cond r.applies (r.number ∷ rest) rest

-- a list of refusals refuses by this number, and no other of it applies
pub record OnlyBy (number : ℕ) (rs : List Refusal) : Type 0 where
  pub first : first_refusal rs ≡ some number
  pub alone : applying rs ≡ number ∷ []

-- a remove of a staged cluster that is marked and that the list does not touch
pub stays-alone : (staged : Table) (listed : List Action) (part : ℕ) (d : Cluster) → find part staged ≡ some d → d.stays ≡ true
    → touched part listed ≡ false → OnlyBy 21 (action_refusals staged listed (remove part))
unfolding first_refusal action_refusals cluster_present cluster_absent cluster_stays old_version table_full
stays-alone staged listed part d found mark untouched = record { first = rw (untouched, found, mark); alone = rw (untouched, found, mark) }
