-- A list of actions that pass 11 to 15 and 21 in turn, and is not empty, changes the table: each cluster is touched once, and an
-- action that passes changes what is found of its own cluster and of no other. Assumes nothing.
use mathlib.Core.Path.{◌≡◌, refl, sym, ap, ◌∙◌}
use mathlib.Core.Bool.{Bool, true, false, not, ◌||◌}
use mathlib.Core.List.{List, [], ◌∷◌, ◌++◌}
use mathlib.Core.Option.{Option, none, some}
use Prim.Native.Nat.{ℕ}
use native.Mathlib.Omega.{arith}
use lib.Dec.{eqb, ltb}
use lib.ListN.{length}
use borrow.Author.Tests.{ltb-true, not-true, not-false, eq-eqb, ne_eqb}
use Rattle.base.specs.Refusals.{none_applies}
use Rattle.base.proofs.Tests.{and_left, and_right, or-first, clash, none-some}
use Rattle.text.specs.declared.version.Version.{Version}
use Rattle.clusters.specs.Version.{above}
use Rattle.clusters.specs.Cluster.{Cluster, with_mark}
use Rattle.clusters.specs.Table.{Table, find}
use Rattle.actions.specs.Action.{Action, install, update, remove, action_part, apply, apply_all}
use Rattle.actions.specs.Refusals.{touched, cluster_present, cluster_absent, cluster_stays, old_version, table_full, action_refusals, passes, pass_in_turn}
use Rattle.actions.proofs.StagedLaws.{not-staged, staged-is}
use Rattle.actions.proofs.Finding.{insert-other, replace-other, take-out-other, insert-same, replace-same, take-out-same}

-- what passing 11 to 15 and 21 says
pub record Passes (t : Table) (listed : List Action) (a : Action) : Type 0 where
  pub untouched : touched (action_part a) listed ≡ false
  pub not-present : cluster_present (find (action_part a) t) a ≡ false
  pub not-absent : cluster_absent (find (action_part a) t) a ≡ false
  pub may-go : cluster_stays (find (action_part a) t) a ≡ false
  pub newer : old_version (find (action_part a) t) a ≡ false
  pub room : table_full (length t) a ≡ false

pub passes-says : (t : Table) (listed : List Action) (a : Action) → passes t listed a ≡ true → Passes t listed a
unfolding passes action_refusals none_applies
passes-says t listed a h =
    let staged = find (action_part a) t in
    let h12 = and_right (not (touched (action_part a) listed)) _ h in
    let h13 = and_right (not (cluster_present staged a)) _ h12 in
    let h21 = and_right (not (cluster_absent staged a)) _ h13 in
    let h14 = and_right (not (cluster_stays staged a)) _ h21 in
    let h15 = and_right (not (old_version staged a)) _ h14 in
    record {
      untouched = not-true _ (and_left _ _ h);
      not-present = not-true _ (and_left _ _ h12);
      not-absent = not-true _ (and_left _ _ h13);
      may-go = not-true _ (and_left _ _ h21);
      newer = not-true _ (and_left _ _ h14);
      room = not-true _ (and_left _ _ h15);
    }

-- ---- an action that passes changes its cluster and no other

ltb-irrefl : (n : ℕ) → ltb n n ≡ true → ⊥
ltb-irrefl n h = omega (arith, ltb-true n n h)

-- no version is above itself
pub above-irrefl : (v : Version) → above v v ≡ true → ⊥
unfolding above
above-irrefl v e =
    ltb-irrefl v.fourth (rw (eq-eqb v.first v.first refl, eq-eqb v.second v.second refl, eq-eqb v.third v.third refl) at e)

newer-is : (c old : Cluster) (staged : Option Cluster) → staged ≡ some old → old_version staged (update c) ≡ false → above c.version old.version ≡ true
unfolding old_version
newer-is c old staged e h = not-false _ (rw e at h)

module _ (t : Table) where
  changed : (a : Action) → cluster_present (find (action_part a) t) a ≡ false → cluster_absent (find (action_part a) t) a ≡ false
      → old_version (find (action_part a) t) a ≡ false → find (action_part a) (apply a t) ≡ find (action_part a) t → ⊥
  unfolding cluster_present cluster_absent apply
  changed (install c) h12 h13 h14 e =
      let a : find c.part t ≡ none = not-staged (find c.part t) h12 in
      none-some (sym a ∙ sym e ∙ insert-same (with_mark c false) t a)
  changed (update c) h12 h13 h14 e =
      let w = staged-is (find c.part t) (not-false _ h13) in
      let q : w.0 ≡ with_mark c w.0.stays = cc (replace-same c w.0 t w.1, w.1) in
      let same : w.0.version ≡ c.version = ap (λ (d : Cluster). d.version) q in
      above-irrefl c.version (rw same at (newer-is c w.0 (find c.part t) w.1 h14))
  changed (remove part) h12 h13 h14 e =
      let w = staged-is (find part t) (not-false _ h13) in
      none-some (sym (take-out-same part t) ∙ e ∙ w.1)

pub apply-other : (a : Action) (t : Table) (part : ℕ) → eqb part (action_part a) ≡ false → find part (apply a t) ≡ find part t
unfolding apply
apply-other (install c) t part h = insert-other part (with_mark c false) h t
apply-other (update c) t part h = replace-other part c h t
apply-other (remove gone) t part h = take-out-other part gone h t

-- ---- actions in turn

-- touched by two lists, one behind the other
pub touched-append : (part : ℕ) (xs ys : List Action) → touched part (xs ++ ys) ≡ touched part xs || touched part ys
unfolding touched
touched-append part [] ys = refl
touched-append part (a ∷ xs) ys = go (eqb part (action_part a)) (touched-append part xs ys)
  where
    go : (b : Bool) → touched part (xs ++ ys) ≡ touched part xs || touched part ys → b || touched part (xs ++ ys) ≡ (b || touched part xs) || touched part ys
    go true e = refl
    go false e = e

pub touched-one : (part : ℕ) (a : Action) → touched part (a ∷ []) ≡ eqb part (action_part a)
unfolding touched
touched-one part a = go (eqb part (action_part a))
  where
    go : (b : Bool) → b || false ≡ b
    go true = refl
    go false = refl

touched-not : (listed : List Action) (part other : ℕ) → touched part listed ≡ true → touched other listed ≡ false → eqb part other ≡ false
touched-not listed part other e n = ne_eqb part other λ q. clash (rw q at e) n

-- what is touched stays as it is under actions that pass in turn
touched-kept : (acts listed : List Action) (t : Table) (part : ℕ) → touched part listed ≡ true → pass_in_turn t listed acts ≡ true → find part (apply_all t acts) ≡ find part t
unfolding pass_in_turn apply_all
touched-kept [] listed t part e h = refl
touched-kept (a ∷ acts) listed t part e h =
    let p = passes-says t listed a (and_left _ _ h) in
    let more : touched part (listed ++ a ∷ []) ≡ true = rw (touched-append part listed (a ∷ [])) (or-first _ _ e) in
    touched-kept acts (listed ++ a ∷ []) (apply a t) part more (and_right (passes t listed a) _ h)
    ∙ apply-other a t part (touched-not listed part (action_part a) e p.untouched)

differs : (t : Table) (a : Action) (acts : List Action) → pass_in_turn t [] (a ∷ acts) ≡ true → apply_all t (a ∷ acts) ≡ t → ⊥
unfolding pass_in_turn apply_all
differs t a acts h e =
    let part = action_part a in
    let p = passes-says t [] a (and_left _ _ h) in
    let own : touched part (a ∷ []) ≡ true = touched-one part a ∙ eq-eqb part part refl in
    changed t a p.not-present p.not-absent p.newer (sym (touched-kept acts (a ∷ []) (apply a t) part own (and_right (passes t [] a) _ h)) ∙ ap (find part) e)

-- a list of actions that pass 11 to 15 and 21 in turn, and is not empty, gives another table than the one it began with
pub passed-changes : (t : Table) (acts : List Action) → pass_in_turn t [] acts ≡ true → (acts ≡ [] → ⊥) → apply_all t acts ≡ t → ⊥
passed-changes t [] h n e = n refl
passed-changes t (a ∷ acts) h n e = differs t a acts h e
