-- One turn of the loop over the listed actions: what the columns of the table and of the list say of the entry at i. Assumes nothing.
use Prim.Native.Nat.{ℕ, ◌+◌, ◌≤◌, ◌<◌}
use mathlib.Core.Path.{◌≡◌, refl, sym, ap, ◌∙◌}
use mathlib.Core.Bool.{Bool, true, false, not}
use mathlib.Core.List.{List, [], ◌∷◌, ◌++◌, map}
use native.Mathlib.Omega.{arith}
use native.Mathlib.Numerals.{add-one}
use lib.Dec.{eqb}
use lib.ListN.{length, take, drop, get_or, length-map, length-take, get_or-map}
use lib.Seq.{get_or-take, take-suc, take-take}
use Rattle.std.specs.Prelude.{Result, Ok, Err}
use Rattle.std.specs.Result.{is_err}
use Rattle.base.specs.Refusals.{first_refusal, none_applies}
use Rattle.base.proofs.Refusals.{accepted-none, none-accepted}
use Rattle.base.proofs.Tests.{bool_cases, none-some}
use Rattle.refusal.specs.declared.Refusal.{Refusal}
use Rattle.refusal.specs.Number.{refused_with}
use Rattle.base.proofs.Counted.{from_step}
use Rattle.clusters.specs.Table.{Table, find}
use Rattle.clusters.specs.View.{view_cluster}
use Rattle.actions.specs.Action.{Action, install, update, remove, action_part}
use Rattle.actions.specs.Refusals.{touched, staged_refusals}
use Rattle.actions.proofs.StagedLaws.{part_of}
use Rattle.actions.proofs.Arrays.{map-take}
use Rattle.state.specs.declared.session.Entry.{Entry}
use Rattle.listed_actions.specs.Listed.{is_among, entry_action, listed_actions, entry_part}
use Rattle.listed_actions.specs.InTurn.{passes_untouched, staged_after, pass_in_turn_on}

-- ---- 12 to 15 and 21 by what is found in the columns

-- the check refuses exactly where the action does not pass
pub refused-untouched : (t : Table) (n : ℕ) (a : Action) (part : ℕ) (r : Result (Unit {0}) Refusal) → part ≡ action_part a
    → refused_with r ≡ first_refusal (staged_refusals (find part t) n a) → is_err r ≡ not (passes_untouched t n a)
unfolding passes_untouched
refused-untouched t n a part (Ok value) same told =
    sym (ap not (none-accepted (staged_refusals (find (action_part a) t) n a) (sym (rw same at told))))
refused-untouched t n a part (Err refusal) same told =
    let rs = staged_refusals (find (action_part a) t) n a in
    bool_cases (none_applies rs) (λ h. none-some (sym (accepted-none rs h) ∙ sym (rw same at told))) λ h. sym (ap not h)

-- ---- the list's columns

pub at-most-one-more : (a : Action) (n : ℕ) → staged_after a n ≤ n + 1
unfolding staged_after
at-most-one-more (install c) n = omega arith
at-most-one-more (update c) n = omega arith
at-most-one-more (remove part) n = omega arith

entry-part : (e : Entry) → action_part (entry_action e) ≡ entry_part e
entry-part e = part_of e.action.change (view_cluster e.action.cluster)

pub among-touched : (part : ℕ) (es : List Entry) → is_among part (map entry_part es) ≡ touched part (map entry_action es)
unfolding is_among touched
among-touched part [] = refl
among-touched part (e ∷ es) = rw (entry-part e, among-touched part es)

-- the first i of the column of part numbers, and those of the list
column-touched : (part count i : ℕ) (parts : List ℕ) (entries : List Entry) → i ≤ count → take count parts ≡ map entry_part (take count entries)
    → is_among part (take i parts) ≡ touched part (take i (listed_actions entries count))
column-touched part count i parts entries h e =
    let es = take i (take count entries) in
    let a : take i parts ≡ map entry_part es = sym (take-take i count parts h) ∙ ap (λ (l : List ℕ). take i l) e ∙ sym (map-take entry_part i (take count entries)) in
    ap (is_among part) a ∙ among-touched part es ∙ ap (touched part) (map-take entry_action i (take count entries))

-- the first i + 1 of the list
one-more-listed : (entries : List Entry) (count i : ℕ) (d : Entry) → count ≤ length entries → i < count
    → take (i + 1) (listed_actions entries count) ≡ take i (listed_actions entries count) ++ entry_action (get_or entries i d) ∷ []
one-more-listed entries count i d le h =
    let l : i < length (listed_actions entries count) = omega (arith, length-map (take count entries) entry_action, length-take count entries) in
    rw add-one (take-suc (listed_actions entries count) i (entry_action d) l)
    ∙ ap (λ (a : Action). take i (listed_actions entries count) ++ a ∷ []) (get_or-map entry_action (take count entries) i d ∙ ap entry_action (get_or-take count entries i d h))

-- ---- a turn of the loop

module _ (b : Table) (n : ℕ) (listed : List Action) (a : Action) (rest : List Action) where
  turn-touched : touched (action_part a) listed ≡ true → pass_in_turn_on b n listed (a ∷ rest) ≡ false
  unfolding pass_in_turn_on
  turn-touched u = rw u

  turn-refused : touched (action_part a) listed ≡ false → passes_untouched b n a ≡ false → pass_in_turn_on b n listed (a ∷ rest) ≡ false
  unfolding pass_in_turn_on
  turn-refused u p = rw (u, p)

  turn-passed : touched (action_part a) listed ≡ false → passes_untouched b n a ≡ true
      → pass_in_turn_on b n listed (a ∷ rest) ≡ pass_in_turn_on b (staged_after a n) (listed ++ a ∷ []) rest
  unfolding pass_in_turn_on
  turn-passed u p = rw (u, p)

-- `whole` is what is asked of the whole list, and the entry at i is the next; d stands in for places past the array
module _ (b : Table) (entries : List Entry) (count i n : ℕ) (parts : List ℕ) (le : count ≤ length entries) (h : i < count)
    (column : take count parts ≡ map entry_part (take count entries)) (d : Entry) (whole : Bool)
    (so_far : whole ≡ pass_in_turn_on b n (take i (listed_actions entries count)) (drop i (listed_actions entries count))) where
  here : whole ≡ pass_in_turn_on b n (take i (listed_actions entries count)) (entry_action (get_or entries i d) ∷ drop (i + 1) (listed_actions entries count))
  here = so_far ∙ ap (λ (l : List Action). pass_in_turn_on b n (take i (listed_actions entries count)) l) (from_step entry_action entries count le i d h)

  touched-here : is_among (entry_part (get_or entries i d)) (take i parts) ≡ touched (action_part (entry_action (get_or entries i d))) (take i (listed_actions entries count))
  touched-here =
      column-touched _ count i parts entries (omega arith) column
      ∙ ap (λ (p : ℕ). touched p (take i (listed_actions entries count))) (sym (entry-part (get_or entries i d)))

  pub stops-touched : is_among (entry_part (get_or entries i d)) (take i parts) ≡ true → false ≡ whole
  stops-touched u = sym (here ∙ turn-touched b n _ _ _ (sym touched-here ∙ u))

  pub stops-refused : is_among (entry_part (get_or entries i d)) (take i parts) ≡ false → passes_untouched b n (entry_action (get_or entries i d)) ≡ false → false ≡ whole
  stops-refused u p = sym (here ∙ turn-refused b n _ _ _ (sym touched-here ∙ u) p)

  pub goes_on : is_among (entry_part (get_or entries i d)) (take i parts) ≡ false → passes_untouched b n (entry_action (get_or entries i d)) ≡ true
      → whole ≡ pass_in_turn_on b (staged_after (entry_action (get_or entries i d)) n) (take (i + 1) (listed_actions entries count)) (drop (i + 1) (listed_actions entries count))
  goes_on u p =
      here ∙ turn-passed b n _ _ _ (sym touched-here ∙ u) p
      ∙ ap (λ (l : List Action). pass_in_turn_on b (staged_after (entry_action (get_or entries i d)) n) l (drop (i + 1) (listed_actions entries count))) (sym (one-more-listed entries count i d le h))
