-- An accepted Load gives a sound state, with no package, on the store filled with 0; a bad one is refused by 20
-- and gives state and store back. Assumes nothing.
use mathlib.Core.Path.{◌≡◌, refl}
use mathlib.Core.Bool.{Bool, true, false, not, cond, ◌&&◌, true≢false, false≢true}
use mathlib.Core.List.{List, []}
use mathlib.Core.Logic.{◌↔◌}
use mathlib.Core.Option.{Option, none, some}
use Prim.Native.Nat.{ℕ, ◌≤◌}
use native.Mathlib.Omega.{arith}
use lib.Dec.{leb}
use lib.ListN.{length, replicate, length-replicate}
use borrow.Author.Tests.{leb-true, ltb-false, not-false, le-leb, le-ltb}
use Rattle.base.specs.Refusals.{first_refusal}
use Rattle.base.proofs.Tests.{and_left, and_right, or_left_false, or_right_false}
use Rattle.clusters.specs.Table.{Table, table_within}
use Rattle.actions.specs.Refusals.{pass_in_turn}
use Rattle.actions.specs.Action.{actions_within}
use Rattle.cluster_list.specs.Read.{read_list}
use Rattle.cluster_list.proofs.Within.{read_list-within}
use Rattle.model.specs.State.{State, Store, idle}
use Rattle.model.specs.Calls.{accepted, done, refused}
use Rattle.model.specs.Areas.{declared, count_in}
use Rattle.model.specs.Sound.{store_most, id_most, packages_rise, processed_as_listed, list_fits, sound}
use Rattle.model.specs.Step.{Outcome, outcome, unless_refused}
use Rattle.model.specs.Load.{is_none, table_or_empty, is_bad_load, loaded_state, load}
use Rattle.model.proofs.soundness.SoundFacts.{Sound, sound-is}
use Rattle.model.proofs.soundness.KeptValues.{cleared-is}

pub loaded-sound : (table : Table) (first : ℕ) (store : Store) → table_within table ≡ true → 1 ≤ first → first ≤ id_most
    → length store ≤ store_most → Sound (loaded_state table first) store
unfolding declared packages_rise actions_within pass_in_turn count_in processed_as_listed list_fits
loaded-sound table first store within one most room =
    record {
      room = room;
      fit = omega arith;
      few = omega arith;
      begun = one;
      ids = omega arith;
      rise = refl;
      beginning = within;
      within = refl;
      turn = refl;
      entries = refl;
      listed = refl;
      kept_values = cleared-is idle _ [] refl;
      processing = refl;
      fits = refl;
    }

-- the list that was read
pub read_some : (o : Option Table) → is_none o ≡ false → o ≡ some (table_or_empty o)
read_some none h = absurd (true≢false h)
read_some (some table) h = refl

module _ (s : State) (list : List ℕ) (first : ℕ) (store : Store) where
  -- a Load that is not refused
  pub record Loads : Type 0 where
    pub read : read_list list ≡ some (table_or_empty (read_list list))
    pub least : 1 ≤ first
    pub most : first ≤ id_most
    pub room : length store ≤ store_most

  pub loads-says : is_bad_load list first store ≡ false → Loads
  unfolding is_bad_load
  loads-says h =
      let rest = or_right_false (is_none (read_list list)) _ h in
      let ids = not-false _ (or_left_false (not (leb 1 first && leb first id_most)) _ rest) in
      record {
        read = read_some (read_list list) (or_left_false _ _ h);
        least = leb-true _ _ (and_left _ _ ids);
        most = leb-true _ _ (and_right (leb 1 first) _ ids);
        room = ltb-false _ _ (or_right_false (not (leb 1 first && leb first id_most)) _ rest);
      }

  abbrev load_answered : Outcome
  load_answered = outcome done (loaded_state (table_or_empty (read_list list)) first) (replicate (length store) 0)

  -- what an accepted Load gives
  pub load_is : is_bad_load list first store ≡ false
      → load s list first store ≡ outcome done (loaded_state (table_or_empty (read_list list)) first) (replicate (length store) 0)
  unfolding load first_refusal
  load_is h = rw h

  pub load-sound : is_bad_load list first store ≡ false → sound (load s list first store).state (load s list first store).store ≡ true
  load-sound h =
      let l = loads-says h in
      let table = table_or_empty (read_list list) in
      rw (load_is h) (sound-is (loaded_state table first) (replicate (length store) 0)
      (loaded-sound table first (replicate (length store) 0) (read_list-within list table l.read) l.least l.most (rw (length-replicate {A = ℕ} (length store) 0) l.room)))

  -- a Load that was answered was not refused
  pub load-accepted : (load s list first store).reply ≡ accepted done → is_bad_load list first store ≡ false
  unfolding load first_refusal
  load-accepted = go (is_bad_load list first store)
    where
      go : (b : Bool)
          → (unless_refused s store (cond b (some 20) none) load_answered).reply ≡ accepted done
          → b ≡ false
      go true e = cc
      go false e = refl

  -- a Load is refused exactly when it is a bad one, by 20
  pub load-refused : (number : ℕ) → ((load s list first store).reply ≡ refused number) ↔ ((number ≡ 20) × (is_bad_load list first store ≡ true))
  unfolding load first_refusal
  load-refused number = go (is_bad_load list first store)
    where
      go : (b : Bool) → ((unless_refused s store (cond b (some 20) none) load_answered).reply ≡ refused number) ↔ ((number ≡ 20) × (b ≡ true))
      go true = (λ e. (cc, refl), λ h. cc)
      go false = (λ e. absurd (let z : ◌≡◌ {A = ℕ} 0 1 = cc in omega arith), λ h. absurd (false≢true h.1))

  -- a refused Load gives state and store back as they were
  pub load-gives-back : (number : ℕ) → (load s list first store).reply ≡ refused number
      → ((load s list first store).state ≡ s) × ((load s list first store).store ≡ store)
  unfolding load first_refusal
  load-gives-back number e = rw ((load-refused number).0 e).1 (refl, refl)

  -- a well-formed list, an id and a store within their limits are not refused
  pub loads-is : (table : Table) → read_list list ≡ some table → 1 ≤ first → first ≤ id_most → length store ≤ store_most
      → is_bad_load list first store ≡ false
  unfolding is_bad_load
  loads-is table read least most room = rw (read, le-leb 1 first least, le-leb first id_most most, le-ltb store_most (length store) room)
