-- Soundness, a test in the definitions, as a record of named facts: taken apart and put together. Assumes nothing.
use mathlib.Core.Path.{◌≡◌, ap}
use mathlib.Core.Bool.{true, cond}
use mathlib.Core.List.{List, [], ◌∷◌}
use native.Mathlib.Omega.{arith}
use Prim.Native.Nat.{ℕ, ◌+◌, ◌≤◌, ◌<◌}
use lib.Dec.{leb, ltb, eqb}
use lib.ListN.{length}
use borrow.Author.Tests.{ltb-true, leb-true, eqb-true, lt-ltb, le-leb, eq-eqb}
use Rattle.base.proofs.Tests.{and_left, and_right, and_both}
use Rattle.checksum.specs.Sum.{sums_within}
use Rattle.clusters.specs.Table.{table_within}
use Rattle.actions.specs.Refusals.{passes, pass_in_turn}
use Rattle.actions.specs.Action.{action_within, actions_within}
use Rattle.package_heading.specs.Heading.{sum_most}
use Rattle.model.specs.State.{Package, is_processing, Session, Work, State, Store, actions}
use Rattle.model.specs.Areas.{declared, package_of, is_being_processed, is_processed, count_in, processing_id}
use Rattle.model.specs.Tables.{staged}
use Rattle.model.specs.Sound.{store_most, packages_most, id_most, store_sound, received_sound, package_sound, packages_rise, transfers_sound, processed_as_listed, list_sound, session_sound, work_sound, kept_sound, processing_sound, list_fits, sound_for, sound}

-- ---- a package, and those behind it

pub record Rises (last next : ℕ) (p : Package) (ps : List Package) : Type 0 where
  pub over : last < p.id
  pub below : p.id < next
  pub sized : 1 ≤ p.size
  pub received : received_sound p ≡ true
  pub blocks : p.blocks ≤ p.received
  pub rest : packages_rise p.id next ps ≡ true

pub rises-says : (last next : ℕ) (p : Package) (ps : List Package) → packages_rise last next (p ∷ ps) ≡ true → Rises last next p ps
unfolding packages_rise package_sound
rises-says last next p ps h =
    let below = and_right (ltb last p.id) _ h in
    let own = and_right (ltb p.id next) _ below in
    let alone = and_left (package_sound p) _ own in
    let sized = and_right (leb 1 p.id) _ alone in
    let received = and_right (leb 1 p.size) _ sized in
    record {
      over = ltb-true _ _ (and_left _ _ h);
      below = ltb-true _ _ (and_left _ _ below);
      sized = leb-true _ _ (and_left _ _ sized);
      received = and_left (received_sound p) _ received;
      blocks = leb-true _ _ (and_right (received_sound p) _ received);
      rest = and_right (package_sound p) _ own;
    }

pub rises-is : (last next : ℕ) (p : Package) (ps : List Package) → Rises last next p ps → packages_rise last next (p ∷ ps) ≡ true
unfolding packages_rise package_sound
rises-is last next p ps r =
    and_both (ltb last p.id) _ (lt-ltb _ _ r.over)
    (and_both (ltb p.id next) _ (lt-ltb _ _ r.below)
    (and_both (package_sound p) _
    (and_both (leb 1 p.id) _ (le-leb 1 p.id (omega (arith, r.over)))
    (and_both (leb 1 p.size) _ (le-leb _ _ r.sized)
    (and_both (received_sound p) _ r.received (le-leb _ _ r.blocks))))
    r.rest))

-- ---- the kept values

pub record WorkFacts (session : Session) (packages : List Package) (w : Work) : Type 0 where
  pub within : action_within w.action ≡ true
  pub passed : passes (staged session) (actions session.listed) w.action ≡ true
  pub size : w.start + w.count ≡ (package_of (processing_id packages) packages).size
  pub done : w.done ≤ w.count
  pub sum : w.sum ≤ sum_most
  pub running_sums : sums_within w.running_sums ≡ true

module _ (session : Session) (packages : List Package) (w : Work) where
  pub work-says : work_sound session packages w ≡ true → WorkFacts session packages w
  unfolding work_sound
  work-says h =
      let passed = and_right (action_within w.action) _ h in
      let size = and_right (passes (staged session) (actions session.listed) w.action) _ passed in
      let done = and_right (eqb (w.start + w.count) (package_of (processing_id packages) packages).size) _ size in
      let sum = and_right (leb w.done w.count) _ done in
      record {
        within = and_left _ _ h;
        passed = and_left (passes (staged session) (actions session.listed) w.action) _ passed;
        size = eqb-true _ _ (and_left _ _ size);
        done = leb-true _ _ (and_left _ _ done);
        sum = leb-true _ _ (and_left _ _ sum);
        running_sums = and_right (leb w.sum sum_most) _ sum;
      }

  pub work-is : WorkFacts session packages w → work_sound session packages w ≡ true
  unfolding work_sound
  work-is f =
      and_both _ _ f.within
      (and_both _ _ f.passed
      (and_both _ _ (eq-eqb _ _ f.size) (and_both _ _ (le-leb _ _ f.done) (and_both _ _ (le-leb _ _ f.sum) f.running_sums))))

-- ---- a state with its store

pub record Sound (s : State) (store : Store) : Type 0 where
  pub room : length store ≤ store_most
  pub fit : declared s.transfers.packages ≤ length store
  pub few : length s.transfers.packages ≤ packages_most
  pub begun : 1 ≤ s.transfers.next
  pub ids : s.transfers.next ≤ id_most + 1
  pub rise : packages_rise 0 s.transfers.next s.transfers.packages ≡ true
  pub beginning : table_within s.session.beginning ≡ true
  pub within : actions_within (actions s.session.listed) ≡ true
  pub turn : pass_in_turn s.session.beginning [] (actions s.session.listed) ≡ true
  pub entries : length s.session.listed ≡ count_in is_processed s.transfers.packages
  pub listed : processed_as_listed s.session.listed s.transfers.packages ≡ true
  pub kept_values : kept_sound s.phase s.session s.transfers.packages s.work ≡ true
  pub processing : count_in is_being_processed s.transfers.packages ≡ cond (is_processing s.phase) 1 0
  pub fits : list_fits s.phase s.session.listed ≡ true

-- "The store's bytes play no part in it.": stores of one length are sound alike
pub sound-by-length : (s : State) (a b : Store) → length a ≡ length b → sound s a ≡ sound s b
sound-by-length s a b e = ap (sound_for s) e

module _ (s : State) (store : Store) where
  pub sound-says : sound s store ≡ true → Sound s store
  unfolding sound_for store_sound transfers_sound session_sound list_sound processing_sound
  sound-says h =
      let ps = s.transfers.packages in
      let store-sound = and_left (store_sound ps (length store)) _ h in
      let h = and_right (store_sound ps (length store)) _ h in
      let transfers = and_left (transfers_sound s.transfers) _ h in
      let begun = and_right (leb (length ps) packages_most) _ transfers in
      let ids = and_right (leb 1 s.transfers.next) _ begun in
      let h = and_right (transfers_sound s.transfers) _ h in
      let session = and_left (session_sound s.session) _ h in
      let acts = and_right (table_within s.session.beginning) _ session in
      let h = and_right (session_sound s.session) _ h in
      let list = and_left (list_sound s.session.listed ps) _ h in
      let h = and_right (list_sound s.session.listed ps) _ h in
      let phase = and_right (kept_sound s.phase s.session ps s.work) _ h in
      record {
        room = leb-true _ _ (and_left _ _ store-sound);
        fit = leb-true _ _ (and_right (leb (length store) store_most) _ store-sound);
        few = leb-true _ _ (and_left _ _ transfers);
        begun = leb-true _ _ (and_left _ _ begun);
        ids = leb-true _ _ (and_left _ _ ids);
        rise = and_right (leb s.transfers.next (id_most + 1)) _ ids;
        beginning = and_left _ _ session;
        within = and_left _ _ acts;
        turn = and_right (actions_within (actions s.session.listed)) _ acts;
        entries = eqb-true _ _ (and_left _ _ list);
        listed = and_right (eqb (length s.session.listed) (count_in is_processed ps)) _ list;
        kept_values = and_left _ _ h;
        processing = eqb-true _ _ (and_left _ _ phase);
        fits = and_right (processing_sound s.phase ps) _ phase;
      }

  pub sound-is : Sound s store → sound s store ≡ true
  unfolding sound_for store_sound transfers_sound session_sound list_sound processing_sound
  sound-is f =
      let ps = s.transfers.packages in
      and_both (store_sound ps (length store)) _ (and_both _ _ (le-leb _ _ f.room) (le-leb _ _ f.fit))
      (and_both (transfers_sound s.transfers) _
      (and_both _ _ (le-leb _ _ f.few) (and_both _ _ (le-leb _ _ f.begun) (and_both _ _ (le-leb _ _ f.ids) f.rise)))
      (and_both (session_sound s.session) _ (and_both _ _ f.beginning (and_both _ _ f.within f.turn))
      (and_both (list_sound s.session.listed ps) _ (and_both _ _ (eq-eqb _ _ f.entries) f.listed)
      (and_both (kept_sound s.phase s.session ps s.work) _ f.kept_values
      (and_both (processing_sound s.phase ps) _ (eq-eqb _ _ f.processing) f.fits)))))
