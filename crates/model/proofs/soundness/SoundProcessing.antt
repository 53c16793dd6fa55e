-- Soundness when processing begins, goes on and ends. Assumes nothing.
use mathlib.Core.Path.{◌≡◌, refl, sym, ap, ◌∙◌}
use mathlib.Core.Bool.{Bool, true, false, ◌||◌}
use mathlib.Core.List.{List, [], ◌∷◌, ◌++◌}
use mathlib.Core.Option.{none, some}
use Prim.Native.Nat.{ℕ, ◌+◌, ◌≤◌}
use native.Mathlib.Omega.{arith}
use lib.Dec.{eqb}
use lib.ListN.{length, length-append}
use borrow.Author.Tests.{eqb-false, eq-eqb, ne_eqb}
use Rattle.base.proofs.Tests.{and_both, or-second}
use Rattle.actions.specs.Action.{Action, action_within, actions_within}
use Rattle.actions.specs.Refusals.{passes, pass_in_turn}
use Rattle.actions.proofs.InTurn.{pass-in-turn-last, actions-within-last}
use Rattle.manifest.specs.Package.{Manifest}
use Rattle.package_heading.specs.Heading.{sum_most}
use Rattle.model.specs.State.{PackageState, transferred, being_processed, processed, Package, processing, is_processing, Entry, Work, State, state, Store, actions}
use Rattle.model.specs.Areas.{find, in_state, changed, is_transferring, is_being_processed, is_processed, count_in, processing_id}
use Rattle.model.specs.Tables.{staged}
use Rattle.model.specs.Sound.{is_listed, kept_sound, list_fits}
use Rattle.model.specs.Step.{with_packages, work_at_start, work_on, with_cancel_noted, phase_after, listed_with}
use Rattle.model.proofs.soundness.SoundFacts.{WorkFacts, Sound}
use Rattle.model.proofs.soundness.Packages.{Fine, found-fine, rise-changed}
use Rattle.model.proofs.soundness.FinePackage.{processing-is, whole, fine-in-state}
use Rattle.model.proofs.soundness.Counts.{one, count-changed}
use Rattle.model.proofs.soundness.ProcessingPackage.{ProcessingPackage, processing-found, size_of, processing-size}
use Rattle.model.proofs.soundness.OfProcessing.{of-begun}
use Rattle.model.proofs.soundness.Listed.{listed-joined, tied-found, tied-changed}
use Rattle.model.proofs.soundness.KeptValues.{kept-in-processing, kept-says, kept-is, cleared-is, begun-facts, continued-facts, noted-facts}
use Rattle.model.proofs.soundness.SoundTransfers.{changed-sound}

-- ---- the phase after processing

after-not-processing : (entries : List Entry) → is_processing (phase_after entries) ≡ false
after-not-processing [] = refl
after-not-processing (e ∷ entries) = refl

after-fits : (entries : List Entry) → list_fits (phase_after entries) entries ≡ true
unfolding list_fits
after-fits [] = refl
after-fits (e ∷ entries) = refl

fits-processing : (entries : List Entry) → list_fits processing entries ≡ true
unfolding list_fits
fits-processing [] = refl
fits-processing (e ∷ entries) = refl

-- ---- an entry behind the list

actions-joined : (entries : List Entry) (e : Entry) → actions (entries ++ e ∷ []) ≡ actions entries ++ e.action ∷ []
actions-joined [] e = refl
actions-joined (d ∷ entries) e = ap (λ (l : List Action). d.action ∷ l) (actions-joined entries e)

or-false : (b : Bool) → b || false ≡ b
or-false true = refl
or-false false = refl

module _ (s : State) (store : Store) (ok : Sound s store) where
  -- processing begins on a Transferred package
  pub begun-sound : (id : ℕ) (p : Package) (m : Manifest) → is_processing s.phase ≡ false → find id s.transfers.packages ≡ some p
      → p.state ≡ transferred
      → action_within m.action ≡ true → passes (staged s.session) (actions s.session.listed) m.action ≡ true → m.start + m.count ≡ p.size → m.sum ≤ sum_most
      → Sound (state processing (with_packages (changed id (in_state being_processed) s.transfers.packages) s.transfers) s.session (some (work_at_start m))) store
  begun-sound id p m outside e is within passed size sum =
      let ps = s.transfers.packages in
      let next = s.transfers.next in
      let change : Package → Package = in_state being_processed in
      let fine : Fine next p = found-fine 0 next id ps p ok.rise e in
      let fine' : Fine next p → Fine next (change p) = fine-in-state p being_processed next (whole p (ap is_transferring is) fine.received) in
      let rise = rise-changed id change (λ q. refl) 0 next ps p e fine' ok.rise in
      let none-being : count_in is_being_processed ps ≡ 0 = ok.processing ∙ ap one outside in
      let sized = processing-size 0 next (changed id change ps) rise ∙ of-begun size_of id change (λ q. refl) ps p e none-being refl in
      let unlisted : false ≡ is_listed id s.session.listed = sym (ap is_processed is) ∙ tied-found s.session.listed id ps p ok.listed e in
      changed-sound s store ok id change (λ q. refl) (λ q. refl) p e fine' processing s.session (some (work_at_start m))
      ok.beginning ok.within ok.turn
      (omega (arith, ok.entries, count-changed is_processed id change ps p e, ap (λ (x : PackageState). one (is_processed x)) is))
      (tied-changed s.session.listed s.session.listed id (λ j o. refl) change (λ q. refl) 0 next ps p ok.rise e unlisted ok.listed)
      (kept-is processing s.session (changed id change ps) (work_at_start m) refl (begun-facts s.session (changed id change ps) m within passed (size ∙ sym sized) sum))
      (omega (arith, none-being, count-changed is_being_processed id change ps p e, ap (λ (x : PackageState). one (is_being_processed x)) is))
      (fits-processing s.session.listed)

  module _ (w : Work) (is-kept : kept_sound s.phase s.session s.transfers.packages (some w) ≡ true) where
    -- processing goes on with other kept values
    with-work : (w' : Work) → WorkFacts s.session s.transfers.packages w'
        → Sound (state s.phase s.transfers s.session (some w')) store
    with-work w' f =
        record {
          room = ok.room;
          fit = ok.fit;
          few = ok.few;
          begun = ok.begun;
          ids = ok.ids;
          rise = ok.rise;
          beginning = ok.beginning;
          within = ok.within;
          turn = ok.turn;
          entries = ok.entries;
          listed = ok.listed;
          kept_values = kept-is s.phase s.session s.transfers.packages w' (kept-in-processing s.phase s.session s.transfers.packages w is-kept) f;
          processing = ok.processing;
          fits = ok.fits;
        }

    facts : WorkFacts s.session s.transfers.packages w
    facts = kept-says s.phase s.session s.transfers.packages w is-kept

    pub continued-sound : (n : ℕ) (area : List ℕ) → Sound (state s.phase s.transfers s.session (some (work_on w n area))) store
    continued-sound n area = with-work (work_on w n area) (continued-facts s.session s.transfers.packages w n area facts)

    pub noted-sound : Sound (state s.phase s.transfers s.session (some (with_cancel_noted w))) store
    noted-sound = with-work (with_cancel_noted w) (noted-facts s.session s.transfers.packages w facts)

    -- the package that is processing
    one-processing : count_in is_being_processed s.transfers.packages ≡ 1
    one-processing = ok.processing ∙ ap one (kept-in-processing s.phase s.session s.transfers.packages w is-kept)

    being : ProcessingPackage s.transfers.packages
    being = processing-found 0 s.transfers.next s.transfers.packages ok.rise (omega (arith, one-processing))

    -- processing ends: the package goes to a state, and an entry may join the list
    ended-sound : (package_state : PackageState) (entries : List Entry) → is_being_processed package_state ≡ false
        → actions_within (actions entries) ≡ true
        → pass_in_turn s.session.beginning [] (actions entries) ≡ true
        → length entries ≡ length s.session.listed + one (is_processed package_state)
        → is_processed package_state ≡ is_listed (processing_id s.transfers.packages) entries
        → ((j : ℕ) → eqb (processing_id s.transfers.packages) j ≡ false → is_listed j entries ≡ is_listed j s.session.listed)
        → Sound (state (phase_after entries) (with_packages (changed (processing_id s.transfers.packages) (in_state package_state) s.transfers.packages) s.transfers) (record { beginning = s.session.beginning; listed = entries }) none) store
    ended-sound package_state entries out within turn count own others =
        let ps = s.transfers.packages in
        let next = s.transfers.next in
        let id = processing_id ps in
        let change : Package → Package = in_state package_state in
        let p = being.found in
        let e = being.here in
        let is : p.state ≡ being_processed = processing-is p.state being.being in
        let fine : Fine next p = found-fine 0 next id ps p ok.rise e in
        changed-sound s store ok id change (λ q. refl) (λ q. refl) p e
        (fine-in-state p package_state next (whole p (ap is_transferring is) fine.received))
        (phase_after entries) (record { beginning = s.session.beginning; listed = entries }) none
        ok.beginning within turn
        (omega (arith, count, ok.entries, count-changed is_processed id change ps p e, ap (λ (x : PackageState). one (is_processed x)) is))
        (tied-changed s.session.listed entries id others change (λ q. refl) 0 next ps p ok.rise e own ok.listed)
        (cleared-is (phase_after entries) (record { beginning = s.session.beginning; listed = entries }) (changed id change ps) (after-not-processing entries))
        (omega (arith, one-processing, count-changed is_being_processed id change ps p e, ap (λ (x : PackageState). one (is_being_processed x)) is, ap one out, ap one (after-not-processing entries)))
        (after-fits entries)

    unlisted : is_listed (processing_id s.transfers.packages) s.session.listed ≡ false
    unlisted =
        sym (tied-found s.session.listed (processing_id s.transfers.packages) s.transfers.packages being.found ok.listed being.here)
        ∙ ap is_processed (processing-is being.found.state being.being)

    -- without an entry: Cancelled or Inconsistent
    pub left-sound : Sound (state (phase_after s.session.listed) (with_packages (changed (processing_id s.transfers.packages) (in_state transferred) s.transfers.packages) s.transfers) (record { beginning = s.session.beginning; listed = s.session.listed }) none) store
    left-sound = ended-sound transferred s.session.listed refl ok.within ok.turn (omega arith) (sym unlisted) (λ j o. refl)

    -- with the kept action listed: Processed
    pub processed-sound : Sound (state (phase_after (listed_with s store w)) (with_packages (changed (processing_id s.transfers.packages) (in_state processed) s.transfers.packages) s.transfers) (record { beginning = s.session.beginning; listed = listed_with s store w }) none) store
    processed-sound =
        let id = processing_id s.transfers.packages in
        let entries = s.session.listed in
        let entry : Entry = record { id = id; action = w.action } in
        ended-sound processed (listed_with s store w) refl
        (rw (actions-joined entries entry, actions-within-last (actions entries) w.action) (and_both _ _ ok.within facts.within))
        (rw (actions-joined entries entry, pass-in-turn-last s.session.beginning [] (actions entries) w.action) (and_both _ _ ok.turn (unfold staged in facts.passed)))
        (length-append entries (entry ∷ []))
        (sym (listed-joined id entries entry ∙ or-second (is_listed id entries) _ (eq-eqb id id refl)))
        (λ j o. listed-joined j entries entry ∙ rw (ne_eqb j id λ z. eqb-false id j o (sym z)) (or-false (is_listed j entries)))
