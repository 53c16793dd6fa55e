-- Soundness when packages change: a package started, one changed, some kept by a choice. Assumes nothing.
use mathlib.Core.Path.{◌≡◌, refl, sym, ap, ◌∙◌}
use mathlib.Core.Bool.{Bool, true}
use mathlib.Core.List.{List, [], ◌∷◌, ◌++◌}
use mathlib.Core.Option.{Option, some}
use Prim.Native.Nat.{ℕ, ◌+◌, ◌≤◌, ◌<◌}
use native.Mathlib.Omega.{arith}
use lib.ListN.{length, length-append}
use Rattle.clusters.specs.Table.{table_within}
use Rattle.actions.specs.Refusals.{pass_in_turn}
use Rattle.actions.specs.Action.{actions_within}
use Rattle.model.specs.State.{Package, Phase, is_processing, Session, Work, State, state, Store, actions}
use Rattle.model.specs.Areas.{declared, free, find, remaining, new_package, changed, is_being_processed, is_processed, count_in}
use Rattle.model.specs.Sound.{packages_most, id_most, packages_rise, processed_as_listed, kept_sound, list_fits}
use Rattle.model.specs.Step.{with_packages}
use Rattle.model.proofs.soundness.SoundFacts.{Sound}
use Rattle.model.proofs.soundness.Packages.{Fine, rise-started, rise-kept, rise-changed, declared-started, declared-changed, declared-kept, length-changed, length-kept}
use Rattle.model.proofs.soundness.Counts.{one, count-started, count-changed, keeps_all, count_kept}
use Rattle.model.proofs.soundness.ProcessingPackage.{size_of, processing_size, processing-size}
use Rattle.model.proofs.soundness.OfProcessing.{of-started, of-changed, of-kept}
use Rattle.model.proofs.soundness.Listed.{tied-found, tied-started, tied-kept, tied-changed, next-unlisted}
use Rattle.model.proofs.soundness.KeptValues.{kept-sized}

module _ (s : State) (store : Store) (ok : Sound s store) where
  -- packages change, and neither the number in a state that matters nor the size of the one that is processing
  others-kept : (ps : List Package) (next : ℕ) (store' : Store)
      → length store' ≡ length store
      → declared ps ≤ length store
      → length ps ≤ packages_most
      → 1 ≤ next
      → next ≤ id_most + 1
      → packages_rise 0 next ps ≡ true
      → count_in is_processed ps ≡ count_in is_processed s.transfers.packages
      → processed_as_listed s.session.listed ps ≡ true
      → processing_size ps ≡ processing_size s.transfers.packages
      → count_in is_being_processed ps ≡ count_in is_being_processed s.transfers.packages
      → Sound (state s.phase (record { packages = ps; next = next }) s.session s.work) store'
  others-kept ps next store' long fit few begun ids rise same tied size being =
      record {
        room = rw long ok.room;
        fit = rw long fit;
        few = few;
        begun = begun;
        ids = ids;
        rise = rise;
        beginning = ok.beginning;
        within = ok.within;
        turn = ok.turn;
        entries = ok.entries ∙ sym same;
        listed = tied;
        kept_values = kept-sized s.phase s.session s.transfers.packages ps s.work (processing-size 0 next ps rise ∙ size ∙ sym (processing-size 0 s.transfers.next s.transfers.packages ok.rise)) ok.kept_values;
        processing = being ∙ ok.processing;
        fits = ok.fits;
      }

  -- a package is started
  pub started-sound : (size : ℕ) → 1 ≤ size → length s.transfers.packages < packages_most → size ≤ free s.transfers.packages store
      → s.transfers.next ≤ id_most
      → Sound (state s.phase (record { packages = s.transfers.packages ++ new_package s.transfers.next size ∷ []; next = s.transfers.next + 1 }) s.session s.work) store
  unfolding free
  started-sound size o few room ids =
      let ps = s.transfers.packages in
      let next = s.transfers.next in
      let new : Package = new_package next size in
      others-kept (ps ++ new ∷ []) (next + 1) store refl
      (rw (declared-started ps new) (omega (arith, ok.fit)))
      (rw (length-append ps (new ∷ [])) (omega arith))
      (omega arith) (omega arith)
      (rise-started 0 next size ps (omega (arith, ok.begun)) o ok.rise)
      (omega (arith, count-started is_processed ps new))
      (tied-started s.session.listed ps new (sym (next-unlisted s.session.listed next ps ok.begun ok.rise ok.listed ok.entries)) ok.listed)
      (of-started size_of ps new refl)
      (omega (arith, count-started is_being_processed ps new))

  -- packages are kept by a choice that keeps all Processed ones and the one that is processing
  pub kept-by-sound : (keeps : Package → Bool) (store' : Store) → length store' ≡ length store
      → keeps_all is_processed keeps s.transfers.packages ≡ true → keeps_all is_being_processed keeps s.transfers.packages ≡ true
      → Sound (state s.phase (with_packages (remaining keeps s.transfers.packages) s.transfers) s.session s.work) store'
  kept-by-sound keeps store' long keeps-processed keeps-being =
      let ps = s.transfers.packages in
      others-kept (remaining keeps ps) s.transfers.next store' long
      (omega (arith, declared-kept keeps ps, ok.fit))
      (omega (arith, length-kept keeps ps, ok.few))
      ok.begun ok.ids
      (rise-kept keeps 0 s.transfers.next ps ok.rise)
      (count_kept is_processed keeps ps keeps-processed)
      (tied-kept s.session.listed keeps ps ok.listed)
      (of-kept size_of keeps ps keeps-being)
      (count_kept is_being_processed keeps ps keeps-being)

  -- one package changes
  module _ (id : ℕ) (change : Package → Package) (same_id : (q : Package) → (change q).id ≡ q.id) (same_size : (q : Package) → (change q).size ≡ q.size) (p : Package) (e : find id s.transfers.packages ≡ some p)
      (fine : Fine s.transfers.next p → Fine s.transfers.next (change p)) where
    -- and stays counted where it was
    pub changed-alone-sound : (store' : Store) → length store' ≡ length store → is_processed (change p).state ≡ is_processed p.state
        → is_being_processed (change p).state ≡ is_being_processed p.state
        → Sound (state s.phase (with_packages (changed id change s.transfers.packages) s.transfers) s.session s.work) store'
    changed-alone-sound store' long same-processed same-being =
        let ps = s.transfers.packages in
        others-kept (changed id change ps) s.transfers.next store' long
        (rw (declared-changed id change same_size ps) ok.fit)
        (rw (length-changed id change ps) ok.few)
        ok.begun ok.ids
        (rise-changed id change same_id 0 s.transfers.next ps p e fine ok.rise)
        (omega (arith, count-changed is_processed id change ps p e, ap one same-processed))
        (tied-changed s.session.listed s.session.listed id (λ j o. refl) change same_id 0 s.transfers.next ps p ok.rise e (same-processed ∙ tied-found s.session.listed id ps p ok.listed e) ok.listed)
        (of-changed size_of id change same_size ps p e same-being)
        (omega (arith, count-changed is_being_processed id change ps p e, ap one same-being))

    -- and phase, session and kept values with it
    pub changed-sound : (phase : Phase) (session : Session) (work : Option Work)
        → table_within session.beginning ≡ true
        → actions_within (actions session.listed) ≡ true
        → pass_in_turn session.beginning [] (actions session.listed) ≡ true
        → length session.listed ≡ count_in is_processed (changed id change s.transfers.packages)
        → processed_as_listed session.listed (changed id change s.transfers.packages) ≡ true
        → kept_sound phase session (changed id change s.transfers.packages) work ≡ true
        → count_in is_being_processed (changed id change s.transfers.packages) ≡ one (is_processing phase)
        → list_fits phase session.listed ≡ true
        → Sound (state phase (with_packages (changed id change s.transfers.packages) s.transfers) session work) store
    changed-sound phase session work beginning within turn entries listed remaining processing fits =
        let ps = s.transfers.packages in
        record {
          room = ok.room;
          fit = rw (declared-changed id change same_size ps) ok.fit;
          few = rw (length-changed id change ps) ok.few;
          begun = ok.begun;
          ids = ok.ids;
          rise = rise-changed id change same_id 0 s.transfers.next ps p e fine ok.rise;
          beginning = beginning;
          within = within;
          turn = turn;
          entries = entries;
          listed = listed;
          kept_values = remaining;
          processing = processing;
          fits = fits;
        }
