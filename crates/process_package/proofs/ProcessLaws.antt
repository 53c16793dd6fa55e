-- Process on the structs and in the model: what soundness says of the session, its refusals are the model's, and what an accepted call
-- gives is seen as the model's. Assumes nothing.
use Prim.Native.Nat.{ℕ}
use mathlib.Core.Path.{◌≡◌, refl, sym, ap, ap₂, ◌∙◌}
use mathlib.Core.List.{List}
use mathlib.Core.Option.{Option, none, some}
use lib.ListN.{length}
use Rattle.base.specs.Refusals.{first_refusal}
use Rattle.base.proofs.Tests.{bool_cases, clash}
use Rattle.actions.specs.Action.{Action}
use Rattle.manifest.specs.Package.{Manifest, PackageRead, consistent, read_package}
use Rattle.manifest.specs.Answer.{package_read}
use Rattle.manifest.proofs.Within.{read_package-within, read_package-viewed}
use Rattle.model.specs.State as model
use Rattle.model.specs.State.{Store}
use Rattle.model.specs.Areas as areas
use Rattle.model.specs.Areas.{area_of}
use Rattle.model.specs.Sound.{packages_most}
use Rattle.model.specs.Calls.{done, process}
use Rattle.model.specs.Step as step
use Rattle.model.specs.Step.{manifest_of, area_read, own_refusals, refusals, act, process_refusals}
use Rattle.model.proofs.soundness.Accepted.{first-passed, rest-passed, passed_over, accepted-sound, accepted-own, read_is}
use Rattle.model.proofs.soundness.Packages.{found-known, found-is}
use Rattle.model.proofs.store.AreaStart.{area-at-start}
use Rattle.state.specs.declared.package.PackageState.TheVariants as package_state
use Rattle.state.specs.declared.phase.Phase.TheVariants as phase
use Rattle.state.specs.declared.package.Package.{Package}
use Rattle.state.specs.declared.transfers.Transfers.{Transfers}
use Rattle.state.specs.declared.session.Session.{Session}
use Rattle.state.specs.declared.work.Work.{Work}
use Rattle.state.specs.declared.state.State.{State}
use Rattle.state.specs.declared.answer.Answer.TheVariants.{Done}
use Rattle.state.specs.declared.answer.Answer.{Answer}
use Rattle.state.specs.declared.answer.Answered.{Answered}
use Rattle.state.specs.View.{view_package_state, view_packages, view_session, is_cleared_work, view_work, view_state}
use Rattle.state.specs.Exact.{in_state, with_package, state}
use Rattle.state.specs.Outcome.{outcome, answered, view_outcome}
use Rattle.soundness.proofs.KeptParts.{cleared-not-within}
use Rattle.areas.specs.Changed.{package_at, with_changed}
use Rattle.areas.specs.Inside.{read_at}
use Rattle.areas.proofs.FoundPackage.{count_fits, FoundAt}
use Rattle.areas.proofs.ChangedPackage.{view-changed}
use Rattle.process_package.specs.Process.{work_of_package, processing_begun}

-- ---- what is kept

-- the part number of an action that was read is at least 1, so the values are not the cleared ones
view-work-of-package : (bytes : List ℕ) (m : Manifest) → read_package bytes ≡ consistent m
    → view_work (work_of_package (package_read (consistent m))) ≡ some (step.work_at_start m)
unfolding package_read
view-work-of-package bytes m e =
    let w = work_of_package (package_read (consistent m)) in
    let same = read_package-viewed bytes m e in
    bool_cases (is_cleared_work w)
    (λ h. clash (rw same (read_package-within bytes m e).0) (cleared-not-within w h))
    λ h. rw h (ap (λ (a : Action). some (step.work_at_start (record { action = a; start = m.start; count = m.count; sum = m.sum }))) same)

module _ (s : State) (store : Store) (id : ℕ) where
  -- what the area of the package at a place reads as
  abbrev read : ℕ → PackageRead
  read i = read_at s.transfers i (package_at s.transfers i) store

  -- the package was found at the place i
  module _ (i : ℕ) (found : FoundAt s store id i) where
    -- its refusals are the model's
    pub process-own : first_refusal (own_refusals (view_state s) store (process id))
        ≡ first_refusal (process_refusals (view_package_state (package_at s.transfers i).state) (read i) (view_session s.session))
    unfolding own_refusals
    process-own =
        let ps = view_packages s.transfers in
        passed_over _ _ (found-known id ps _ found.known)
        ∙ rw (found-is id ps _ found.known, area-at-start id ps _ store found.known, found.start)

    -- what begins at the place, with the values that are kept of what was read there, begins with the package of the id
    pub begun-at : (work : Work) (r : Answered Answer) → work ≡ work_of_package (package_read (read i))
        → r ≡ answered Done (state phase.Processing (with_package i (in_state package_state.Processing (package_at s.transfers i)) s.transfers) s.session work)
        → outcome r store ≡ processing_begun s store id
    unfolding with_changed
    begun-at work r kept f =
        let ps = view_packages s.transfers in
        rw (f, kept, found.place, area-at-start id ps _ store found.known, found.start)

  -- an accepted call has read a package
  read-consistent : first_refusal (refusals (view_state s) store (process id)) ≡ none
      → area_read (view_state s) store id ≡ consistent (manifest_of (area_read (view_state s) store id))
  unfolding own_refusals
  read-consistent h =
      let h9 = rest-passed _ _ (rest-passed _ _ (accepted-own (view_state s) store (process id) h)) in
      read_is (area_read (view_state s) store id) (first-passed _ _ h9) (first-passed _ _ (rest-passed _ _ h9))

  -- what is given is the model's
  pub view-begun : length s.transfers.packages ≡ packages_most → first_refusal (refusals (view_state s) store (process id)) ≡ none
      → view_outcome (processing_begun s store id) ≡ act (view_state s) store (process id)
  unfolding act
  view-begun long h =
      let few = count_fits s store (accepted-sound (view_state s) store (process id) h) in
      let read = read-consistent h in
      let m = manifest_of (area_read (view_state s) store id) in
      let transfers = view-changed s.transfers few long id (in_state package_state.Processing) (areas.in_state model.being_processed) (λ p. refl) in
      let work = ap (λ (p : PackageRead). view_work (work_of_package (package_read p))) read ∙ view-work-of-package (area_of id (view_packages s.transfers) store) m read in
      ap₂ (λ (t : model.Transfers) (w : Option model.Work). step.outcome done (model.state model.processing t (view_session s.session) w) store) transfers work

-- ---- what an accepted call gives, by its parts

pub give-begun : (i : ℕ) (p p' : Package) (t t' : Transfers) (session : Session) (work : Work) (r : Answered Answer) → p' ≡ p → t' ≡ with_package i p' t
    → r ≡ answered Done (state phase.Processing t' session work) → r ≡ answered Done (state phase.Processing (with_package i p t) session work)
give-begun i p p' t t' session work r e f g = rw (g, f, e)
