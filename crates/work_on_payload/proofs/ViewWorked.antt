-- What Work gives on the structs is seen as the model's: choice by choice, with the bytes of the area. Assumes nothing.
use Prim.Native.Nat.{ℕ, ◌≤◌}
use mathlib.Core.Path.{◌≡◌, refl, sym, ap, ◌∙◌}
use mathlib.Core.Bool.{Bool, true, false, cond, and-false}
use mathlib.Core.List.{List, [], ◌∷◌, ◌++◌}
use mathlib.Core.Option.{Option, none, some}
use native.Mathlib.Omega.{arith}
use lib.Dec.{eqb, ltb}
use lib.ListN.{length, take, drop, length-append}
use borrow.Author.Tests.{ltb-true, ne_eqb}
use Rattle.base.specs.Refusals.{first_refusal}
use Rattle.base.proofs.Tests.{none-some}
use Rattle.checksum.specs.Sum.{sum_number}
use Rattle.model.specs.State as model
use Rattle.model.specs.State.{Store, transferred}
use Rattle.model.specs.Areas.{area_of, processing_id}
use Rattle.model.specs.Calls.{work}
use Rattle.model.specs.Calls as calls
use Rattle.model.specs.Sound.{packages_most, sound}
use Rattle.model.specs.Step.{refusals, act}
use Rattle.model.specs.Step as step
use Rattle.model.proofs.soundness.Accepted.{accepted-sound}
use Rattle.model.proofs.store.AreaStart.{area-at-start}
use Rattle.actions.specs.View.{view_action}
use Rattle.state.specs.declared.package.PackageState.TheVariants as packages
use Rattle.state.specs.declared.session.Entry.{Entry}
use Rattle.state.specs.declared.work.Work.{Work}
use Rattle.state.specs.declared.state.State.{State}
use Rattle.state.specs.declared.answer.Answer.{Answer}
use Rattle.state.specs.declared.answer.Answer.TheVariants.{Working, Processed, Cancelled, Inconsistent}
use Rattle.state.specs.declared.answer.Answered.{Answered}
use Rattle.state.specs.View.{view_packages, entries_most, view_entries, is_cleared_work, kept_work, view_state}
use Rattle.state.specs.Exact.{with_entry}
use Rattle.state.specs.Outcome.{outcome, answered, reply_of, view_outcome}
use Rattle.state.proofs.Views.{view-with-entry}
use Rattle.soundness.proofs.ListParts.{counted-length}
use Rattle.areas.specs.Changed.{package_at}
use Rattle.state.specs.Exact.{with_work}
use Rattle.areas.specs.Place.{processing_place}
use Rattle.areas.proofs.InProcessing.{accepted-in-it, accepted-kept, InProcessing, at_place}
use Rattle.state.proofs.GiveWork.{view-with-work}
use Rattle.work_on_payload.specs.Payload.{work_on}
use Rattle.work_on_payload.specs.Ending.{ended, sum_compared}
use Rattle.work_on_payload.specs.Work.{area_at, worked_to, worked_at, worked}
use Rattle.work_on_payload.proofs.PayloadLaws.{taken-inside}
use Rattle.work_on_payload.proofs.EndingLaws.{view-ended}
use Rattle.work_on_payload.proofs.WorkLaws.{entry-room}

-- a choice is seen as a choice, each side with what the test says
seen-choice : {A B : Type 0} (f : A → B) (b : Bool) (x y : A) (x' y' : B) → (b ≡ true → f x ≡ x') → (b ≡ false → f y ≡ y')
    → f (cond b x y) ≡ cond b x' y'
seen-choice f true x y x' y' g h = g refl
seen-choice f false x y x' y' g h = h refl

-- kept values with a payload are not cleared
payload-kept : (w : Work) → 1 ≤ w.count → is_cleared_work w ≡ false
unfolding is_cleared_work
payload-kept w any = simp (ne_eqb w.count 0 (λ z. omega arith), and-false)

-- in the model the kept values decide
act-on-kept : (s : model.State) (store : Store) (n : ℕ) (w : model.Work) → s.work ≡ some w → act s store (work n) ≡ step.worked s store w n
unfolding act
act-on-kept s store n w e = go s.work e
  where
    go : (k : Option model.Work) → k ≡ some w
        → elim k as (λ x. step.Outcome) [ none ↦ step.moves_to s store s.phase calls.done | some v ↦ step.worked s store v n ] ≡ step.worked s store w n
    go none e = none-some e
    go (some v) e = let same : v ≡ w = cc in ap (λ (x : model.Work). step.worked s store x n) same

module _ (s : State) (store : Store) (i : ℕ) (here : InProcessing s store i) (ok : sound (view_state s) store ≡ true)
    (long : length s.transfers.packages ≡ packages_most) (long-list : length s.session.entries ≡ entries_most) where
  abbrev seen : Answered Answer → step.Outcome
  seen r = view_outcome (outcome r store)

  abbrev id : ℕ
  id = processing_id (view_packages s.transfers)

  abbrev area : List ℕ
  area = area_of id (view_packages s.transfers) store

  list_length : length (view_entries s.session) ≡ s.session.count
  list_length = counted-length s.session.entries s.session.count long-list

  -- "Cancelled and Inconsistent make the package Transferred again."
  abbrev left_by : Answer → Answered Answer
  left_by answer = ended s.transfers i packages.Transferred s.session answer

  view-left : (answer : Answer) (answer' : calls.Answer) → reply_of answer ≡ calls.accepted answer'
      → seen (left_by answer)
      ≡ step.ends_processing (view_state s) store answer' transferred (view_entries s.session)
  view-left answer answer' reply =
      view-ended s store i here.found long packages.Transferred s.session answer answer' _ reply refl refl list_length

  -- "and the action joins the session's list"
  abbrev entry : Work → Entry
  entry w = record { id = (package_at s.transfers i).id; action = w.action }

  abbrev processed_with : Work → Answered Answer
  processed_with w = ended s.transfers i packages.Processed (with_entry s.session (entry w)) Processed

  view-processed : (w : Work) → seen (processed_with w)
      ≡ step.ends_processing (view_state s) store calls.processed model.processed (step.listed_with (view_state s) store (kept_work w))
  view-processed w =
      let list = view_entries s.session in
      view-ended s store i here.found long packages.Processed (with_entry s.session (entry w)) Processed calls.processed _ refl refl
      (view-with-entry s.session (entry w) (entry-room s store long-list ok here.phase)
      ∙ ap (λ (n : ℕ). list ++ record { id = n; action = view_action w.action } ∷ []) here.id)
      (simp length-append (omega (arith, list_length)))

  view-compared : (w : Work) → seen (sum_compared s.transfers i s.session w) ≡ step.sum_compared (view_state s) store (kept_work w)
  unfolding sum_compared step.sum_compared
  view-compared w =
      seen-choice seen (eqb (sum_number w.running_sums) w.sum) (processed_with w) (left_by Inconsistent) _ _ (λ e. view-processed w)
      λ e. view-left Inconsistent calls.inconsistent refl

  -- the bytes taken from the area's start on are the area's
  same_area : (n : ℕ) → work_on s.work n (drop (area_at s i) store) ≡ work_on s.work n area
  same_area n =
      taken-inside s.work n (package_at s.transfers i).size (drop (area_at s i) store) here.kept.done here.size
      ∙ ap (work_on s.work n)
      (sym (area-at-start id (view_packages s.transfers) _ store here.found.known ∙ ap (λ (at : ℕ). take (package_at s.transfers i).size (drop at store)) here.found.start))

  pub view-worked-at : (n : ℕ) → seen (worked_at s store i n) ≡ step.worked (view_state s) store (kept_work s.work) n
  unfolding worked_at worked_to step.worked
  view-worked-at n =
      let after = work_on s.work n area in
      seen-choice seen s.work.cancel_noted (left_by Cancelled) (worked_to s i (work_on s.work n (drop (area_at s i) store))) _ _
      (λ e. view-left Cancelled calls.cancelled refl)
      λ e. ap (λ (w : Work). seen (worked_to s i w)) (same_area n)
      ∙ seen-choice seen (ltb after.done after.count) (answered Working (with_work after s)) (sum_compared s.transfers i s.session after) _ _
      (λ left. view-with-work s store after Working calls.working refl (payload-kept after (omega (arith, ltb-true after.done after.count left))))
      λ left. view-compared after

-- what is given is the model's
pub view-worked : (s : State) (store : Store) (n : ℕ) → length s.transfers.packages ≡ packages_most → length s.session.entries ≡ entries_most
    → first_refusal (refusals (view_state s) store (work n)) ≡ none → view_outcome (worked s store n) ≡ act (view_state s) store (work n)
view-worked s store n long long-list h =
    let ok = accepted-sound (view_state s) store (work n) h in
    let here = at_place s store (processing_place (view_packages s.transfers)) ok long (accepted-in-it s store (work n) refl h) refl in
    view-worked-at s store _ here ok long long-list n ∙ sym (act-on-kept (view_state s) store n _ (accepted-kept s store (work n) refl h))
