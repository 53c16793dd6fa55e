-- `soundness::counts::count_states` meets its contract. The loop's invariant: the counts so far, with those of the packages left, are the
-- counts of all. Assumes nothing.
use native.Mathlib.Omega.{arith}
use mathlib.Core.Path.{◌≡◌, refl, ap₂, subst, ◌∙◌}
use mathlib.Core.Bool.{Bool}
use mathlib.Core.List.{List, ◌∷◌}
use Prim.Native.Nat.{ℕ, ◌+◌}
use lib.ListN.{drop, get_or}
use Rattle.model.specs.State.{PackageState, Package}
use Rattle.model.specs.Areas.{is_processed, is_being_processed, count_in}
use Rattle.state.specs.View.{cleared_package, view_package, view_packages}
use Rattle.state.proofs.Tests.{same-processed, same-processing}
use Rattle.soundness.specs.declared.counts.Counts.{Counts}
use Rattle.soundness.proofs.Along.{listed, package-step, package-end}
use Rattle.soundness.proofs.Counting.{CountedTo, none-counted, one-counted, all-counted}
use Rattle.soundness.proofs.counts.count_states.Goals.{After-one_if-processed, After-one_if-processing, In-loop-p}
use Rattle.soundness.proofs.counts.count_states.Goals as goal

-- the package at the index
step : (c : In-loop-p) (is : PackageState → Bool) (n : ℕ) → (let t = c.args.t in let i = c.loop-p.p-index in
    CountedTo is (count_in is (view_packages t)) n i (drop i (view_packages t))
    → CountedTo is (count_in is (view_packages t)) n i (view_package (get_or (listed t) i cleared_package) ∷ drop (i + 1) (view_packages t)))
step c is n h =
    let i = c.loop-p.p-index in
    subst (λ (ps : List Package). CountedTo is (count_in is (view_packages c.args.t)) n i ps) (package-step c.args.t c.requires i c.loop-p-test.true) h

processed : (c : After-one_if-processed) → (let l = c.loop-p in let t = c.args.t in
    CountedTo is_processed (count_in is_processed (view_packages t)) (l.processed + c.one_if-processed.result) (l.p-index + 1) (drop (l.p-index + 1) (view_packages t)))
processed c =
    one-counted _ _ _ _ _ _ _ _ (step c.before.before.before is_processed _ c.loop-p.invariant.0) c.one_if-processed.ensures (c.eq.ensures ∙ same-processed _)

processing : (c : After-one_if-processing) → (let l = c.loop-p in let t = c.args.t in
    CountedTo is_being_processed (count_in is_being_processed (view_packages t)) (l.processing + c.one_if-processing.result) (l.p-index + 1) (drop (l.p-index + 1) (view_packages t)))
processing c =
    one-counted _ _ _ _ _ _ _ _ (step c.before.before.before.before.before.before is_being_processed _ c.loop-p.invariant.1) c.one_if-processing.ensures (c.eq-in-loop-p.ensures ∙ same-processing _)

pub loop-p-init : goal.loop-p-init
loop-p-init c = (none-counted _ _ _ _ refl, none-counted _ _ _ _ refl)

pub overflow_add-processed : goal.overflow_add-processed
overflow_add-processed c = let h = (processed (goal.at.overflow_add-processed c).After-one_if-processed).few in omega arith

pub overflow_add-processing : goal.overflow_add-processing
overflow_add-processing c = let h = (processing (goal.at.overflow_add-processing c).After-one_if-processing).few in omega arith

pub loop-p-preserved : goal.loop-p-preserved
loop-p-preserved c = (processed (goal.at.loop-p-preserved c).After-one_if-processed, processing (goal.at.loop-p-preserved c).After-one_if-processing)

pub returns : goal.returns
returns c =
    let l = c.loop-p in
    let none_left = package-end c.args.t c.requires l.p-index c.loop-p-test.false in
    ap₂ {C = Counts} (λ (processed processing : ℕ). record { processed = processed; processing = processing })
    (all-counted is_processed _ _ _ (rw none_left at l.invariant.0))
    (all-counted is_being_processed _ _ _ (rw none_left at l.invariant.1))
