-- `cancel_processing::cancel_on_sound` meets its contract: the ways out of a call, with what soundness says in Processing.
-- Assumes nothing.
use borrow.Author.Rules.{rules}
use native.Mathlib.Omega.{arith}
use mathlib.Core.Path.{◌≡◌, refl}
use lib.ListN.{length}
use Rattle.base.proofs.Counted.{unmapped}
use Rattle.model.specs.Sound.{packages_most}
use Rattle.model.specs.Step.{own_refusals}
use Rattle.state.proofs.Ways.{ways}
use Rattle.areas.proofs.FoundPackage.{count_fits}
use Rattle.areas.proofs.InProcessing.{InProcessing, in-processing}
use Rattle.cancel_processing.proofs.CancelLaws.{other-id, own-id}
use Rattle.cancel_processing.proofs.cancel_on_sound.Goals.{After-processing_place-i, Start}
use Rattle.cancel_processing.proofs.cancel_on_sound.Goals as goal

long : (c : Start) → length c.args.s.transfers.packages ≡ packages_most
long c = search (rules, unmapped)

here : (c : After-processing_place-i) → (InProcessing c.args.s c.args.store.now c.processing_place-i.result)
here c =
    in-processing c.args.s c.args.store.now 6 c.processing_place-i.result _ c.requires (long c.before.before.before.before.before.before) refl c.allowed.ensures c.if-not-allowed.false-raw c.processing_place-i.ensures

pub returns-then-not-allowed : goal.returns-then-not-allowed
returns-then-not-allowed c = search ways

pub processing_place-i-requires : goal.processing_place-i-requires
processing_place-i-requires c = search count_fits

pub offset_bounds-t-i : goal.offset_bounds-t-i
offset_bounds-t-i c = let h = here (goal.at.offset_bounds-t-i c).After-processing_place-i in search rules

pub bounds-t-i : goal.bounds-t-i
bounds-t-i c = let h = here (goal.at.bounds-t-i c).After-processing_place-i in omega arith

pub returns-then-id-p : goal.returns-then-id-p
unfolding own_refusals
returns-then-id-p c = search (ways, other-id, here (goal.at.returns-then-id-p c).After-processing_place-i)

pub returns : goal.returns
returns c = search (ways, own-id, here (goal.at.returns c).After-processing_place-i)
