-- `work_on_payload::work_on_sound` meets its contract: the ways out of a call, with what soundness says in Processing. Assumes nothing.
use borrow.Author.Rules.{rules}
use mathlib.Core.Path.{◌≡◌, refl}
use lib.ListN.{length}
use Rattle.base.proofs.Counted.{unmapped}
use Rattle.model.specs.Sound.{packages_most}
use Rattle.state.specs.View.{entries_most}
use Rattle.state.proofs.Ways.{ways}
use Rattle.areas.proofs.FoundPackage.{count_fits}
use Rattle.areas.proofs.InProcessing.{in-processing}
use Rattle.work_on_payload.proofs.WorkLaws.{work-own, work-given, work-fits}
use Rattle.work_on_payload.proofs.work_on_sound.Goals.{Start}
use Rattle.work_on_payload.proofs.work_on_sound.Goals as goal

long : (c : Start) → length c.args.s.transfers.packages ≡ packages_most
long c = search (rules, unmapped)

long-list : (c : Start) → length c.args.s.session.entries ≡ entries_most
long-list c = search (rules, unmapped)

pub returns-then-not-allowed : goal.returns-then-not-allowed
returns-then-not-allowed c = search ways

pub processing_place-i-requires : goal.processing_place-i-requires
processing_place-i-requires c = search count_fits

pub accept_work-requires : goal.accept_work-requires
accept_work-requires c =
    work-fits c.args.s c.args.store.now _ (long-list (goal.at.accept_work-requires c).Start) c.requires
    (in-processing c.args.s c.args.store.now 5 c.processing_place-i.result _ c.requires (long (goal.at.accept_work-requires c).Start) refl c.allowed.ensures c.if-not-allowed.false-raw c.processing_place-i.ensures)

pub returns : goal.returns
returns c = search (ways, work-own, work-given)
