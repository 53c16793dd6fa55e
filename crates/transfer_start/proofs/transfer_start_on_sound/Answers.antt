-- `transfer_start::transfer_start_on_sound` meets its contract: the ways out of a call. Assumes nothing.
use borrow.Author.Rules.{rules}
use mathlib.Core.Path.{◌≡◌}
use lib.ListN.{length}
use Rattle.base.proofs.Counted.{unmapped}
use Rattle.model.specs.Sound.{packages_most}
use Rattle.state.proofs.Ways.{ways, told-passed}
use Rattle.areas.proofs.FoundPackage.{count_fits}
use Rattle.transfer_start.proofs.StartLaws.{start-room, start-id, start-own}
use Rattle.transfer_start.proofs.transfer_start_on_sound.Goals.{Start}
use Rattle.transfer_start.proofs.transfer_start_on_sound.Goals as goal

long : (c : Start) → length c.args.s.transfers.packages ≡ packages_most
long c = search (rules, unmapped)

pub returns-then-not-allowed : goal.returns-then-not-allowed
returns-then-not-allowed c = search ways

pub free_bytes-requires : goal.free_bytes-requires
free_bytes-requires c = search count_fits

pub returns-in-Err : goal.returns-in-Err
returns-in-Err c = search (ways, start-own, (long (goal.at.returns-in-Err c).Start))

pub overflow_cast-t : goal.overflow_cast-t
overflow_cast-t c = search start-id

pub with_new_package-requires : goal.with_new_package-requires
with_new_package-requires c = search (start-room, start-id)

pub returns : goal.returns
returns c =
    search (
      ways,
      start-own,
      told-passed _ _ c.start_refusal.result c.start_refusal.ensures (start-own c.args.s c.args.store.now c.args.size (long (goal.at.returns c).Start) c.free_bytes.result c.requires c.free_bytes.ensures) _ c.in_default.is,
    )
