-- `transfer_exit::transfer_exit_on_sound` meets its contract: the ways out of a call, with what the place of the package and a check
-- that passed say. Assumes nothing.
use borrow.Author.Rules.{rules}
use native.Mathlib.Omega.{arith}
use mathlib.Core.Path.{◌≡◌, refl}
use lib.ListN.{length}
use Rattle.base.proofs.Counted.{unmapped}
use Rattle.model.specs.Sound.{packages_most}
use Rattle.model.specs.Step.{own_refusals}
use Rattle.state.proofs.Ways.{ways, refuse-checked, accept, told-own, told-passed}
use Rattle.areas.proofs.FoundPackage.{count_fits, FoundAt, found_at, place-named, refuse-named, pass-named}
use Rattle.areas.proofs.ChangedPackage.{given-at}
use Rattle.transfer_exit.proofs.ExitLaws.{exit_own}
use Rattle.transfer_exit.proofs.transfer_exit_on_sound.Goals.{In-Ok, Start}
use Rattle.transfer_exit.proofs.transfer_exit_on_sound.Goals as goal

long : (c : Start) → length c.args.s.transfers.packages ≡ packages_most
long c = search (rules, unmapped)

found : (c : In-Ok) → (FoundAt c.args.s c.args.store.now c.args.id c.in-Ok.i)
found c =
    found_at _ _ _ _ _ c.requires (long c.before.before.before.before.before) refl (place-named _ _ _ _ c.named_package.ensures.place c.in-Ok.is)

pub named_package-requires : goal.named_package-requires
named_package-requires c = search count_fits

pub returns-in-Err : goal.returns-in-Err
unfolding own_refusals
returns-in-Err c = refuse-named _ _ _ _ _ _ refl c.named_package.ensures.refused _ _ _ refl c.in-Err.is c.refuse.ensures

pub offset_bounds-t-i : goal.offset_bounds-t-i
offset_bounds-t-i c = let h = found (goal.at.offset_bounds-t-i c).In-Ok in search rules

pub bounds-t-i : goal.bounds-t-i
bounds-t-i c = let h = found (goal.at.bounds-t-i c).In-Ok in omega arith

pub exit_refusal-requires : goal.exit_refusal-requires
exit_refusal-requires c = (found (goal.at.exit_refusal-requires c).In-Ok).inside

pub returns-in-Err-exit_refusal : goal.returns-in-Err-exit_refusal
returns-in-Err-exit_refusal c =
    let f = found (goal.at.returns-in-Err-exit_refusal c).In-Ok in
    pass-named _ _ _ _ _ _ refl c.named_package.ensures.refused _ _ c.in-Ok.is
    (refuse-checked _ _ _ c.exit_refusal.result _ _ _ (told-own _ _ _ c.exit_refusal.ensures (exit_own _ _ _ _ f)) c.in-Err-exit_refusal.is c.refuse-in-Err-exit_refusal.ensures)

pub accept_package-requires : goal.accept_package-requires
accept_package-requires c = let h = found (goal.at.accept_package-requires c).In-Ok in search rules

pub returns : goal.returns
returns c =
    let f = found (goal.at.returns c).In-Ok in
    pass-named _ _ _ _ _ _ refl c.named_package.ensures.refused _ _ c.in-Ok.is
    (accept _ _ _ _ _ (told-passed _ _ _ c.exit_refusal.ensures (exit_own _ _ _ _ f) _ c.in_default.is) (search (ways, given-at, f)))
