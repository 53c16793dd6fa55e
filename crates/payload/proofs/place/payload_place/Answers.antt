-- `payload::place::payload_place` meets its contract: each way out by its law. Assumes nothing.
use borrow.Author.Rules.{rules}
use native.Mathlib.Omega.{arith}
use mathlib.Core.Path.{◌≡◌, sym, ◌∙◌}
use Prim.Native.Nat.{◌+◌, ◌-◌, ◌≤◌}
use lib.ListN.{length}
use mathlib.Core.Bool.{false}
use Rattle.std.proofs.lemmas.Result.{IfOk-at_ok}
use Rattle.base.specs.Refusals.{first_refusal}
use Rattle.refusal.specs.Number.{refused_with}
use Rattle.refusal.proofs.PassedUp.{passed-up}
use Rattle.model.specs.State as model
use Rattle.model.specs.Areas.{is_transferring}
use Rattle.model.specs.Reading.{further_payload_refusals}
use Rattle.state.specs.View.{view_package, view_packages}
use Rattle.base.proofs.Counted.{unmapped}
use Rattle.model.specs.Sound.{packages_most}
use Rattle.state.proofs.Tests.{same-transferring}
use Rattle.areas.specs.Changed.{package_at}
use Rattle.areas.proofs.FoundPackage.{nothing-unknown, PlacedAt, placed_at, area-bytes}
use Rattle.payload.proofs.PlaceLaws.{start-inside, unknown-first, transferring-first, decided, given-place}
use Rattle.payload.proofs.place.payload_place.Goals.{In-Some, After-read_area, Start}
use Rattle.payload.proofs.place.payload_place.Goals as goal

long : (c : Start) → length c.args.t.packages ≡ packages_most
long c = search (rules, unmapped)

-- what is known of the place of the package that was found
placed : (c : In-Some) → (PlacedAt c.args.t c.args.store.now c.args.id c.in-Some.i)
placed c =
    placed_at c.args.t _ c.args.id _ _ c.requires.0 (long c.before.before.before.before) c.requires.1 c.find.ensures.place c.in-Some.is

-- the package is not Transferring
idle : (c : After-read_area) → is_transferring (view_package (package_at c.args.t c.in-Some.i)).state ≡ false
idle c = sym (c.eq.ensures ∙ same-transferring _) ∙ c.if-eq.false

-- so what is read decides
told : (c : After-read_area) → PlacedAt c.args.t c.args.store.now c.args.id c.in-Some.i → (s : model.State) → s.transfers.packages ≡ view_packages c.args.t
    → refused_with c.read_area.result ≡ first_refusal (further_payload_refusals s c.args.store.now c.args.id)
told c p s same = decided s _ _ _ same _ p.known (idle c) _ (area-bytes _ _ _ _ _ p c.area_start-area.ensures) _ c.read_area.ensures.refused

pub returns-in_default : goal.returns-in_default
returns-in_default c =
    record {
      refused = λ s same. unknown-first s _ _ _ same (nothing-unknown _ _ _ c.find.ensures.place c.in_default.is);
      place = λ s same. tt;
    }

pub offset_bounds-t-i : goal.offset_bounds-t-i
offset_bounds-t-i c = let p = placed (goal.at.offset_bounds-t-i c).In-Some in search rules

pub bounds-t-i : goal.bounds-t-i
bounds-t-i c = let p = placed (goal.at.bounds-t-i c).In-Some in search rules

pub returns-then-eq : goal.returns-then-eq
returns-then-eq c =
    record {
      refused = λ s same.
          transferring-first s _ _ _ same _ (placed (goal.at.returns-then-eq c).In-Some).known (sym (c.eq.ensures ∙ same-transferring _) ∙ c.if-eq.true);
      place = λ s same. tt;
    }

pub area_start-area-requires : goal.area_start-area-requires
area_start-area-requires c = let p = placed (goal.at.area_start-area-requires c).In-Some in search rules

pub overflow_cast-end : goal.overflow_cast-end
overflow_cast-end c = omega (arith, (placed (goal.at.overflow_cast-end c).In-Some).area)

pub overflow_add-end : goal.overflow_add-end
overflow_add-end c = omega (arith, c.area_start-area.ensures, (placed (goal.at.overflow_add-end c).In-Some).area)

pub slice_bounds-read_area-end : goal.slice_bounds-read_area-end
slice_bounds-read_area-end c = omega (arith, c.area_start-area.ensures, (placed (goal.at.slice_bounds-read_area-end c).In-Some).area)

pub returns-in_err-read : goal.returns-in_err-read
returns-in_err-read c =
    let here = (goal.at.returns-in_err-read c).After-read_area in
    rw (passed-up _ _ c.from_residual.ensures.1)
    (record { refused = λ s same. rw c.in_err-read.was at (told here (placed (goal.at.returns-in_err-read c).In-Some) s same); place = λ s same. tt })

pub overflow_add-result : goal.overflow_add-result
overflow_add-result c =
    let at = c.area_start-area.result in
    let p = placed (goal.at.overflow_add-result c).In-Some in
    let inside : c.in_ok-read.read.start ≤ at + (package_at c.args.t c.in-Some.i).size - at = start-inside _ _ _ (IfOk-at_ok _ c.in_ok-read.was c.read_area.ensures.read) in
    omega (arith, c.area_start-area.ensures, p.area)

pub returns : goal.returns
returns c =
    let here = (goal.at.returns c).After-read_area in
    let p = placed (goal.at.returns c).In-Some in
    record {
      refused = λ s same. rw c.in_ok-read.was at (told here p s same);
      place = λ s same.
          given-place s _ _ _ same _ p.known (idle here) _ (area-bytes _ _ _ _ _ p c.area_start-area.ensures) _ _ (c.area_start-area.ensures ∙ sym p.start) (IfOk-at_ok _ c.in_ok-read.was c.read_area.ensures.read) (rw c.in_ok-read.was at c.read_area.ensures.refused);
    }
