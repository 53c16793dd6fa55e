-- `areas::lookup::processing_place` meets its contract: the place among the packages that count is that in their list. Assumes nothing.
use borrow.Author.Rules.{rules as borrow_rules}
use Rattle.std.proofs.Common.{rules, tests, ◌≡◌, ◌∙◌, sym, ap₂, length, take, unwrap_or}
use Rattle.std.proofs.lemmas.Iterator.{YieldsList-from_slice}
use Rattle.base.proofs.Counted.{unmapped}
use Rattle.place_in_list.proofs.Placed.{position-place}
use Rattle.model.specs.Sound.{packages_most}
use Rattle.state.specs.declared.package.Package.{Package}
use Rattle.state.specs.View.{view_package}
use Rattle.state.proofs.Tests.{same-processing}
use Rattle.state.proofs.PackagesAlong.{packages-length}
use Rattle.areas.specs.Place.{in_processing, processing_place}
use Rattle.areas.proofs.FoundPackage.{place-in-view}
use Rattle.areas.proofs.lookup.processing_place.Goals.{Start}
use Rattle.areas.proofs.lookup.processing_place.Goals as goal

long : (c : Start) → length c.args.t.packages ≡ packages_most
long c = search (borrow_rules, unmapped)

pub returns : goal.returns
unfolding processing_place
returns c =
    let t = c.args.t in
    let place =
    position-place (λ (p : Package). in_processing (view_package p)) _ _ c.position.result c.position.ensures.ran
    (YieldsList-from_slice (take t.count t.packages) (cc)) (λ x b q k. search (rules, tests, same-processing))
    ∙ place-in-view in_processing t c.requires in
    c.unwrap_or.ensures ∙ ap₂ unwrap_or place (sym (packages-length t c.requires (long (goal.at.returns c).Start)))
