-- `areas::lookup::find` meets its contract: the place among the packages that count is that in their list. Assumes nothing.
use Rattle.std.proofs.Common.{rules, tests, ◌∙◌, take}
use lib.Dec.{eqb}
use Rattle.std.proofs.lemmas.Iterator.{YieldsList-from_slice}
use Rattle.place_in_list.proofs.Placed.{position-place}
use Rattle.state.specs.declared.package.Package.{Package}
use Rattle.state.specs.View.{view_packages}
use Rattle.areas.specs.Place.{has_id, place_of}
use Rattle.areas.proofs.FoundPackage.{found-is, place-in-view}
use Rattle.areas.proofs.lookup.find.Goals as goal

pub returns : goal.returns
unfolding place_of
returns c =
    let t = c.args.t in
    let place =
    position-place (λ (p : Package). eqb c.args.id p.id) _ _ c.position.result c.position.ensures.ran
    (YieldsList-from_slice (take t.count t.packages) (cc)) (λ x b q k. search (rules, tests))
    ∙ place-in-view (has_id c.args.id) t c.requires in
    record { place = place; found = found-is c.args.id (view_packages t) c.position.result place }
