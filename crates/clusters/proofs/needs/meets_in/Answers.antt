-- `clusters::needs::meets_in` meets its contract. Assumes nothing.
use native.Mathlib.Omega.{arith}
use mathlib.Core.Bool.{false}
use mathlib.Core.Path.{◌≡◌, sym, ap, ◌∙◌}
use Prim.Native.Nat.{◌<◌}
use lib.ListN.{take}
use Rattle.text.specs.declared.version.Version.{Version}
use Rattle.std.specs.Prelude.{Some}
use Rattle.clusters.specs.Version.{fulfils}
use Rattle.clusters.specs.View.{no_version}
use Rattle.clusters.specs.Place.{place_among}
use Rattle.clusters.proofs.Finding.{meets-none, meets-some}
use Rattle.clusters.proofs.ColumnLaws.{place-below, none-among, found_among}
use Rattle.clusters.proofs.needs.meets_in.Goals.{In-Some}
use Rattle.clusters.proofs.needs.meets_in.Goals as goal

-- where the part number is found
found : (c : In-Some) → (place_among 0 c.args.n.part (take c.args.columns.now.count c.args.columns.now.parts) ≡ Some c.in-Some.i)
found c = sym c.place_of.ensures ∙ c.in-Some.is

below : (c : In-Some) → c.in-Some.i < 64
below c =
    let l : c.in-Some.i < c.args.columns.now.count = place-below _ _ _ _ (found c) in
    omega (arith, l, c.args.columns.now.few)

pub returns-in-None : goal.returns-in-None
returns-in-None c t of = sym (meets-none t _ (none-among _ t of _ (sym c.place_of.ensures ∙ c.in-None.is)))

pub offset_bounds-columns-i : goal.offset_bounds-columns-i
offset_bounds-columns-i c = omega (arith, below (goal.at.offset_bounds-columns-i c).In-Some)

pub bounds-columns-i : goal.bounds-columns-i
bounds-columns-i c = omega (arith, below (goal.at.bounds-columns-i c).In-Some)

pub returns-in-Some : goal.returns-in-Some
returns-in-Some c t of =
    let f = found_among c.args.columns.now t of c.args.n.part c.in-Some.i no_version false (found (goal.at.returns-in-Some c).In-Some) in
    c.fulfils.ensures
    ∙ ap (λ (v : Version). fulfils v c.args.n.least) f.same_version
    ∙ sym (meets-some t c.args.n f.found f.there)
