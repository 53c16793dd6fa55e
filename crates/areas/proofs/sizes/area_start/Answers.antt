-- `areas::sizes::area_start` meets its contract. The loop's invariant: the sum so far is that of the first sizes, each of 32 bits.
-- Assumes nothing.
use borrow.Author.Rules.{rules}
use native.Mathlib.Omega.{arith}
use mathlib.Core.Path.{◌≡◌, ap, ◌∙◌}
use Prim.Native.Nat.{ℕ, ◌<◌}
use lib.ListN.{length, take, length-take}
use lib.Seq.{get_or-take}
use Rattle.base.proofs.Counted.{unmapped}
use Rattle.model.specs.Areas.{declared}
use Rattle.model.specs.Sound.{packages_most}
use Rattle.state.specs.declared.package.Package.{Package}
use Rattle.state.specs.View.{cleared_package, view_packages}
use Rattle.areas.proofs.Along.{start-next}
use Rattle.areas.proofs.sizes.area_start.Goals.{Start}
use Rattle.areas.proofs.sizes.area_start.Goals as goal

long : (c : Start) → length c.args.t.packages ≡ packages_most
long c = search (rules, unmapped)

pub loop-p-init : goal.loop-p-init
unfolding declared
loop-p-init c = search rules

pub loop-p-preserved : goal.loop-p-preserved
loop-p-preserved c =
    let t = c.args.t in
    let j = c.loop-p.p-index in
    let below : j < c.args.i = omega (arith, c.loop-p-test.true, length-take c.args.i t.packages) in
    let same = ap (λ (p : Package). p.size) (get_or-take c.args.i t.packages j cleared_package below) in
    (search rules, omega (arith, same, c.loop-p.invariant.1, start-next t c.requires.0 (long (goal.at.loop-p-preserved c).Start) j (omega arith)))

pub returns : goal.returns
returns c =
    let e : c.loop-p.p-index ≡ c.args.i = omega (arith, long (goal.at.returns c).Start, c.loop-p-test.false, length-take c.args.i c.args.t.packages) in
    c.loop-p.invariant.1 ∙ ap (λ (n : ℕ). declared (take n (view_packages c.args.t))) e
