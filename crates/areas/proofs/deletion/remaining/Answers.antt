-- `areas::deletion::remaining` meets its contract. The loop's invariant: those of the first packages that are kept stand at the front, and
-- every other place is as it was. Assumes nothing.
use borrow.Author.Rules.{rules}
use native.Mathlib.Omega.{arith}
use mathlib.Core.Path.{◌≡◌, sym, ◌∙◌}
use Prim.Native.Nat.{◌<◌}
use lib.ListN.{length, length-take}
use lib.Seq.{get_or-take}
use Rattle.base.proofs.Counted.{unmapped}
use Rattle.model.specs.Sound.{packages_most}
use Rattle.state.specs.View.{cleared_package}
use Rattle.areas.proofs.Kept.{keeping-begins, keeping-moves, keeping-passes, keeping-ends}
use Rattle.areas.proofs.deletion.remaining.Goals.{Start, then-keeps, else-keeps}
use Rattle.areas.proofs.deletion.remaining.Goals as goal

long : (c : Start) → length c.args.t.packages ≡ packages_most
long c = search (rules, unmapped)

pub loop-p-init : goal.loop-p-init
loop-p-init c = search (rules, keeping-begins)

pub loop-p-preserved : goal.loop-p-preserved
loop-p-preserved c =
    let t = c.args.t in
    let i = c.loop-p.p-index in
    let counts : i < t.count = omega (arith, c.loop-p-test.true, length-take t.count t.packages) in
    let below : i < length t.packages = omega (arith, c.loop-p-test.true, length-take t.count t.packages) in
    let same = get_or-take t.count t.packages i cleared_package counts in
    elim c.if-keeps.branch [
      | then-keeps w ↦ rw (w.packages-is, w.kept-is, same) (keeping-moves c.loop-p.invariant cleared_package below (rw same at (sym c.keeps.ensures ∙ w.if-keeps.true)))
      | else-keeps w ↦ rw (w.packages-is, w.kept-is) (keeping-passes c.loop-p.invariant cleared_package below (rw same at (sym c.keeps.ensures ∙ w.if-keeps.false)))
    ]

pub returns : goal.returns
returns c =
    keeping-ends c.loop-p.invariant (omega (arith, long (goal.at.returns c).Start, c.loop-p-test.false, length-take c.args.t.count c.args.t.packages))
