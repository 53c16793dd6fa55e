-- `areas::deletion::delete_areas` meets its contract. The loop's invariant: the areas of the first packages are passed, and deleting from
-- the old store gives the bytes in front of the new end now and what deleting the packages left makes of the bytes behind the old one.
-- Assumes nothing.
use borrow.Author.Rules.{rules}
use native.Mathlib.Omega.{arith}
use mathlib.Core.Path.{◌≡◌, sym, ap, ◌∙◌}
use mathlib.Core.List.{◌∷◌}
use Prim.Native.Nat.{◌+◌, ◌<◌}
use lib.ListN.{length, take, drop, get_or, length-take}
use lib.Seq.{get_or-take}
use Rattle.base.proofs.Counted.{unmapped}
use Rattle.model.specs.Sound.{packages_most}
use Rattle.state.specs.declared.package.Package.{Package}
use Rattle.state.specs.View.{view_package, cleared_package, view_packages}
use Rattle.store.proofs.Compaction.{compaction-begins, compaction-fits, compaction-moves, compaction-passes, compaction-ends}
use Rattle.state.proofs.PackagesAlong.{packages-step, packages-end}
use Rattle.areas.proofs.deletion.delete_areas.Goals.{In-loop-p, Start, then-keeps, else-keeps}
use Rattle.areas.proofs.deletion.delete_areas.Goals as goal

long : (c : Start) → length c.args.t.packages ≡ packages_most
long c = search (rules, unmapped)

-- the package of a turn and those behind it
turn : (c : In-loop-p) → length c.args.t.packages ≡ packages_most → (let t = c.args.t in let i = c.loop-p.p-index in
    drop i (view_packages t) ≡ view_package (get_or (take t.count t.packages) i cleared_package) ∷ drop (i + 1) (view_packages t))
turn c room =
    let t = c.args.t in
    let i = c.loop-p.p-index in
    let counts : i < t.count = omega (arith, c.loop-p-test.true, length-take t.count t.packages) in
    packages-step t c.requires.0 room i counts
    ∙ ap (λ (p : Package). view_package p ∷ drop (i + 1) (view_packages t)) (sym (get_or-take t.count t.packages i cleared_package counts))

pub loop-p-init : goal.loop-p-init
loop-p-init c = search (rules, compaction-begins)

pub overflow_add-new_end : goal.overflow_add-new_end
overflow_add-new_end c =
    let s = (goal.at.overflow_add-new_end c).Start in
    omega (arith, compaction-fits (turn (goal.at.overflow_add-new_end c).In-loop-p (long s)) c.loop-p.invariant, c.loop-p.invariant.low)

pub overflow_add-old_end : goal.overflow_add-old_end
overflow_add-old_end c =
    let s = (goal.at.overflow_add-old_end c).Start in
    omega (arith, compaction-fits (turn (goal.at.overflow_add-old_end c).In-loop-p (long s)) c.loop-p.invariant)

pub loop-p-preserved : goal.loop-p-preserved
loop-p-preserved c =
    let l = c.loop-p.invariant in
    let next = turn (goal.at.loop-p-preserved c).In-loop-p (long (goal.at.loop-p-preserved c).Start) in
    elim c.if-keeps.branch [
      | then-keeps w ↦ rw (w.store-is, w.new_end-is) (compaction-moves next l w.move_down.ensures (sym c.keeps.ensures ∙ w.if-keeps.true))
      | else-keeps w ↦ rw (w.store-is, w.new_end-is) (compaction-passes next l (sym c.keeps.ensures ∙ w.if-keeps.false))
    ]

pub returns : goal.returns
returns c =
    let s = (goal.at.returns c).Start in
    compaction-ends (packages-end c.args.t c.requires.0 (long s) c.loop-p.p-index (omega (arith, long s, c.loop-p-test.false, length-take c.args.t.count c.args.t.packages))) c.loop-p.invariant c.clear_part.ensures
