-- `soundness::packages::packages_rise` meets its contract. The loop's invariant: the packages rise and fit exactly where those from i
-- on rise above the last id and fit from the end of the areas before, which is within the store. Assumes nothing.
use native.Mathlib.Omega.{arith}
use mathlib.Core.Path.{◌≡◌, sym, ap, ◌∙◌}
use mathlib.Core.Bool.{◌&&◌}
use mathlib.Core.List.{◌∷◌}
use Prim.Native.Nat.{◌+◌}
use lib.Dec.{leb}
use lib.ListN.{drop, get_or}
use Rattle.model.specs.Areas.{declared}
use Rattle.model.specs.Sound.{packages_rise}
use Rattle.state.specs.View.{cleared_package, view_package, view_packages}
use Rattle.soundness.proofs.Along.{listed, package-step, package-end}
use Rattle.soundness.proofs.OnePackage.{rise_and_fit, all-packages, no-package, stops, goes_on, ends-within}
use Rattle.soundness.proofs.packages.packages_rise.Goals.{In-loop-p}
use Rattle.soundness.proofs.packages.packages_rise.Goals as goal

step : (c : In-loop-p) → (let t = c.args.t in let l = c.loop-p in
    packages_rise 0 t.next (view_packages t) && leb (declared (view_packages t)) c.args.store_length
    ≡ rise_and_fit l.last t.next l.start c.args.store_length (view_package (get_or (listed t) l.p-index cleared_package) ∷ drop (l.p-index + 1) (view_packages t)))
step c =
    let l = c.loop-p in
    l.invariant.1
    ∙ ap (rise_and_fit l.last c.args.t.next l.start c.args.store_length) (package-step c.args.t c.requires.0 l.p-index c.loop-p-test.true)

pub loop-p-init : goal.loop-p-init
loop-p-init c = (omega arith, all-packages _ _ _)

pub returns-then-not-last-id : goal.returns-then-not-last-id
returns-then-not-last-id c =
    stops _ _ _ _ _ _ _ _ (step (goal.at.returns-then-not-last-id c).In-loop-p) c.package_sound-own.ensures c.if-not-last-id.true-raw

pub loop-p-preserved : goal.loop-p-preserved
loop-p-preserved c =
    let here = step (goal.at.loop-p-preserved c).In-loop-p in (
      ends-within _ _ _ _ _ _ _ _ here c.package_sound-own.ensures c.if-not-last-id.false-raw,
      goes_on _ _ _ _ _ _ _ _ here c.package_sound-own.ensures c.if-not-last-id.false-raw,
    )

pub returns : goal.returns
returns c =
    let l = c.loop-p in
    no-package l.last c.args.t.next l.start c.args.store_length l.invariant.0
    ∙ sym (l.invariant.1 ∙ ap (rise_and_fit l.last c.args.t.next l.start c.args.store_length) (package-end c.args.t c.requires.0 l.p-index c.loop-p-test.false))
