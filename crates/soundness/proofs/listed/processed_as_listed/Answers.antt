-- `soundness::listed::processed_as_listed` meets its contract. The loop's invariant: of the entries with these ids, the packages are as
-- listed exactly where those left are. Assumes nothing.
use mathlib.Core.Path.{◌≡◌, refl, sym, ap, ◌∙◌}
use mathlib.Core.List.{List, ◌∷◌, map}
use Prim.Native.Nat.{◌+◌}
use lib.ListN.{take, drop, get_or}
use Rattle.model.specs.State.{Entry}
use Rattle.model.specs.Sound.{processed_as_listed}
use Rattle.state.specs.View.{cleared_package, view_package, view_packages}
use Rattle.soundness.specs.Parts.{plain_id}
use Rattle.state.proofs.Tests.{same-processed}
use Rattle.soundness.proofs.Along.{listed, package-step, package-end}
use Rattle.soundness.proofs.Listing.{stops, goes_on}
use Rattle.soundness.proofs.listed.processed_as_listed.Goals.{In-loop-p}
use Rattle.soundness.proofs.listed.processed_as_listed.Goals as goal

step : (c : In-loop-p) → (let t = c.args.t in let i = c.loop-p.p-index in
    (entries : List Entry) → take c.args.listed c.args.ids ≡ map plain_id entries
    → processed_as_listed entries (view_packages t) ≡ processed_as_listed entries (view_package (get_or (listed t) i cleared_package) ∷ drop (i + 1) (view_packages t)))
step c entries same =
    c.loop-p.invariant entries same ∙ ap (processed_as_listed entries) (package-step c.args.t c.requires.0 c.loop-p.p-index c.loop-p-test.true)

pub loop-p-init : goal.loop-p-init
loop-p-init c entries same = refl

pub returns-then-eq-is_among : goal.returns-then-eq-is_among
returns-then-eq-is_among c entries same =
    stops entries _ _ _ _ _ _ (step (goal.at.returns-then-eq-is_among c).In-loop-p entries same) same (c.eq.ensures ∙ same-processed _) c.is_among.ensures c.if-eq-is_among.true

pub loop-p-preserved : goal.loop-p-preserved
loop-p-preserved c entries same =
    goes_on entries _ _ _ _ _ _ (step (goal.at.loop-p-preserved c).In-loop-p entries same) same (c.eq.ensures ∙ same-processed _) c.is_among.ensures c.if-eq-is_among.false

pub returns : goal.returns
unfolding processed_as_listed
returns c entries same =
    sym (c.loop-p.invariant entries same ∙ ap (processed_as_listed entries) (package-end c.args.t c.requires.0 c.loop-p.p-index c.loop-p-test.false))
