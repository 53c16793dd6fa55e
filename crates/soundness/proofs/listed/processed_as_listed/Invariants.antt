-- `soundness::listed::processed_as_listed` meets its contract. The loop's invariant: of the entries with these ids, the packages are as
-- listed exactly where those from i on are. Assumes nothing.
use mathlib.Core.Path.{◌≡◌}
use mathlib.Core.List.{List, map}
use lib.ListN.{take, drop}
use Rattle.model.specs.State.{Entry}
use Rattle.model.specs.Sound.{processed_as_listed}
use Rattle.state.specs.View.{view_packages}
use Rattle.soundness.specs.Parts.{plain_id}
use Rattle.soundness.proofs.listed.processed_as_listed.Given as goal

abbrev pub invariant-loop-p : goal.invariant-loop-p
invariant-loop-p l =
    (entries : List Entry) → take l.listed l.ids ≡ map plain_id entries
    → processed_as_listed entries (view_packages l.fn.t) ≡ processed_as_listed entries (drop l.p-index (view_packages l.fn.t))
