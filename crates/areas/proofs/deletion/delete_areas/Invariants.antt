-- `areas::deletion::delete_areas` meets its contract. The loop's invariant: the areas of the first packages are passed, and deleting from
-- the old store gives the bytes in front of the new end now and what deleting the packages left makes of the bytes behind the old one.
-- Assumes nothing.
use Rattle.state.specs.View.{view_packages}
use Rattle.store.proofs.Compaction.{Compaction}
use Rattle.areas.specs.Deletion.{keeps}
use Rattle.areas.proofs.deletion.delete_areas.Given as goal

abbrev pub invariant-loop-p : goal.invariant-loop-p
invariant-loop-p l = Compaction (keeps l.fn.deletion) (view_packages l.fn.t) l.initial.store l.p-index l.old_end l.new_end l.store
