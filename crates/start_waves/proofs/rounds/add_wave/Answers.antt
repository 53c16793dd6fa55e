-- `start_waves::rounds::add_wave` meets its contract. The loop's invariant is `Adding`: of the first i clusters those that join are listed.
-- Assumes nothing.
use Prim.Native.Nat.{◌+◌, ◌*◌, ◌≤◌}
use mathlib.Core.Path.{◌∙◌}
use native.Mathlib.Omega.{arith}
use lib.ListN.{length}
use borrow.Author.Rules.{rules}
use Rattle.start_waves.proofs.Adding.{adding-passed, adding-joined, room_for, adding-begins, adding-ends}
use Rattle.start_waves.proofs.rounds.add_wave.Goals.{Then-joins_at, then-joins_at, else-joins_at}
use Rattle.start_waves.proofs.rounds.add_wave.Goals as goal

-- there is room for the entry of a cluster that joins
room : (c : Then-joins_at) → (2 * c.loop-i.count + 2 ≤ length c.loop-i.buffer)
room c =
    room_for _ _ _ _ _ _ _ _ _ _ _ _ c.requires.0.0 c.requires.1 c.requires.0.2 c.loop-i-test.true c.loop-i.invariant _ c.joins_at.ensures c.if-joins_at.true c.requires.2

pub loop-i-init : goal.loop-i-init
loop-i-init c = adding-begins _ _ _ _ _ _ _ _ (search rules)

pub put_entry-requires : goal.put_entry-requires
put_entry-requires c = room (goal.at.put_entry-requires c).Then-joins_at

pub overflow_add-count : goal.overflow_add-count
overflow_add-count c = omega (arith, room (goal.at.overflow_add-count c).Then-joins_at)

pub loop-i-preserved : goal.loop-i-preserved
loop-i-preserved c =
    elim c.if-joins_at.branch [
      | then-joins_at w ↦
          adding-joined _ _ _ _ _ _ _ _ _ _ _ _ c.requires.0.0 c.requires.1 c.requires.0.2 c.loop-i-test.true c.loop-i.invariant _
          c.joins_at.ensures _ _ _ w.if-joins_at.true (w.buffer-is ∙ w.put_entry.ensures) w.waves-is w.count-is
      | else-joins_at w ↦
          adding-passed _ _ _ _ _ _ _ _ _ _ _ _ c.requires.0.0 c.requires.1 c.requires.0.2 c.loop-i-test.true c.loop-i.invariant _
          c.joins_at.ensures _ _ _ w.if-joins_at.false w.buffer-is w.waves-is w.count-is
    ]

pub returns : goal.returns
returns c = let inv = c.loop-i.invariant in
    record { room = (inv.kept, inv.grows); listed = adding-ends _ _ _ _ _ _ _ _ _ _ _ _ inv c.loop-i-test.false }
