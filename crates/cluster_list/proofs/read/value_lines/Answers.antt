-- `cluster_list::read::value_lines` meets its contract. The loop's invariant: the array and the end are those of a table within the
-- limits, and the lines of the whole read from nothing give what the lines from `at` on give after it. The measure is the bytes left.
-- Assumes nothing.
use Prim.Native.Nat.{◌≤◌}
use native.Mathlib.Omega.{arith}
use Rattle.cluster_list.proofs.ReadLaws.{reading_begins, reading-over, reading-no-line, reading-less, reading-says-nothing, reading-no-value, reading-some, reading-place, reading-on}
use Rattle.cluster_list.proofs.read.value_lines.Goals.{In_ok-end}
use Rattle.cluster_list.proofs.read.value_lines.Goals as goal

-- a line that was added leaves at least one cluster and at most 64
some-there : (c : In_ok-end) → 1 ≤ c.in_ok-end.end.count
some-there c = search (reading-some, c.in_ok-next.was, c.in_ok-says.was, c.in_ok-end.was)

place : (c : In_ok-end) → c.in_ok-end.end.count ≤ 64
place c = search (reading-place, c.in_ok-next.was, c.in_ok-says.was, c.in_ok-end.was)

pub loop-at-init : goal.loop-at-init
loop-at-init c = search reading_begins

pub returns-in_err-next : goal.returns-in_err-next
returns-in_err-next c = search (reading-no-line, c.in_err-next.was)

pub returns-in_err-says : goal.returns-in_err-says
returns-in_err-says c = search (reading-says-nothing, c.in_ok-next.was, c.in_err-says.was)

pub returns-in_err-end : goal.returns-in_err-end
returns-in_err-end c = search (reading-no-value, c.in_ok-next.was, c.in_ok-says.was, c.in_err-end.was)

pub overflow_sub-clusters : goal.overflow_sub-clusters
overflow_sub-clusters c = some-there (goal.at.overflow_sub-clusters c).In_ok-end

pub offset_bounds-clusters-end : goal.offset_bounds-clusters-end
offset_bounds-clusters-end c = omega (arith, place (goal.at.offset_bounds-clusters-end c).In_ok-end)

pub bounds-clusters-end : goal.bounds-clusters-end
bounds-clusters-end c = omega (arith, place (goal.at.bounds-clusters-end c).In_ok-end, some-there (goal.at.bounds-clusters-end c).In_ok-end)

pub loop-at-smaller : goal.loop-at-smaller
loop-at-smaller c = search (reading-less, c.in_ok-next.was)

pub loop-at-preserved : goal.loop-at-preserved
loop-at-preserved c = search (reading-on, c.in_ok-next.was, c.in_ok-says.was, c.in_ok-end.was)

pub returns : goal.returns
returns c = search reading-over
