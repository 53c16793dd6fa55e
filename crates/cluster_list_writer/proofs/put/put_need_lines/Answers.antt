-- `cluster_list_writer::put::put_need_lines` meets its contract. The loop's invariant: with the lines of the needs from i on put at
-- `at`, the whole text stands. Assumes nothing.
use Prim.Native.Nat.{◌+◌}
use native.Mathlib.Omega.{arith}
use mathlib.Core.Path.{◌≡◌}
use mathlib.Core.List.{◌++◌}
use lib.ListN.{length}
use borrow.Author.Rules.{rules}
use Rattle.base.proofs.Counted.{unmapped}
use Rattle.cluster_list_writer.proofs.Texts.{need_line_at, need_lines_from, needs-left, needs-over}
use Rattle.text.proofs.Putting.{putting-begins, putting-room, putting-on, putting-done}
use Rattle.cluster_list_writer.proofs.put.put_need_lines.Goals.{In-loop-i, Start}
use Rattle.cluster_list_writer.proofs.put.put_need_lines.Goals as goal

long : (c : Start) → length c.args.c.needs ≡ 4
long c = search (rules, unmapped)

-- the line of the need at i, and then those behind it
step : (c : In-loop-i) → (let d = c.args.c in let i = c.loop-i.i in
    need_lines_from d i ≡ need_line_at d i ++ need_lines_from d (i + 1))
step c =
    needs-left c.args.c c.requires.0 (long c.before.before.before) c.loop-i.i c.loop-i-test.true

pub loop-i-init : goal.loop-i-init
loop-i-init c = putting-begins _ _ _

pub offset_bounds-c-i : goal.offset_bounds-c-i
offset_bounds-c-i c = omega (arith, c.requires.0)

pub bounds-c-i : goal.bounds-c-i
bounds-c-i c = omega (arith, c.requires.0)

pub put_need_line-at-requires : goal.put_need_line-at-requires
put_need_line-at-requires c =
    let l = c.loop-i in
    putting-room _ _ _ l.buf l.at _ l.invariant (need_line_at c.args.c l.i) (need_lines_from c.args.c (l.i + 1)) (step (goal.at.put_need_line-at-requires c).In-loop-i) c.requires.1

pub loop-i-preserved : goal.loop-i-preserved
loop-i-preserved c =
    let l = c.loop-i in
    putting-on _ _ _ l.buf l.at _ l.invariant (need_line_at c.args.c l.i) (need_lines_from c.args.c (l.i + 1)) (step (goal.at.loop-i-preserved c).In-loop-i) _ _
    c.put_need_line-at.ensures

pub returns : goal.returns
returns c =
    let l = c.loop-i in
    putting-done _ _ _ l.buf l.at _ l.invariant (needs-over c.args.c c.requires.0 (long (goal.at.returns c).Start) l.i c.loop-i-test.false)
