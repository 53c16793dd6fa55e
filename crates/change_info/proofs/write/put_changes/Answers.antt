-- `change_info::write::put_changes` meets its contract. The loop's invariant: with the lines of the entries left put at `at`, the whole
-- text stands. Assumes nothing.
use Rattle.text.proofs.Putting.{putting-begins, putting-room, putting-on, putting-done}
use Rattle.change_info.proofs.ListedLines.{listed, listed-lines, lines_left, lines-over}
use Rattle.change_info.proofs.write.put_changes.Goals as goal

pub loop-entry-init : goal.loop-entry-init
loop-entry-init c = putting-begins _ _ _

pub put_change-at-requires : goal.put_change-at-requires
put_change-at-requires c =
    let l = c.loop-entry in
    putting-room _ _ _ l.buffer l.at _ l.invariant _ _ (lines_left (listed c.args.session) l.entry-index c.loop-entry-test.true) (rw (listed-lines c.args.session c.requires.0) at c.requires.1)

pub loop-entry-preserved : goal.loop-entry-preserved
loop-entry-preserved c =
    let l = c.loop-entry in
    putting-on _ _ _ l.buffer l.at _ l.invariant _ _ (lines_left (listed c.args.session) l.entry-index c.loop-entry-test.true) _ _ c.put_change-at.ensures

pub returns : goal.returns
returns c =
    let l = c.loop-entry in
    rw (listed-lines c.args.session c.requires.0) (putting-done _ _ _ l.buffer l.at _ l.invariant (lines-over (listed c.args.session) l.entry-index c.loop-entry-test.false))
