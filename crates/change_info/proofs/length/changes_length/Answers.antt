-- `change_info::length::changes_length` meets its contract. The loop's invariant: the total and the length of the lines of the entries
-- left make the length of the text. Assumes nothing.
use Prim.Native.Nat.{◌+◌}
use native.Mathlib.Omega.{arith}
use mathlib.Core.Path.{◌≡◌, refl, ap}
use lib.ListN.{length}
use Rattle.change_info.specs.Changes.{changes_text}
use Rattle.change_info.proofs.ListedLines.{listed, lines_of, listed-lines, lines-over, lines-length-left, text-length-parts}
use Rattle.change_info.proofs.length.changes_length.Goals.{Start}
use Rattle.change_info.proofs.length.changes_length.Goals as goal

-- the length of the text by that of its lines
whole : (c : Start) → (let session = c.args.session in
    length (changes_text session) ≡ 15 + length (lines_of (listed session)))
whole c = let session = c.args.session in omega (arith, text-length-parts session, ap length (listed-lines session c.requires.0))

pub loop-entry-init : goal.loop-entry-init
loop-entry-init c = refl

pub overflow_add-total : goal.overflow_add-total
overflow_add-total c =
    omega (arith, lines-length-left (listed c.args.session) c.loop-entry.entry-index c.loop-entry-test.true, whole (goal.at.overflow_add-total c).Start, c.requires.1)

pub loop-entry-preserved : goal.loop-entry-preserved
loop-entry-preserved c = omega (arith, lines-length-left (listed c.args.session) c.loop-entry.entry-index c.loop-entry-test.true)

pub returns : goal.returns
returns c =
    omega (arith, whole (goal.at.returns c).Start, ap length (lines-over (listed c.args.session) c.loop-entry.entry-index c.loop-entry-test.false))
