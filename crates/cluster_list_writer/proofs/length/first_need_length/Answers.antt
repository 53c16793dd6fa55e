-- `cluster_list_writer::length::first_need_length` meets its contract. Assumes nothing.
use mathlib.Core.Path.{◌≡◌, sym, ap, ◌∙◌}
use lib.ListN.{length}
use Rattle.base.proofs.Counted.{unmapped}
use Rattle.cluster_list_writer.proofs.Texts.{no-first-cells, first-cells}
use borrow.Author.Rules.{rules}
use Rattle.cluster_list_writer.proofs.length.first_need_length.Goals.{Start}
use Rattle.cluster_list_writer.proofs.length.first_need_length.Goals as goal

long : (c : Start) → length c.args.c.needs ≡ 4
long c = search (rules, unmapped)

pub returns-then-c-lt1 : goal.returns-then-c-lt1
returns-then-c-lt1 c = sym (ap length (no-first-cells c.args.c c.requires (long (goal.at.returns-then-c-lt1 c).Start) c.if-c-lt1.true))

pub returns : goal.returns
returns c =
    c.need_length.ensures ∙ sym (ap length (first-cells c.args.c c.requires (long (goal.at.returns c).Start) c.if-c-lt1.false))
