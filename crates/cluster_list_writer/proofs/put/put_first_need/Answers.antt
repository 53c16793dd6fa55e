-- `cluster_list_writer::put::put_first_need` meets its contract. Assumes nothing.
use native.Mathlib.Omega.{arith}
use mathlib.Core.Path.{◌≡◌, ap}
use mathlib.Core.List.{[], ◌∷◌}
use lib.ListN.{length, get_or}
use Rattle.base.specs.Quoted.{comma}
use Rattle.base.proofs.Counted.{unmapped}
use Rattle.clusters.specs.View.{no_need, view_cluster}
use Rattle.cluster_list.specs.Write.{need_cells}
use Rattle.cluster_list_writer.specs.Fields.{fields_text}
use Rattle.cluster_list_writer.proofs.Texts.{no-first-cells, first-cells}
use borrow.Author.Rules.{rules}
use Rattle.cluster_list_writer.proofs.put.put_first_need.Goals.{Else-c-lt1, Start, Then-c-lt1}
use Rattle.cluster_list_writer.proofs.put.put_first_need.Goals as goal

long : (c : Start) → length c.args.c.needs ≡ 4
long c = search (rules, unmapped)

none-text : (c : Then-c-lt1) → fields_text (need_cells (view_cluster c.args.c).needs) ≡ comma ∷ (comma ∷ [])
none-text c =
    no-first-cells c.args.c c.requires.0 (long c.before.before.before) c.if-c-lt1.true

some-text : (c : Else-c-lt1) → (let d = c.args.c in
    fields_text (need_cells (view_cluster d).needs) ≡ fields_text (need_cells (get_or d.needs 0 no_need ∷ [])))
some-text c =
    first-cells c.args.c c.requires.0 (long c.before.before.before) c.if-c-lt1.false

pub put_two-requires : goal.put_two-requires
put_two-requires c = omega (arith, ap length (none-text (goal.at.put_two-requires c).Then-c-lt1))

pub returns-then-c-lt1 : goal.returns-then-c-lt1
returns-then-c-lt1 c = rw (none-text (goal.at.returns-then-c-lt1 c).Then-c-lt1) c.put_two.ensures

pub put_pair-requires : goal.put_pair-requires
put_pair-requires c = omega (arith, ap length (some-text (goal.at.put_pair-requires c).Else-c-lt1))

pub returns : goal.returns
returns c = rw (some-text (goal.at.returns c).Else-c-lt1) c.put_pair.ensures
