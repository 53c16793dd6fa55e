-- `listed_actions::columns::entry_columns` meets its contract. The loop's invariant: the first i places of each column are those of
-- the first i entries. Assumes nothing.
use borrow.Author.Rules.{rules}
use native.Mathlib.Omega.{arith}
use mathlib.Core.Path.{◌≡◌, refl, ◌∙◌}
use lib.ListN.{length, length-set}
use Rattle.base.proofs.Counted.{unmapped}
use Rattle.clusters.proofs.ColumnLaws.{fill_step}
use Rattle.state.specs.View.{entries_most}
use Rattle.listed_actions.specs.Listed.{entry_id, entry_part}
use Rattle.listed_actions.proofs.columns.entry_columns.Goals.{Start}
use Rattle.listed_actions.proofs.columns.entry_columns.Goals as goal

long : (c : Start) → length c.args.entries ≡ entries_most
long c = search (rules, unmapped)

pub loop-i-init : goal.loop-i-init
loop-i-init c = (refl, refl, refl, refl)

pub loop-i-preserved : goal.loop-i-preserved
loop-i-preserved c =
    let v = c.loop-i.invariant in
    let i = c.loop-i.i in
    let entries = c.args.entries in (
      length-set c.loop-i.ids i _ ∙ v.0,
      length-set c.loop-i.parts i _ ∙ v.1,
      fill_step entry_id entries c.loop-i.ids i _ (omega (arith, long (goal.at.loop-i-preserved c).Start)) (omega (arith, v.0)) v.2,
      fill_step entry_part entries c.loop-i.parts i _ (omega (arith, long (goal.at.loop-i-preserved c).Start)) (omega (arith, v.1)) v.3,
    )

pub returns : goal.returns
returns c =
    let v = c.loop-i.invariant in
    let q : c.loop-i.i ≡ c.args.count = omega (arith, c.loop-i-test.false) in
    record { ids = rw q at v.2; parts = rw q at v.3 }
