-- `start_waves::write_waves` meets its contract: the columns that it takes out are those of the table. Assumes nothing.
use mathlib.Core.Path.{◌≡◌}
use native.Mathlib.Omega.{arith}
use lib.ListN.{length}
use borrow.Author.Rules.{rules}
use Rattle.base.proofs.Counted.{unmapped}
use Rattle.clusters.specs.Table.{clusters_most}
use Rattle.clusters.proofs.Views.{few-of-within}
use Rattle.start_waves.proofs.Reports.{same_count, arrays-of}
use Rattle.start_waves.proofs.write_waves.Goals.{Start}
use Rattle.start_waves.proofs.write_waves.Goals as goal

long : (c : Start) → length c.args.table.clusters ≡ clusters_most
long c = search (rules, unmapped)

pub of-columns-requires : goal.of-columns-requires
of-columns-requires c = few-of-within _ c.requires.0

pub waits_of-waits-requires : goal.waits_of-waits-requires
waits_of-waits-requires c =
    let of = c.of-columns.ensures in
    (c.requires.0, search rules, rw (same_count c.args.table c.requires.0 (long (goal.at.waits_of-waits-requires c).Start) _ of) at of.parts)

pub list_waves-requires : goal.list_waves-requires
list_waves-requires c =
    let of = c.of-columns.ensures in
    ((of.few, search rules, search rules), omega (arith, c.requires.1, same_count c.args.table c.requires.0 (long (goal.at.list_waves-requires c).Start) _ of))

pub returns : goal.returns
returns c =
    c.list_waves.ensures _ (arrays-of c.args.table c.requires.0 (long (goal.at.returns c).Start) _ c.of-columns.ensures _ c.waits_of-waits.ensures)
