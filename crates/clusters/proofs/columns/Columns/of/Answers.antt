-- `clusters::columns::Columns::of` meets its contract. The loop's invariant: the first i places of each column are those of the
-- first i clusters. Assumes nothing.
use borrow.Author.Rules.{rules}
use native.Mathlib.Omega.{arith}
use mathlib.Core.Path.{◌≡◌, refl, sym, ap, ◌∙◌}
use mathlib.Core.List.{map}
use lib.ListN.{length, take, length-set}
use Rattle.base.proofs.Counted.{unmapped}
use Rattle.clusters.specs.Table.{Table}
use Rattle.clusters.specs.View.{view_cluster, view_table}
use Rattle.clusters.specs.Place.{part_of}
use Rattle.clusters.specs.Columns.{version_of, mark_of}
use Rattle.clusters.proofs.Along.{view-few, table-length}
use Rattle.clusters.proofs.ColumnLaws.{fill_step, map-twice}
use Rattle.clusters.proofs.columns.Columns.of.Invariants.{struct_part, struct_version, struct_mark}
use Rattle.clusters.proofs.columns.Columns.of.Goals.{Start}
use Rattle.clusters.proofs.columns.Columns.of.Goals as goal

long : (c : Start) → length c.args.t.clusters ≡ 64
long c = search (rules, unmapped)

pub loop-i-init : goal.loop-i-init
loop-i-init c = (refl, refl, refl, refl, refl, refl)

pub loop-i-preserved : goal.loop-i-preserved
loop-i-preserved c =
    let v = c.loop-i.invariant in
    let l = long (goal.at.loop-i-preserved c).Start in
    let i = c.loop-i.i in
    let cs = c.args.t.clusters in (
      length-set c.loop-i.parts i _ ∙ v.0,
      length-set c.loop-i.versions i _ ∙ v.1,
      length-set c.loop-i.marks i _ ∙ v.2,
      fill_step struct_part cs c.loop-i.parts i _ (omega (arith, l)) (omega (arith, v.0)) v.3,
      fill_step struct_version cs c.loop-i.versions i _ (omega (arith, l)) (omega (arith, v.1)) v.4,
      fill_step struct_mark cs c.loop-i.marks i _ (omega (arith, l)) (omega (arith, v.2)) v.5,
    )

pub returns : goal.returns
returns c =
    let t = c.args.t in
    let v = c.loop-i.invariant in
    let q : c.loop-i.i ≡ t.count = omega (arith, c.loop-i-test.false) in
    let e : view_table t ≡ map view_cluster (take t.count t.clusters) = view-few t c.requires in
    record {
      few = c.requires;
      size = sym (table-length t c.requires (long (goal.at.returns c).Start));
      parts = (rw q at v.3) ∙ sym (ap (λ (l : Table). map part_of l) e ∙ map-twice view_cluster part_of (take t.count t.clusters));
      versions = (rw q at v.4) ∙ sym (ap (λ (l : Table). map version_of l) e ∙ map-twice view_cluster version_of (take t.count t.clusters));
      marks = (rw q at v.5) ∙ sym (ap (λ (l : Table). map mark_of l) e ∙ map-twice view_cluster mark_of (take t.count t.clusters));
    }
