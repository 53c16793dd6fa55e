-- `measured::parts::measured_needs_met` meets its contract. The loop's invariant is `Counted`: at so many of the turns before an index the
-- needs were met. Assumes nothing.
use mathlib.Core.Path.{◌≡◌, ap, ap₂, ◌∙◌}
use mathlib.Core.List.{[]}
use native.Mathlib.Omega.{arith}
use Rattle.std.specs.Prelude.{Option, unwrap_or}
use Rattle.clusters.specs.declared.table.Table.{Table}
use Rattle.clusters.specs.Table.{needs_met}
use Rattle.clusters.specs.View.{view_table}
use Rattle.clusters.specs.Struct.{struct_table}
use Rattle.clusters.proofs.Structs.{struct-empty}
use Rattle.cluster_list.specs.Read.{read_list, list_read}
use Rattle.cluster_list.proofs.Within.{list-or-empty-within}
use Rattle.measured.specs.Turns.{turns_met}
use Rattle.measured.proofs.TurnLaws.{none-counted, few-more, one-more-counted, all-counted}
use Rattle.measured.proofs.parts.measured_needs_met.Goals as goal

pub loop-turn-init : goal.loop-turn-init
loop-turn-init c = none-counted _ _

pub met_at-met-requires : goal.met_at-met-requires
met_at-met-requires c = search list-or-empty-within

pub overflow_add-met : goal.overflow_add-met
overflow_add-met c =
    let l = c.loop-turn in
    let few = few-more _ _ l.met l.turn-index l.invariant c.loop-turn-test.true _ c.met_at-met.ensures in
    omega (arith, few)

pub loop-turn-preserved : goal.loop-turn-preserved
loop-turn-preserved c =
    let l = c.loop-turn in
    one-more-counted _ _ l.met l.turn-index l.invariant c.loop-turn-test.true _ c.met_at-met.ensures

pub returns : goal.returns
returns c =
    let l = c.loop-turn in
    let turns = c.args.turns.now in
    let table : c.unwrap_or-table.result ≡ unwrap_or (list_read (read_list c.args.list.now)) (struct_table []) =
    c.unwrap_or-table.ensures
    ∙ ap₂ (λ (o : Option Table) (d : Table). unwrap_or o d) c.read_list.ensures.exact (c.empty_table.ensures ∙ struct-empty) in
    all-counted _ _ l.met l.turn-index l.invariant c.loop-turn-test.false ∙ ap (λ (t : Table). turns_met (needs_met (view_table t)) turns) table
