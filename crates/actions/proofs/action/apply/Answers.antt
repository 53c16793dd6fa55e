-- `actions::action::apply` meets its contract: each change as in the definition. Assumes nothing.
use mathlib.Core.Path.{◌≡◌, sym, ap, ◌∙◌}
use Prim.Native.Nat.{◌≤◌}
use borrow.Author.Tests.{le-leb, lt-leb}
use Rattle.base.proofs.Tests.{cond-true, cond-false}
use Rattle.clusters.specs.declared.cluster.Cluster.{Cluster}
use Rattle.clusters.specs.declared.table.Table.{Table}
use Rattle.actions.specs.declared.action.Change.{Change}
use Rattle.actions.specs.declared.action.Action.{Action}
use Rattle.clusters.specs.Table.{clusters_most}
use Rattle.actions.specs.Exact.{insert, change, apply}
use Rattle.actions.proofs.action.apply.Goals as goal

applied : (a : Action) (t : Table) (k : Change) → t.count ≤ clusters_most → a.change ≡ k → apply a t ≡ change k a.cluster t
unfolding apply
applied a t k few e =
    cond-true (change a.change a.cluster t) t (le-leb t.count clusters_most few) ∙ ap (λ (x : Change). change x a.cluster t) e

pub returns-then-count-gt-CLUSTERS_MOST : goal.returns-then-count-gt-CLUSTERS_MOST
unfolding apply
returns-then-count-gt-CLUSTERS_MOST c = sym (cond-false _ _ (lt-leb _ _ c.if-count-gt-CLUSTERS_MOST.true))

pub returns-then-count-ge-CLUSTERS_MOST : goal.returns-then-count-ge-CLUSTERS_MOST
returns-then-count-ge-CLUSTERS_MOST c =
    let e : apply c.args.a c.args.t ≡ _ = applied _ _ _ c.if-count-gt-CLUSTERS_MOST.false c.in-Install.is in
    sym (e ∙ cond-true _ _ (le-leb _ _ c.if-count-ge-CLUSTERS_MOST.true))

pub returns-else-count-ge-CLUSTERS_MOST : goal.returns-else-count-ge-CLUSTERS_MOST
returns-else-count-ge-CLUSTERS_MOST c =
    let t = c.args.t in
    c.insert.ensures ∙ ap (λ (new : Cluster). insert new t) c.with_mark.ensures
    ∙ sym (applied c.args.a t _ c.if-count-gt-CLUSTERS_MOST.false c.in-Install.is ∙ cond-false _ _ (lt-leb _ _ c.if-count-ge-CLUSTERS_MOST.false))

pub returns-in-Update : goal.returns-in-Update
returns-in-Update c =
    c.replace.ensures ∙ sym (applied c.args.a c.args.t _ c.if-count-gt-CLUSTERS_MOST.false c.in-Update.is)

pub returns-in-Remove : goal.returns-in-Remove
returns-in-Remove c =
    c.take_out.ensures ∙ sym (applied c.args.a c.args.t _ c.if-count-gt-CLUSTERS_MOST.false c.in-Remove.is)
