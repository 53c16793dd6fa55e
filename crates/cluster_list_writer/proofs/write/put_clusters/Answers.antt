-- `cluster_list_writer::write::put_clusters` meets its contract. The loop's invariant: with the lines of the clusters left put at `at`,
-- the whole text stands. Assumes nothing.
use native.Mathlib.Omega.{arith}
use Rattle.clusters.proofs.Views.{few-of-within}
use Rattle.cluster_list_writer.proofs.Texts.{listed, clusters-left, clusters-over, table-lines, cluster-few, cluster-there-within}
use Rattle.text.proofs.Putting.{putting-begins, putting-room, putting-on, putting-done}
use Rattle.cluster_list_writer.proofs.write.put_clusters.Goals as goal

pub shared_ref_as_front-c-items : goal.shared_ref_as_front-c-items
shared_ref_as_front-c-items c = omega (arith, few-of-within c.args.t c.requires.0)

pub loop-c-init : goal.loop-c-init
loop-c-init c = putting-begins _ _ _

pub put_cluster-at-requires : goal.put_cluster-at-requires
put_cluster-at-requires c =
    let l = c.loop-c in (
      cluster-few _ (cluster-there-within c.args.t c.requires.0 l.c-index c.loop-c-test.true),
      putting-room _ _ _ l.buf l.at _ l.invariant _ _ (clusters-left (listed c.args.t) l.c-index c.loop-c-test.true) (rw (table-lines c.args.t c.requires.0) at c.requires.1),
    )

pub loop-c-preserved : goal.loop-c-preserved
loop-c-preserved c =
    let l = c.loop-c in
    putting-on _ _ _ l.buf l.at _ l.invariant _ _ (clusters-left (listed c.args.t) l.c-index c.loop-c-test.true) _ _ c.put_cluster-at.ensures

pub returns : goal.returns
returns c =
    let l = c.loop-c in
    rw (table-lines c.args.t c.requires.0) (putting-done _ _ _ l.buf l.at _ l.invariant (clusters-over (listed c.args.t) l.c-index c.loop-c-test.false))
