-- `clusters::within::cluster_within` meets its contract: the tests of the definition, the number of needs first. Assumes nothing.
use Prim.Native.Nat.{◌≤◌, ◌<◌}
use mathlib.Core.Path.{◌≡◌, refl, ap₂, ◌∙◌}
use mathlib.Core.Bool.{Bool, true, false, ◌&&◌}
use borrow.Author.Tests.{lt-leb}
use Rattle.text.specs.Version.{version_within}
use Rattle.clusters.specs.declared.cluster.Cluster.{Cluster}
use Rattle.clusters.specs.Cluster.{part_within, needs_within, needs_most, cluster_within}
use Rattle.clusters.specs.View.{view_cluster}
use Rattle.clusters.proofs.Along.{needs-fit, needs-too-many}
use Rattle.clusters.proofs.within.cluster_within.Goals as goal

third-no : (a b t d : Bool) → t ≡ false → false ≡ a && (b && (t && d))
third-no true true t d e = rw e
third-no true false t d e = refl
third-no false b t d e = refl

too_many : (c : Cluster) → needs_most < c.need_count → false ≡ cluster_within (view_cluster c)
unfolding cluster_within
too_many c h = third-no (part_within c.part) (version_within c.version) _ (needs_within (view_cluster c).needs) (needs-too-many c h)

few-enough : (c : Cluster) → c.need_count ≤ needs_most → part_within c.part && (version_within c.version && needs_within (view_cluster c).needs) ≡ cluster_within (view_cluster c)
unfolding cluster_within
few-enough c h = rw (needs-fit c h)

pub returns-else-c-le-NEEDS_MOST : goal.returns-else-c-le-NEEDS_MOST
returns-else-c-le-NEEDS_MOST c =
    let h = c.if-c-le-NEEDS_MOST.false in
    lt-leb c.args.c.need_count needs_most h ∙ too_many c.args.c h

pub returns-then-c-le-NEEDS_MOST : goal.returns-then-c-le-NEEDS_MOST
returns-then-c-le-NEEDS_MOST c =
    ap₂ ◌&&◌ c.part_within.ensures (ap₂ ◌&&◌ c.version_within.ensures c.needs_within.ensures)
    ∙ few-enough c.args.c c.if-c-le-NEEDS_MOST.true
