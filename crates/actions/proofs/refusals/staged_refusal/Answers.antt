-- `actions::refusals::staged_refusal` meets its contract: the same tests in the same order. Assumes nothing.
use Rattle.base.proofs.RefusalNumbers.{numbers}
use Rattle.actions.proofs.refusals.staged_refusal.Goals as goal

pub returns-then-cluster_present : goal.returns-then-cluster_present
returns-then-cluster_present c staged d e v = search (numbers, c.cluster_present.ensures staged d e)

pub returns-then-cluster_absent : goal.returns-then-cluster_absent
returns-then-cluster_absent c staged d e v = search (numbers, c.cluster_present.ensures staged d e, c.cluster_absent.ensures staged d e)

pub returns-then-cluster_stays : goal.returns-then-cluster_stays
returns-then-cluster_stays c staged d e v =
    search (numbers, c.cluster_present.ensures staged d e, c.cluster_absent.ensures staged d e, c.cluster_stays.ensures staged d e) depth 6

pub returns-then-old_version : goal.returns-then-old_version
returns-then-old_version c staged d e v =
    search (numbers, c.cluster_present.ensures staged d e, c.cluster_absent.ensures staged d e, c.cluster_stays.ensures staged d e, c.old_version.ensures staged d e v) depth 7

pub returns-then-table_full : goal.returns-then-table_full
returns-then-table_full c staged d e v =
    search (numbers, c.cluster_present.ensures staged d e, c.cluster_absent.ensures staged d e, c.cluster_stays.ensures staged d e, c.old_version.ensures staged d e v, c.table_full.ensures d) depth 8

pub returns : goal.returns
returns c staged d e v =
    search (numbers, c.cluster_present.ensures staged d e, c.cluster_absent.ensures staged d e, c.cluster_stays.ensures staged d e, c.old_version.ensures staged d e v, c.table_full.ensures d) depth 8
