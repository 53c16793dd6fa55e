-- `clusters::within::needs_within` meets its contract: each need that counts is tested. Assumes nothing.
use Rattle.std.proofs.Common.{rules, tests, ◌∙◌, sym, ap, take}
use Rattle.std.proofs.lemmas.Iterator.{YieldsList-from_slice}
use Rattle.std.proofs.lemmas.Iterator.Search.{all_from_yields_List}
use Rattle.clusters.specs.Cluster.{need_within, needs_within}
use Rattle.clusters.proofs.Along.{needs-few}
use Rattle.clusters.proofs.AllNeeds.{all-within}
use Rattle.clusters.proofs.within.needs_within.Goals as goal

pub returns : goal.returns
returns c =
    let k = c.args.c in
    all_from_yields_List need_within _ _ c.all.result c.all.ensures.ran (YieldsList-from_slice (take k.need_count k.needs) (cc)) (λ x b q k. search (rules, tests))
    ∙ all-within (take k.need_count k.needs)
    ∙ sym (ap needs_within (needs-few k c.requires))
