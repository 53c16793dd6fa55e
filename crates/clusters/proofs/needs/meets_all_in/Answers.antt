-- `clusters::needs::meets_all_in` meets its contract: each need that counts is looked up. Assumes nothing.
use Rattle.std.proofs.Common.{rules, tests, ◌∙◌, sym, ap, take}
use Rattle.std.proofs.lemmas.Iterator.{YieldsList-from_slice}
use Rattle.std.proofs.lemmas.Iterator.Search.{all_from_yields_List}
use Rattle.clusters.specs.Table.{meets, meets_all}
use Rattle.clusters.proofs.Along.{needs-few}
use Rattle.clusters.proofs.AllNeeds.{all-met}
use Rattle.clusters.proofs.needs.meets_all_in.Goals as goal

pub returns : goal.returns
returns c t of =
    let k = c.args.c in
    all_from_yields_List (meets t) _ _ c.all.result c.all.ensures.ran (YieldsList-from_slice (take k.need_count k.needs) (cc)) (λ x b q k. search (rules, tests, k, of))
    ∙ all-met t (take k.need_count k.needs)
    ∙ sym (ap (meets_all t) (needs-few k c.requires))
