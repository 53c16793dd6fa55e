-- `actions::place::replace` meets its contract: the store at the place found, with the mark that was read there. Assumes nothing.
use borrow.Author.Rules.{rules}
use native.Mathlib.Omega.{arith}
use mathlib.Core.Path.{◌≡◌, sym, ap, ◌∙◌}
use mathlib.Core.List.{List}
use lib.ListN.{length}
use Rattle.base.proofs.Counted.{unmapped}
use Rattle.clusters.specs.declared.cluster.Cluster.{Cluster}
use Rattle.clusters.specs.declared.table.Table.{Table}
use Rattle.place_in_list.specs.Place.{Found}
use Rattle.clusters.specs.Exact.{put_at}
use Rattle.actions.specs.Exact.{replace_at, replace}
use Rattle.clusters.proofs.Arrays.{set-put}
use Rattle.clusters.proofs.Placing.{FoundIn, found_in_lem}
use Rattle.actions.proofs.place.replace.Goals.{In-Some, Start}
use Rattle.actions.proofs.place.replace.Goals as goal

long : (c : Start) → length c.args.t.clusters ≡ 64
long c = search (rules, unmapped)

-- where the part number is found: the place counts, and the cluster there is the one found
found : (c : In-Some) → (FoundIn c.args.c.part c.args.t c.in-Some.place)
found c = found_in_lem _ _ _ c.requires (sym c.find.ensures.place ∙ c.in-Some.is)

pub returns-in_default : goal.returns-in_default
unfolding replace
returns-in_default c =
    ap (λ (f : Found). replace_at f c.args.c c.args.t) (sym (sym c.find.ensures.place ∙ c.in_default.is))

pub offset_bounds-clusters-place : goal.offset_bounds-clusters-place
offset_bounds-clusters-place c = omega (arith, (found (goal.at.offset_bounds-clusters-place c).In-Some).below)

pub bounds-clusters-place : goal.bounds-clusters-place
bounds-clusters-place c = omega (arith, (found (goal.at.bounds-clusters-place c).In-Some).below)

pub offset_bounds-clusters-place-2 : goal.offset_bounds-clusters-place-2
offset_bounds-clusters-place-2 c = omega (arith, (found (goal.at.offset_bounds-clusters-place-2 c).In-Some).below)

pub bounds-clusters-place-2 : goal.bounds-clusters-place-2
bounds-clusters-place-2 c = omega (arith, (found (goal.at.bounds-clusters-place-2 c).In-Some).below)

pub returns : goal.returns
unfolding replace
returns c =
    let t = c.args.t in
    let place = c.in-Some.place in
    ap {B = Table} (λ (clusters : List Cluster). record { clusters = clusters; count = t.count })
    (set-put t.clusters place c.with_mark-new.result (omega (arith, (found (goal.at.returns c).In-Some).below, long (goal.at.returns c).Start)) ∙ ap (λ (new : Cluster). put_at place new t.clusters) c.with_mark-new.ensures)
    ∙ ap (λ (f : Found). replace_at f c.args.c t) (sym (sym c.find.ensures.place ∙ c.in-Some.is))
