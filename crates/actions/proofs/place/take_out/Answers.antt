-- `actions::place::take_out` meets its contract. Assumes nothing.
use mathlib.Core.Path.{sym, ap, ◌∙◌}
use Rattle.place_in_list.specs.Place.{Found}
use Rattle.actions.specs.Exact.{take_out_at, take_out}
use Rattle.clusters.proofs.Placing.{FoundIn, found_in_lem}
use Rattle.actions.proofs.place.take_out.Goals.{In-Some}
use Rattle.actions.proofs.place.take_out.Goals as goal

-- where the part number is found: the place counts, and the cluster there is the one found
found : (c : In-Some) → (FoundIn c.args.part c.args.t c.in-Some.place)
found c = found_in_lem _ _ _ c.requires (sym c.find.ensures.place ∙ c.in-Some.is)

pub returns-in_default : goal.returns-in_default
unfolding take_out
returns-in_default c =
    ap (λ (f : Found). take_out_at f c.args.t) (sym (sym c.find.ensures.place ∙ c.in_default.is))

pub close_gap-requires : goal.close_gap-requires
close_gap-requires c = (c.requires, (found (goal.at.close_gap-requires c).In-Some).below)

pub returns : goal.returns
unfolding take_out
returns c =
    c.close_gap.ensures ∙ ap (λ (f : Found). take_out_at f c.args.t) (sym (sym c.find.ensures.place ∙ c.in-Some.is))
