-- `start_waves::rounds::can_start` meets its contract: the places of the cluster's needs are tested. Assumes nothing.
use Rattle.std.proofs.Common.{rules, tests, ◌≡◌, ◌∙◌, ◌+◌, ◌-◌, ◌*◌, ap, take, drop, ℕ, arith}
use Rattle.std.proofs.lemmas.Iterator.{YieldsList-from_slice}
use Rattle.std.proofs.lemmas.Iterator.Search.{all_from_yields_List}
use Rattle.start_waves.specs.StartOrder.{all}
use Rattle.start_waves.specs.Listed.{passes}
use Rattle.start_waves.proofs.JoinLaws.{all-is}
use Rattle.start_waves.proofs.rounds.can_start.Goals as goal

pub returns : goal.returns
returns c =
    let own = c.args.own in
    let four : (own + 1) * 4 - own * 4 ≡ 4 = omega arith in
    let test = passes c.args.waves.now own c.args.number in
    let here = take ((own + 1) * 4 - own * 4) (drop (own * 4) c.args.waits.now) in
    all_from_yields_List (passes c.args.waves.now own c.args.number) _ _ c.all.result c.all.ensures.ran
    (YieldsList-from_slice (take ((own + 1) * 4 - own * 4) (drop (own * 4) c.args.waits.now)) (cc)) (λ x b q k. search (rules, tests))
    ∙ all-is test here
    ∙ ap (λ (n : ℕ). all test (take n (drop (own * 4) c.args.waits.now))) four
