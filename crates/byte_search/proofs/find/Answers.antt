-- `byte_search::find` meets its contract. Assumes nothing.
use Rattle.std.proofs.Common.{rules, tests, ◌≡◌, ◌-◌, ℕ, take, drop, position}
use lib.Dec.{eqb}
use Rattle.std.proofs.lemmas.Iterator.{YieldsList-from_slice}
use Rattle.std.proofs.lemmas.Iterator.Search.{position_from_yields_List}
use Rattle.byte_search.proofs.FirstPlace.{index-found, index-none}
use Rattle.byte_search.proofs.find.Goals.{After-position}
use Rattle.byte_search.proofs.find.Goals as goal

answer : (c : After-position) → c.position.result ≡ position (λ x. eqb x c.args.b) (take (c.args.to - c.args.from) (drop c.args.from c.args.s.now))
answer c =
    position_from_yields_List (λ (x : ℕ). eqb x c.args.b) _ _ c.position.result c.position.ensures.ran
    (YieldsList-from_slice (take (c.args.to - c.args.from) (drop c.args.from c.args.s.now)) (cc)) (λ x b q k. search (rules, tests))

pub returns-in-Some-clause-value : goal.returns-in-Some-clause-value
returns-in-Some-clause-value c =
    index-found c.args.s.now c.args.from c.args.to c.requires.ordered c.requires.within c.args.b _ (answer (goal.at.returns-in-Some-clause-value c).After-position) c.in-Some.i c.in-Some.is

pub returns-in-None-clause-value : goal.returns-in-None-clause-value
returns-in-None-clause-value c =
    index-none c.args.s.now c.args.from c.args.to c.requires.ordered c.requires.within c.args.b _ (answer (goal.at.returns-in-None-clause-value c).After-position) c.in-None.is
