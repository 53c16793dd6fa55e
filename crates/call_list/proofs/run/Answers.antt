-- `call_list::run` meets its contract: the three ways out. Assumes nothing.
use borrow.Author.Rules.{rules}
use Rattle.base.proofs.Ladder.{told-no, told-yes}
use Rattle.call_list.proofs.RunWays.{ends-malformed, ends-short, ends-made}
use Rattle.call_list.proofs.run.Goals as goal

pub returns-then-not-rows_well_formed : goal.returns-then-not-rows_well_formed
returns-then-not-rows_well_formed c =
    let a = c.args in
    let told = ends-malformed a.s a.store.now a.answers.now a.words.now a.bytes.now c.answer_with.result (search told-no) (search rules) in
    record { meaning = told.0; exact = told.1.0; goes_on = told.1.1 }

pub returns-then-words-answers : goal.returns-then-words-answers
returns-then-words-answers c =
    let a = c.args in
    let told =
    ends-short a.s a.store.now a.answers.now a.words.now a.bytes.now c.answer_with-then-words-answers.result (search told-yes) (search rules) (search rules) in
    record { meaning = told.0; exact = told.1.0; goes_on = told.1.1 }

pub make_all-state-requires : goal.make_all-state-requires
make_all-state-requires c = record { bytes_value = search told-yes; words_in_bounds = search rules }

pub returns : goal.returns
returns c =
    let a = c.args in
    let told =
    ends-made a.s a.store.now a.answers.now a.words.now a.bytes.now c.answer_with-2.result (search told-yes) (search rules) c.make_all-state.result _ _ c.answer_with-2.ensures c.make_all-state.ensures in
    record { meaning = told.0; exact = told.1.0; goes_on = told.1.1 }
