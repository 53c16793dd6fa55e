-- `call_list::loaded::load_and_run` meets its contract: the four ways out; in the last demand 3 is met. Assumes nothing.
use borrow.Author.Rules.{rules}
use Rattle.base.proofs.Ladder.{told-no, told-yes}
use Rattle.call_list.proofs.LoadedWays.{ends-malformed, ends-short, ends-bad, ends-made}
use Rattle.call_list.proofs.loaded.load_and_run.Goals as goal

pub returns-then-not-rows_well_formed : goal.returns-then-not-rows_well_formed
returns-then-not-rows_well_formed c =
    let a = c.args in
    let told = ends-malformed a.s a.list.now a.first a.store.now a.answers.now a.words.now a.bytes.now c.answer_with.result (search told-no) (search rules) in
    record { exact = told.0; load_reply = told.1.0; demand3 = told.1.1 }

pub returns-then-words-answers : goal.returns-then-words-answers
returns-then-words-answers c =
    let a = c.args in
    let told =
    ends-short a.s a.list.now a.first a.store.now a.answers.now a.words.now a.bytes.now c.answer_with-then-words-answers.result (search told-yes) (search rules) (search rules) in
    record { exact = told.0; load_reply = told.1.0; demand3 = told.1.1 }

pub returns-in_default : goal.returns-in_default
returns-in_default c =
    let a = c.args in
    let told =
    ends-bad a.s a.list.now a.first a.store.now a.answers.now a.words.now a.bytes.now c.answer_with-in_default.result c.load-loaded.result _ c.load-loaded.ensures.exact (search told-yes) (search rules) c.in_default.not-Done c.answer_with-in_default.ensures in
    record { exact = told.0; load_reply = told.1.0; demand3 = told.1.1 }

pub make_all-state-requires : goal.make_all-state-requires
make_all-state-requires c = record { bytes_value = search told-yes; words_in_bounds = search rules }

pub returns : goal.returns
returns c =
    let a = c.args in
    let told =
    ends-made a.s a.list.now a.first a.store.now a.answers.now a.words.now a.bytes.now c.answer_with-2.result c.load-loaded.result _ c.load-loaded.ensures.exact (search told-yes) (search rules) c.load-loaded.ensures.meaning (search rules) c.make_all-state.result _ _ c.answer_with-2.ensures c.make_all-state.ensures in
    record { exact = told.0; load_reply = told.1.0; demand3 = told.1.1 }
