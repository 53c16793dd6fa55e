-- `load::load` meets its contract: each way out by its law, seen as the model has it. Assumes nothing.
use native.Mathlib.Omega.{arith}
use Rattle.load.proofs.Answers.{long-refused, no-id-refused, ill-refused, loads}
use Rattle.load.proofs.Views.{promised}
use Rattle.load.proofs.load.Goals as goal

pub returns-then-store-gt-STORE_MOST : goal.returns-then-store-gt-STORE_MOST
returns-then-store-gt-STORE_MOST c =
    let a = c.args in
    let told = promised _ _ _ _ _ _ (long-refused a.s a.list.now a.first a.store.now _ c.refused.ensures c.if-store-gt-STORE_MOST.true) in
    record { meaning = told.0; exact = told.1.0; sound = told.1.1 }

pub returns-then-first-lt1 : goal.returns-then-first-lt1
returns-then-first-lt1 c =
    let a = c.args in
    let told = promised _ _ _ _ _ _ (no-id-refused a.s a.list.now a.first a.store.now _ c.refused-then-first-lt1.ensures c.if-first-lt1.true) in
    record { meaning = told.0; exact = told.1.0; sound = told.1.1 }

pub returns-in_default : goal.returns-in_default
returns-in_default c =
    let a = c.args in
    let told = promised _ _ _ _ _ _ (ill-refused a.s a.list.now a.first a.store.now _ c.refused-in_default.ensures _ c.read_list.ensures.meaning c.in_default.is) in
    record { meaning = told.0; exact = told.1.0; sound = told.1.1 }

pub returns : goal.returns
returns c =
    let a = c.args in
    let told =
    promised _ _ _ _ _ _
    (loads a.s a.list.now a.first a.store.now _ _ _ _ _ c.if-store-gt-STORE_MOST.false c.if-first-lt1.false (omega arith) c.read_list.ensures.meaning c.read_list.ensures.exact c.in-Some.is c.loaded_state-loaded.ensures c.clear.ensures c.answer_with.ensures) in
    record { meaning = told.0; exact = told.1.0; sound = told.1.1 }
