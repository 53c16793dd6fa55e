-- `listed_actions::in_turn::pass_in_turn` meets its contract. The loop's invariant: of each table that the columns are of, the list passes
-- in turn exactly where the rest from i on passes after the first i, with so many clusters staged. Assumes nothing.
use borrow.Author.Rules.{rules}
use native.Mathlib.Omega.{arith}
use mathlib.Core.Path.{◌≡◌, refl, sym, ap, ◌∙◌}
use mathlib.Core.List.{List, []}
use Prim.Native.Nat.{ℕ, ◌+◌}
use mathlib.Core.Bool.{not}
use lib.ListN.{length, take, drop, get_or}
use borrow.Author.Tests.{not-true, not-false}
use Rattle.base.proofs.Counted.{unmapped, from_end}
use Rattle.clusters.specs.Table.{Table}
use Rattle.clusters.specs.View.{view_cluster}
use Rattle.clusters.specs.Columns.{ColumnsOf}
use Rattle.actions.specs.Action.{Action}
use Rattle.actions.proofs.StagedLaws.{part_of}
use Rattle.state.specs.View.{entries_most, no_entry}
use Rattle.listed_actions.specs.Listed.{entry_action, listed_actions}
use Rattle.listed_actions.specs.InTurn.{passes_untouched, staged_after, pass_in_turn_on}
use Rattle.listed_actions.proofs.Untouched.{pass-in-turn-is}
use Rattle.listed_actions.proofs.ColumnTurn.{refused-untouched, at-most-one-more, stops-touched, stops-refused, goes_on}
use Rattle.listed_actions.proofs.in_turn.pass_in_turn.Goals.{After-is_err, Start}
use Rattle.listed_actions.proofs.in_turn.pass_in_turn.Goals as goal

long : (c : Start) → length c.args.entries ≡ entries_most
long c = search (rules, unmapped)

-- the check refuses exactly where the entry's action does not pass 12 to 15 and 21
told : (c : After-is_err) → (let a = c.args in
    (t : Table) → ColumnsOf a.columns t → c.is_err.result ≡ not (passes_untouched t c.loop-i.staged (entry_action (get_or a.entries c.loop-i.i no_entry))))
told c t of =
    let a = c.args in
    let e = get_or a.entries c.loop-i.i no_entry in
    let cluster = view_cluster e.action.cluster in
    c.is_err.ensures.value ∙ refused-untouched t _ _ _ _ (sym (part_of e.action.change cluster)) (c.staged_refusal.ensures _ cluster (c.staged_in-old.ensures t of) refl)

pub loop-i-init : goal.loop-i-init
loop-i-init c = (
  omega (arith, c.args.columns.few),
  λ t of w within. pass-in-turn-is t (listed_actions c.args.entries c.args.count) w within ∙ ap (λ (n : ℕ). pass_in_turn_on t n [] (listed_actions c.args.entries c.args.count)) (sym of.size),
)

pub is_among-requires : goal.is_among-requires
is_among-requires c = (omega arith, search rules)

pub returns-then-is_among : goal.returns-then-is_among
returns-then-is_among c t of w within =
    let l = c.loop-i in
    let s = (goal.at.returns-then-is_among c).Start in
    stops-touched t c.args.entries c.args.count l.i l.staged c.entry_columns-listed.result.parts (omega (arith, long s, c.requires)) c.loop-i-test.true c.entry_columns-listed.ensures.parts _ _ (l.invariant.1 t of w within) (sym c.is_among.ensures ∙ c.if-is_among.true)

pub returns-then-is_err : goal.returns-then-is_err
returns-then-is_err c t of w within =
    let l = c.loop-i in
    let s = (goal.at.returns-then-is_err c).Start in
    let k = (goal.at.returns-then-is_err c).After-is_err in
    stops-refused t c.args.entries c.args.count l.i l.staged c.entry_columns-listed.result.parts (omega (arith, long s, c.requires)) c.loop-i-test.true c.entry_columns-listed.ensures.parts _ _ (l.invariant.1 t of w within) (sym c.is_among.ensures ∙ c.if-is_among.false) (not-true _ (sym (told k t of) ∙ c.if-is_err.true))

pub loop-i-preserved : goal.loop-i-preserved
loop-i-preserved c =
    let l = c.loop-i in
    let s = (goal.at.loop-i-preserved c).Start in
    let k = (goal.at.loop-i-preserved c).After-is_err in
    let listed = listed_actions c.args.entries c.args.count in
    let e = get_or c.args.entries l.i no_entry in
    let after : c.staged_after-staged.result ≡ staged_after (entry_action e) l.staged = c.staged_after-staged.ensures (view_cluster e.action.cluster) in (
      omega (arith, after, at-most-one-more (entry_action e) l.staged, l.invariant.0),
      λ t of w within.
          goes_on t c.args.entries c.args.count l.i l.staged c.entry_columns-listed.result.parts (omega (arith, long s, c.requires)) c.loop-i-test.true c.entry_columns-listed.ensures.parts _ _ (l.invariant.1 t of w within) (sym c.is_among.ensures ∙ c.if-is_among.false) (not-false _ (sym (told k t of) ∙ c.if-is_err.false))
          ∙ ap (λ (n : ℕ). pass_in_turn_on t n (take (l.i + 1) listed) (drop (l.i + 1) listed)) (sym after),
    )

pub returns : goal.returns
unfolding pass_in_turn_on
returns c t of w within =
    let l = c.loop-i in
    sym (l.invariant.1 t of w within ∙ ap (λ (rest : List Action). pass_in_turn_on t l.staged (take l.i (listed_actions c.args.entries c.args.count)) rest)
    (from_end entry_action c.args.entries c.args.count (omega (arith, long (goal.at.returns c).Start, c.requires)) l.i c.loop-i-test.false))
