-- `staging::staged` meets its contract. The loop's invariant: the staged table is the table so far with the entries from i on applied.
-- Assumes nothing.
use borrow.Author.Rules.{rules}
use native.Mathlib.Omega.{arith}
use mathlib.Core.Path.{◌≡◌, refl, sym, ap, ◌∙◌}
use mathlib.Core.List.{List}
use Prim.Native.Nat.{ℕ, ◌+◌, ◌≤◌, ◌<◌}
use lib.ListN.{length, take, drop, get_or}
use Rattle.base.proofs.Counted.{unmapped, seen_step, seen_end}
use Rattle.clusters.specs.declared.table.Table.{Table}
use Rattle.actions.specs.Exact.{apply}
use Rattle.state.specs.declared.session.Entry.{Entry}
use Rattle.state.specs.View.{entries_most, no_entry}
use Rattle.staging.specs.Staged.{staged_from, staged_table}
use Rattle.staging.proofs.staged.Goals.{Start}
use Rattle.staging.proofs.staged.Goals as goal

-- the listed entries are in the array
few : (c : Start) → c.args.session.count ≤ length c.args.session.entries
few c =
    let long : length c.args.session.entries ≡ entries_most = search (rules, unmapped) in
    omega (arith, long, c.requires)

-- one entry more is applied
next-staged : (table : Table) (n : ℕ) (entries : List Entry) → n ≤ length entries → (i : ℕ) → i < n
    → staged_from table (drop i (take n entries)) ≡ staged_from (apply (get_or entries i no_entry).action table) (drop (i + 1) (take n entries))
unfolding staged_from
next-staged table n entries le i h = rw (seen_step entries n le i no_entry h)

pub loop-i-init : goal.loop-i-init
unfolding staged_table
loop-i-init c = refl

pub loop-i-preserved : goal.loop-i-preserved
loop-i-preserved c =
    let session = c.args.session in
    let l = c.loop-i in
    l.invariant
    ∙ next-staged l.table session.count session.entries (few (goal.at.loop-i-preserved c).Start) l.i c.loop-i-test.true
    ∙ ap (λ (t : Table). staged_from t (drop (l.i + 1) (take session.count session.entries))) (sym c.apply-table.ensures)

pub returns : goal.returns
unfolding staged_from
returns c =
    let session = c.args.session in
    let l = c.loop-i in
    sym (l.invariant
    ∙ ap (λ (es : List Entry). staged_from l.table es) (seen_end session.entries session.count (few (goal.at.returns c).Start) l.i c.loop-i-test.false))
