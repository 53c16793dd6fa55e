-- `soundness::kept::with_kept` meets its contract: the entries as they are, or the store behind those that count. Assumes nothing.
use borrow.Author.Rules.{rules}
use borrow.Author.Tests.{not-true, not-false}
use mathlib.Core.Path.{◌≡◌, ap, ◌∙◌}
use mathlib.Core.Bool.{true, false}
use mathlib.Core.List.{List, [], ◌∷◌, map, map-append}
use Prim.Native.Nat.{◌+◌, ◌≤◌}
use native.Mathlib.Omega.{arith}
use lib.ListN.{length, take}
use Rattle.base.proofs.Counted.{unmapped}
use Rattle.clusters.proofs.Arrays.{set-put, first-put}
use Rattle.state.specs.declared.session.Entry.{Entry}
use Rattle.state.specs.View.{entries_most}
use Rattle.listed_actions.specs.Listed.{entry_action, listed_actions}
use Rattle.soundness.proofs.kept.with_kept.Goals.{Else-not-processing, Start, Then-not-processing}
use Rattle.soundness.proofs.kept.with_kept.Goals as goal

long : (c : Start) → length c.args.entries ≡ entries_most
long c = search (rules, unmapped)

out : (c : Then-not-processing) → c.args.processing ≡ false
out c = not-true c.args.processing c.if-not-processing.true-raw

in-it : (c : Else-not-processing) → c.args.processing ≡ true
in-it c = not-false c.args.processing c.if-not-processing.false-raw

room : (c : Else-not-processing) → c.args.count + 1 ≤ entries_most
room c = rw (in-it c) at c.requires

pub returns-then-not-processing : goal.returns-then-not-processing
returns-then-not-processing c =
    let no_more : c.args.count + 0 ≡ c.args.count = omega arith in
    rw (out (goal.at.returns-then-not-processing c).Then-not-processing) (ap (listed_actions c.args.entries) no_more)

pub bounds-more-count : goal.bounds-more-count
bounds-more-count c = omega (arith, room (goal.at.bounds-more-count c).Else-not-processing)

pub returns : goal.returns
returns c =
    let entry : Entry = record { id = 0; action = c.args.action } in
    rw (in-it (goal.at.returns c).Else-not-processing)
    (ap (λ (l : List Entry). map entry_action (take (c.args.count + 1) l)) (set-put c.args.entries c.args.count entry (omega (arith, long (goal.at.returns c).Start, room (goal.at.returns c).Else-not-processing)))
    ∙ ap (map entry_action) (first-put c.args.count entry c.args.entries)
    ∙ map-append entry_action (take c.args.count c.args.entries) (entry ∷ []))
