-- `state::session::with_entry` meets its contract: the store behind the last. Assumes nothing.
use borrow.Author.Rules.{rules}
use mathlib.Core.Path.{◌≡◌, ap}
use mathlib.Core.List.{List}
use Prim.Native.Nat.{◌+◌}
use native.Mathlib.Omega.{arith}
use lib.ListN.{length}
use Rattle.base.proofs.Counted.{unmapped}
use Rattle.clusters.proofs.Arrays.{set-put}
use Rattle.state.specs.declared.session.Entry.{Entry}
use Rattle.state.specs.declared.session.Session.{Session}
use Rattle.state.specs.View.{entries_most}
use Rattle.state.proofs.session.with_entry.Goals.{Start}
use Rattle.state.proofs.session.with_entry.Goals as goal

long : (c : Start) → length c.args.session.entries ≡ entries_most
long c = search (rules, unmapped)

pub returns : goal.returns
returns c =
    ap {B = Session}
    (λ (entries : List Entry). record { beginning = c.args.session.beginning; entries = entries; count = c.args.session.count + 1 })
    (set-put c.args.session.entries c.args.session.count c.args.entry (omega (arith, long (goal.at.returns c).Start, c.requires)))
