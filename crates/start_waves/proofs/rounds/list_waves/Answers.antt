-- `start_waves::rounds::list_waves` meets its contract. The loop's invariant is `Listing`: the waves so far are listed, and the rounds that are
-- left give the others. The measure is the number of clusters that are not listed. Assumes nothing.
use mathlib.Core.Path.{◌≡◌, ◌∙◌}
use mathlib.Core.Bool.{false}
use native.Mathlib.Omega.{arith}
use lib.ListN.{length}
use borrow.Author.Rules.{rules}
use Rattle.clusters.specs.Table.{Table}
use Rattle.start_waves.specs.StartOrder.{select, add_wave}
use Rattle.start_waves.specs.Listed.{ArraysOf, joins, Listed}
use Rattle.start_waves.proofs.Listing.{listing_begins, none_left, one-round-more, numbered-so-far, still-listed, rest-closed}
use Rattle.start_waves.proofs.rounds.list_waves.Goals.{After-add_wave-next}
use Rattle.start_waves.proofs.rounds.list_waves.Goals as goal

-- the buffer keeps its length
kept : (c : After-add_wave-next) → length c.add_wave-next.new.buffer ≡ length c.loop-started.buffer
kept c = search rules

-- what a round listed
listed : (c : After-add_wave-next) (t : Table) (of : (ArraysOf c.args.parts.now c.args.waits.now c.args.size t))
    → (let entries = (c.loop-started.invariant.lists t of).entries in
    Listed t (add_wave entries (select (joins false entries) t)) c.add_wave-next.result c.args.buffer.now c.add_wave-next.new.buffer)
listed c t of =
    let so_far = c.loop-started.invariant.lists t of in
    c.add_wave-next.ensures.listed t so_far.entries _ of so_far.next (numbered-so-far _ _ _ _ _ so_far) so_far.listed

pub loop-started-init : goal.loop-started-init
loop-started-init c = listing_begins _ _ _ _ (search rules)

pub add_wave-next-requires : goal.add_wave-next-requires
add_wave-next-requires c =
    (c.requires.0, c.loop-started.invariant.one, omega (arith, c.requires.1, c.loop-started.invariant.all_fit, c.loop-started.invariant.lent))

pub add_wave-requires : goal.add_wave-requires
add_wave-requires c =
    (c.requires.0, c.loop-started.invariant.one, omega (arith, c.requires.1, c.loop-started.invariant.all_fit, c.loop-started.invariant.lent, c.add_wave-next.ensures.room.0, kept (goal.at.add_wave-requires c).After-add_wave-next))

pub returns-then-next-started : goal.returns-then-next-started
returns-then-next-started c t of =
    let so_far = c.loop-started.invariant.lists t of in
    let still = still-listed t of.within _ _ _ _ _ _ so_far (listed (goal.at.returns-then-next-started c).After-add_wave-next t of) c.if-next-started.true in
    rest-closed t of.within _ _ _ _ _ _ so_far (listed (goal.at.returns-then-next-started c).After-add_wave-next t of) c.if-next-started.true _ _
    (c.add_wave.ensures.listed t so_far.entries _ of so_far.next (numbered-so-far _ _ _ _ _ so_far) still)

pub overflow_add-number : goal.overflow_add-number
overflow_add-number c = omega (arith, c.loop-started.invariant.few, c.loop-started.invariant.all_fit, c.requires.0.0)

pub loop-started-smaller : goal.loop-started-smaller
loop-started-smaller c = omega (arith, c.add_wave-next.ensures.room.1, c.loop-started-test.true, c.if-next-started.false)

pub loop-started-preserved : goal.loop-started-preserved
loop-started-preserved c =
    let inv = c.loop-started.invariant in
    record {
      lent = kept (goal.at.loop-started-preserved c).After-add_wave-next ∙ inv.lent;
      all_fit = c.add_wave-next.ensures.room.0 ∙ inv.all_fit;
      one = omega arith;
      few = omega (arith, inv.few, c.add_wave-next.ensures.room.1, c.if-next-started.false);
      lists = λ t of. one-round-more t of.within _ _ _ _ _ _ (inv.lists t of) (listed (goal.at.loop-started-preserved c).After-add_wave-next t of) c.if-next-started.false;
    }

pub returns : goal.returns
returns c t of =
    none_left t of.within _ _ _ _ (c.loop-started.invariant.lists t of) (omega (arith, of.sized, c.loop-started-test.false))
