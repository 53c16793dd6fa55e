-- The ways out of the report of the waves: refused by 1 or by 19, or given. A refusal leaves the buffer as it was; an accepted report leaves
-- two numbers for each cluster and behind them the old values. The table that the code has of a sound state is the running one. Assumes nothing.
use Prim.Native.Nat.{ℕ, ◌+◌, ◌*◌, ◌/◌, ◌≤◌, ◌<◌}
use mathlib.Core.Path.{◌≡◌, refl, sym, ap, ◌∙◌}
use mathlib.Core.Bool.{Bool, true, false, not}
use mathlib.Core.List.{List, ◌++◌}
use native.Mathlib.Nat.{zero-add, div-add-mod', mod-lt}
use native.Mathlib.Omega.{arith}
use lib.ListN.{length, drop}
use lib.Seq.{sets, sets-eq}
use borrow.Author.Tests.{lt-ltb, le-ltb}
use Rattle.base.specs.Refusals.{first_refusal}
use Rattle.base.proofs.Ladder.{told-no, told-yes}
use Rattle.clusters.specs.declared.table.Table.{Table as TableStruct}
use Rattle.clusters.specs.declared.columns.Columns.{Columns}
use Rattle.clusters.specs.Table.{Table, table_within, clusters_most}
use Rattle.clusters.specs.View.{view_table}
use Rattle.clusters.specs.Columns.{ColumnsOf}
use Rattle.clusters.proofs.Along.{table-length}
use Rattle.clusters.proofs.Views.{few-of-within}
use Rattle.model.specs.State.{Store}
use Rattle.model.specs.State as model
use Rattle.model.specs.Tables.{running}
use Rattle.model.specs.Sound.{sound}
use Rattle.model.specs.Reading.{refused_by, short_buffer, given, Report, further_report_refusals, report_reply}
use Rattle.model.proofs.soundness.RunningWithin.{running-within}
use Rattle.model.proofs.reading.Replies.{report-decided, report-unsound}
use Rattle.state.specs.declared.state.State.{State}
use Rattle.state.specs.View.{view_state}
use Rattle.staging.specs.Staged.{running_table}
use Rattle.staging.proofs.StagedViews.{view-running}
use Rattle.soundness.proofs.SoundSession.{session-fits, session-sound}
use Rattle.reading_reply.specs.declared.ReadingReply.TheVariants.{Refused, ShortBuffer, Given}
use Rattle.reading_reply.specs.Reply.{view_report, reply_on_sound}
use Rattle.start_waves.specs.StartOrder.{start_waves}
use Rattle.start_waves.specs.WavesReport.{numbers_of, waves_buffer, waves_reply, waves_report}
use Rattle.start_waves.specs.OnSound.{waves_on_sound}
use Rattle.start_waves.specs.Waits.{WaitsOf}
use Rattle.start_waves.specs.Listed.{ArraysOf}
use Rattle.start_waves.proofs.NumbersOf.{two-numbers-each}
use Rattle.start_waves.proofs.order.ListedOnce.{all_listed}

-- ---- the columns of a table's struct

module _ (t : TableStruct) (within : table_within (view_table t) ≡ true) (long : length t.clusters ≡ clusters_most) (columns : Columns)
    (of : ColumnsOf columns (view_table t)) where
  pub same_count : columns.count ≡ t.count
  same_count = of.size ∙ table-length t (few-of-within t within) long

  pub arrays-of : (waits : List ℕ) → WaitsOf waits (view_table t) t.count → ArraysOf columns.parts waits columns.count (view_table t)
  arrays-of waits h = record { within = within; sized = of.size; parts-of = of.parts; waits-of = rw same_count h }

-- ---- after refusal 1: n is the number of clusters

module _ (t : Table) (old : List ℕ) (n : ℕ) (e : n ≡ length t) where
  pub short-waves : length old / 2 < n → view_report (ShortBuffer n) old ≡ waves_on_sound t old
  unfolding waves_on_sound waves_buffer reply_on_sound further_report_refusals first_refusal
  short-waves h = rw (e, lt-ltb (length old / 2) (length t) (rw e at h))

  pub given-waves : table_within t ≡ true → n ≤ length old / 2 → (new : List ℕ) → new ≡ sets old 0 (numbers_of (start_waves t))
      → view_report (Given n) new ≡ waves_on_sound t old
  unfolding waves_on_sound waves_buffer reply_on_sound further_report_refusals first_refusal
  given-waves within h new same =
      let room : 0 + length (numbers_of (start_waves t)) ≤ length old =
      omega (arith, two-numbers-each (start_waves t), all_listed t within, div-add-mod' (length old) 2) in
      let put : new ≡ numbers_of (start_waves t) ++ drop (length (numbers_of (start_waves t))) old = same ∙ sets-eq (numbers_of (start_waves t)) old 0 room ∙ rw zero-add in
      rw (e, put, le-ltb (length old / 2) (length t) (rw e at h))

-- ---- the running table: t is what the code gave

module _ (s : State) (store : Store) (ok : sound (view_state s) store ≡ true) (long : length s.session.beginning.clusters ≡ clusters_most)
    (t : TableStruct) (e : t ≡ running_table s.phase s.session) where
  is-running : view_table t ≡ running (view_state s)
  unfolding running
  is-running = ap view_table e ∙ view-running s.session (session-fits s store ok) long (session-sound s store ok) s.phase

  pub running-fits : table_within (view_table t) ≡ true
  running-fits = rw is-running (running-within (view_state s) store ok)

  pub running-waves : (r : Report ℕ) (old : List ℕ) → r ≡ waves_on_sound (view_table t) old → r ≡ waves_on_sound (running (view_state s)) old
  running-waves r old f = f ∙ ap (λ (table : Table). waves_on_sound table old) is-running

-- ---- 1: b is what the check of soundness answers

module _ (s : model.State) (store : Store) (old : List ℕ) (b : Bool) (told : b ≡ sound s store) where
  pub refuse-unsound-waves : not b ≡ true → view_report (Refused 1) old ≡ waves_report s store old
  unfolding waves_report waves_reply waves_buffer
  refuse-unsound-waves h = rw (report-unsound s store (length (running s)) (length old / 2) (told-no b _ told h))

  pub pass-sound-waves : (r : Report ℕ) → not b ≡ false → r ≡ waves_on_sound (running s) old → r ≡ waves_report s store old
  unfolding waves_report waves_reply waves_on_sound report_reply reply_on_sound
  pass-sound-waves r h e = rw (e, report-decided s store (length (running s)) (length old / 2) (told-yes b _ told h))

-- ---- what A.3 says of the report, from any state, store and lent numbers

module _ (s : model.State) (store : Store) (old : List ℕ) where
  pub unsound-report : sound s store ≡ false → waves_report s store old ≡ record { reply = refused_by 1; buffer = old }
  unsound-report h = sym (refuse-unsound-waves s store old false (sym h) refl)

  module _ (ok : sound s store ≡ true) where
    pub short-report : length old < 2 * length (running s) → waves_report s store old ≡ record { reply = short_buffer (length (running s)); buffer = old }
    short-report h =
        sym (pass-sound-waves s store old true (sym ok) _ refl (short-waves (running s) old _ refl (omega (arith, div-add-mod' (length old) 2))))

    pub given-report : 2 * length (running s) ≤ length old
        → waves_report s store old ≡ record { reply = given (length (running s)); buffer = numbers_of (start_waves (running s)) ++ drop (2 * length (running s)) old }
    given-report h =
        let within = running-within s store ok in
        let numbers : 2 * length (running s) ≡ length (numbers_of (start_waves (running s))) =
        omega (arith, two-numbers-each (start_waves (running s)), all_listed (running s) within) in
        sym (pass-sound-waves s store old true (sym ok) _ refl
        (given-waves (running s) old _ refl within (omega (arith, div-add-mod' (length old) 2, mod-lt (length old) {m = 2} (omega arith))) _
        (rw numbers (sym (sets-eq (numbers_of (start_waves (running s))) old 0 (omega (arith, numbers)) ∙ rw zero-add)))))
