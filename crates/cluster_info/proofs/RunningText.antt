-- The running table that the code has of a sound state is the model's: within its limits, and its text is ClusterInfo's. Assumes nothing.
use mathlib.Core.Path.{◌≡◌, ap, ◌∙◌}
use mathlib.Core.Bool.{true}
use mathlib.Core.List.{List}
use Prim.Native.Nat.{ℕ}
use lib.ListN.{length}
use Rattle.clusters.specs.declared.table.Table.{Table}
use Rattle.clusters.specs.Table as plain
use Rattle.clusters.specs.Table.{clusters_most, table_within}
use Rattle.clusters.specs.View.{view_table}
use Rattle.cluster_list.specs.Write.{write_list}
use Rattle.model.specs.State.{Store}
use Rattle.model.specs.Tables.{running}
use Rattle.model.specs.Sound.{sound}
use Rattle.model.specs.Reading.{Report, cluster_info}
use Rattle.model.proofs.soundness.RunningWithin.{running-within}
use Rattle.state.specs.declared.state.State.{State}
use Rattle.state.specs.View.{view_state}
use Rattle.staging.specs.Staged.{running_table}
use Rattle.staging.proofs.StagedViews.{view-running}
use Rattle.soundness.proofs.SoundSession.{session-fits, session-sound}
use Rattle.reading_reply.specs.Reply.{report_on_sound}

-- t is what the code gave
module _ (s : State) (store : Store) (ok : sound (view_state s) store ≡ true) (long : length s.session.beginning.clusters ≡ clusters_most)
    (t : Table) (e : t ≡ running_table s.phase s.session) where
  is-running : view_table t ≡ running (view_state s)
  unfolding running
  is-running = ap view_table e ∙ view-running s.session (session-fits s store ok) long (session-sound s store ok) s.phase

  pub within : table_within (view_table t) ≡ true
  within = rw is-running (running-within (view_state s) store ok)

  pub running-report : (r : Report ℕ) (old : List ℕ) → r ≡ report_on_sound (write_list (view_table t)) old
      → r ≡ report_on_sound (cluster_info (view_state s)) old
  unfolding cluster_info
  running-report r old f = f ∙ ap (λ (table : plain.Table). report_on_sound (write_list table) old) is-running
