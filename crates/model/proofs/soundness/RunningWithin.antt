-- The staged and the running table of a sound state are within the limits, so that a list written of them can be loaded.
-- Assumes nothing.
use mathlib.Core.Path.{◌≡◌, ap, ◌∙◌}
use mathlib.Core.Bool.{true}
use mathlib.Core.Option.{Option, some}
use Prim.Native.Nat.{ℕ, ◌≤◌}
use lib.ListN.{length, replicate}
use Rattle.clusters.specs.Table.{Table, table_within}
use Rattle.cluster_list.specs.Read.{read_list}
use Rattle.cluster_list.proofs.RoundTrip.{list_back}
use Rattle.model.specs.State.{Phase, idle, ready, processing, activating, verifying, activated, rolling_back, rolled_back, cleaning_up, ready_cleans_up, activated_cleans_up, rolled_back_cleans_up, Session, State, Store}
use Rattle.model.specs.Tables.{staged, running_in, running}
use Rattle.model.specs.Calls.{done}
use Rattle.model.specs.Sound.{store_most, id_most, sound}
use Rattle.model.specs.Step.{outcome}
use Rattle.model.specs.Load.{table_or_empty, loaded_state, load}
use Rattle.model.specs.Reading.{cluster_info}
use Rattle.model.proofs.soundness.SoundFacts.{sound-says}
use Rattle.model.proofs.soundness.SoundSession.{staged-within}
use Rattle.model.proofs.soundness.LoadSound.{load_is, loads-is}

-- what holds of the beginning and of the staged table holds of the running one
pub of-running : (P : Table → Type 0) (session : Session) → P session.beginning → P (staged session) → (phase : Phase) → P (running_in phase session)
unfolding running_in
of-running P session old new idle = old
of-running P session old new ready = old
of-running P session old new processing = old
of-running P session old new activating = old
of-running P session old new verifying = new
of-running P session old new activated = new
of-running P session old new (rolling_back origin) = new
of-running P session old new rolled_back = old
of-running P session old new (cleaning_up ready_cleans_up) = old
of-running P session old new (cleaning_up activated_cleans_up) = new
of-running P session old new (cleaning_up rolled_back_cleans_up) = old

module _ (s : State) (store : Store) where
  pub running-within : sound s store ≡ true → table_within (running s) ≡ true
  unfolding running
  running-within h =
      let ok = sound-says s store h in
      of-running (λ t. table_within t ≡ true) s.session ok.beginning (staged-within s store ok) s.phase

-- what a sound state's ClusterInfo gives is loaded, and its table is the running one
module _ (s : State) (store : Store) (h : sound s store ≡ true) where
  info-read : read_list (cluster_info s) ≡ some (running s)
  unfolding cluster_info
  info-read = list_back (running s) (running-within s store h)

  pub info-loads : (other : State) (first : ℕ) (store' : Store) → 1 ≤ first → first ≤ id_most → length store' ≤ store_most
      → load other (cluster_info s) first store' ≡ outcome done (loaded_state (running s) first) (replicate (length store') 0)
  info-loads other first store' least most room =
      load_is other (cluster_info s) first store' (loads-is other (cluster_info s) first store' (running s) info-read least most room)
      ∙ ap (λ (o : Option Table). outcome done (loaded_state (table_or_empty o) first) (replicate (length store') 0)) info-read
