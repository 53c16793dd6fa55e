-- An accepted Load gives a state and store that the invariant ties to the journal opened with the loaded table. Assumes nothing.
use mathlib.Core.Path.{◌≡◌, refl, sym, ap, subst, ◌∙◌}
use mathlib.Core.Bool.{true, false≢true}
use mathlib.Core.List.{List}
use Prim.Native.Nat.{ℕ}
use lib.ListN.{length, replicate, length-replicate}
use Rattle.clusters.specs.Table.{Table}
use Rattle.cluster_list.specs.Read.{read_list}
use Rattle.model.specs.State.{State, Store}
use Rattle.model.specs.Calls.{done, accepted}
use Rattle.model.specs.Tables.{running_in}
use Rattle.model.specs.Sound.{sound}
use Rattle.model.specs.Step.{Outcome}
use Rattle.model.specs.Load.{table_or_empty, loaded_state, load}
use Rattle.model.specs.Journal.{opened}
use Rattle.model.proofs.soundness.LoadSound.{load_is, load-sound, load-accepted}
use Rattle.model.specs.Invariant.{areas_bytes, Invariant}

pub opened-invariant : (table : Table) (first size : ℕ) → sound (loaded_state table first) (replicate size 0) ≡ true
    → Invariant (opened table) (loaded_state table first) (replicate size 0)
unfolding opened running_in areas_bytes
opened-invariant table first size h =
    record {
      is_sound = h;
      tables = record { beginning = refl; listing = refl; table = refl; at_idle = refl; direction = tt; rollback_completed = refl };
      areas = record { filled = tt; behind = size; bytes = refl };
      fresh = λ id l. refl;
      kept_values = λ e. absurd (false≢true e);
    }

pub load-invariant : (s : State) (list : List ℕ) (first : ℕ) (store : Store) → (load s list first store).reply ≡ accepted done
    → Invariant (opened (table_or_empty (read_list list))) (load s list first store).state (load s list first store).store
load-invariant s list first store e =
    let h = load-accepted s list first store e in
    let same = load_is s list first store h in
    let table = table_or_empty (read_list list) in
    subst (λ (o : Outcome). Invariant (opened table) o.state o.store) (sym same)
    (opened-invariant table first (length store)
    (subst (λ (o : Outcome). sound o.state o.store ≡ true) same (load-sound s list first store h)))

pub load-length : (s : State) (list : List ℕ) (first : ℕ) (store : Store) → (load s list first store).reply ≡ accepted done
    → length (load s list first store).store ≡ length store
load-length s list first store e =
    ap (λ (o : Outcome). length o.store) (load_is s list first store (load-accepted s list first store e))
    ∙ length-replicate (length store) 0
