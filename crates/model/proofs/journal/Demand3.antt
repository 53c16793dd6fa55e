-- Demand 3 of the definitions, from any start that the invariant ties to a journal. One induction over the list of calls keeps
-- the invariant; what demand 3 says follows from the invariant at the end of the list. Assumes nothing.
use mathlib.Core.Path.{◌≡◌, refl, sym, ◌∙◌}
use mathlib.Core.Bool.{true, false}
use mathlib.Core.List.{List, [], ◌∷◌, ◌++◌}
use mathlib.Core.Option.{Option, none, some}
use lib.ListN.{length}
use borrow.Author.Tests.{not-true}
use Rattle.base.proofs.Tests.{clash}
use Rattle.manifest.specs.Package.{Manifest, consistent, read_package}
use Rattle.model.specs.State.{is_idle, is_processing, Work, State, Store}
use Rattle.model.specs.Calls.{Call}
use Rattle.model.specs.Tables.{running}
use Rattle.model.specs.Sound.{kept_sound}
use Rattle.model.specs.Step.{step}
use Rattle.model.specs.Run.{run}
use Rattle.model.specs.Journal.{Journal, noted, journal}
use Rattle.model.specs.Demand3.{TableAtReturn, session_goes_on, AgreesWith, Demand3}
use Rattle.model.proofs.soundness.SoundFacts.{sound-says}
use Rattle.model.proofs.soundness.KeptSound.{kept-sound}
use Rattle.model.proofs.store.LengthKept.{step-keeps-length}
use Rattle.model.proofs.transitions.Accepting.{accepted-is}
use Rattle.model.proofs.transitions.Refused.{step-cases, without-refused}
use Rattle.model.proofs.journal.Lists.{always}
use Rattle.model.proofs.store.AreaLaws.{declared-plus-free}
use Rattle.model.proofs.store.Contents.{area-holds, end-holds, received-joined}
use Rattle.model.specs.Invariant.{manifest_kept, KeptFrom, Invariant}
use Rattle.model.proofs.journal.InvariantKept.{journal_after, keeps}
use Rattle.model.proofs.journal.NeverUnsound.{never-unsound}
use Rattle.model.proofs.store.StoreStays.{store-stays}
use Rattle.model.proofs.journal.Returns.{return-is, idle-table, no_third}
use Rattle.model.proofs.journal.SessionTable.{session-beginning}

-- ---- one call

-- a call, refused or accepted, keeps the invariant
pub step_keeps : (j : Journal) (s : State) (store : Store) (call : Call) → Invariant j s store
    → Invariant (journal_after call (step s store call) j) (step s store call).state (step s store call).store
step_keeps j s store call i =
    step-cases (λ o. Invariant (journal_after call o j) o.state o.store) s store call (λ number r. unfold noted in i)
    λ a. keeps j (sound-says s store i.is_sound) (kept-sound s store call a) (accepted-is s store call a) i

-- so does a list of calls
pub list-keeps : (j : Journal) (s : State) (store : Store) (calls : List Call) → Invariant j s store
    → Invariant (journal j (run s store calls).made) (run s store calls).state (run s store calls).store
list-keeps j s store calls i = always Invariant step_keeps calls j s store i

-- the table at a return to Idle
step-returns : (j : Journal) (s : State) (store : Store) (call : Call) → Invariant j s store → is_idle s.phase ≡ false
    → is_idle (step s store call).state.phase ≡ true
    → TableAtReturn j call (running (step s store call).state)
step-returns j s store call i busy =
    step-cases (λ o. is_idle o.state.phase ≡ true → TableAtReturn j call (running o.state)) s store call
    (λ number r e. clash e busy)
    λ a e. return-is j (sound-says s store i.is_sound) (accepted-is s store call a) i busy e

-- ---- a list of calls

-- what the invariant says of a state, its store and each call made then
pub agrees : (j : Journal) (s : State) (store : Store) → Invariant j s store → AgreesWith j s store
unfolding running
agrees j s store i =
    let ps = s.transfers.packages in
    record {
      running_is_r = sym i.tables.table;
      beginning_is_b = sym i.tables.beginning;
      idle_agrees = sym i.tables.at_idle;
      listed_is_a = sym i.tables.listing;
      at_return = λ call. step-returns j s store call i;
      no_third = no_third j s i.tables;
      stays_sound = i.is_sound;
      not_refused_by1 = λ call. never-unsound s store call i.is_sound;
      store_stays = λ call. store-stays s store call;
      area_holds = λ id p. area-holds j.blocks ps store i.areas id p;
      received_is_joined = λ id p e. received-joined j.blocks id ps p e i.areas.filled;
      end_holds = end-holds j.blocks ps store i.areas;
      declared_plus_free = declared-plus-free s store i.is_sound;
    }

-- B of a session is the running table of the Idle state that it began from
pub session-began : (j : Journal) (s : State) (store : Store) → Invariant j s store → (before session : List Call)
    → is_idle (run s store before).state.phase ≡ true
    → session_goes_on (run s store before).state (run s store before).store session ≡ true
    → (journal j (run s store (before ++ session)).made).B ≡ running (run s store before).state
unfolding running
session-began j s store i before session e h =
    (list-keeps j s store (before ++ session) i).tables.beginning ∙ session-beginning s store before session h ∙ sym (idle-table _ _ e)

pub demand3-from : (j : Journal) (s : State) (store : Store) → Invariant j s store → (calls : List Call) → Demand3 j s store calls
demand3-from j s store i calls =
    record {
      after_each = λ before rest e. agrees _ _ _ (list-keeps j s store before i);
      session_began = λ before session rest e. session-began j s store i before session;
      without_refused = without-refused s store calls;
    }

-- in Processing the joined blocks of the last accepted Process read as a consistent package
pub processing-reads : (j : Journal) (s : State) (store : Store) → Invariant j s store → is_processing s.phase ≡ true
    → (m : Manifest) × (read_package (j.blocks j.last_process) ≡ consistent m)
unfolding kept_sound
processing-reads j s store i e = go s.work (sound-says s store i.is_sound).kept_values (i.kept_values e)
  where
    go : (remaining : Option Work) → kept_sound s.phase s.session s.transfers.packages remaining ≡ true
        → KeptFrom j s.transfers.packages remaining → (m : Manifest) × (read_package (j.blocks j.last_process) ≡ consistent m)
    go none h k = clash e (not-true _ h)
    go (some w) h k = (manifest_kept w, k.read)

-- every list of calls leaves the store's length
pub length-stays : (calls : List Call) (s : State) (store : Store) → length (run s store calls).store ≡ length store
unfolding run
length-stays [] s store = refl
length-stays (call ∷ calls) s store = length-stays calls _ _ ∙ step-keeps-length s store call
