-- Every accepted call keeps the invariant: a clause for each of the accepted transitions. That the state after the call is sound
-- is handed in. Assumes nothing.
use mathlib.Core.Path.{◌≡◌, refl, sym, ap, subst, ◌∙◌}
use mathlib.Core.Bool.{Bool, true, false, not, cond, false≢true}
use mathlib.Core.List.{List, []}
use mathlib.Core.Option.{Option, none, some}
use Prim.Native.Nat.{ℕ, ◌≤◌, ◌<◌}
use native.Mathlib.Omega.{arith}
use lib.Dec.{eqb, leb}
use lib.ListN.{length}
use borrow.Author.Tests.{eqb-true, ne_eqb}
use Rattle.base.proofs.Tests.{clash}
use Rattle.manifest.specs.Package.{read_package}
use Rattle.model.specs.State.{PackageState, transferring, transferred, being_processed, processed, Package, Phase, is_processing, Entry, Session, Work, State, Store}
use Rattle.model.specs.Calls.{Call, transfer_data, Answer, done}
use Rattle.model.specs.Areas.{in_state, with_block, new_package, is_transferring, is_transferred, is_being_processed, is_processed, count_in, processing_id}
use Rattle.model.specs.Sound.{sound, received_sound}
use Rattle.model.specs.Step.{Outcome, cleaned_up}
use Rattle.model.specs.Journal.{Journal, work_noted, accepted_noted, noted}
use Rattle.model.specs.Accepted.{AtRest, in_idle, in_ready, Accepted, starts, puts_block, exits, deletes, processes, works_on, leaves, completes, cancels, moves, ends}
use Rattle.model.proofs.transitions.MovesElsewhere.{moves-elsewhere}
use Rattle.model.proofs.soundness.SoundFacts.{Sound}
use Rattle.model.proofs.soundness.Packages.{found-fine, found-id}
use Rattle.model.proofs.soundness.Counts.{keeps-others}
use Rattle.model.proofs.journal.ProcessingId.{id-started, id-kept, id-changed, id-begun, id_other}
use Rattle.model.proofs.store.Contents.{holds-started, holds-state, holds-deleted, whole-area}
use Rattle.model.proofs.store.ContentsBlock.{joined-other, holds-put}
use Rattle.model.specs.Invariant.{Holds, KeptFrom, Invariant}
use Rattle.model.proofs.journal.InvariantTables.{Told, moves-told, ends-told, begins-told, leaves-told, processed-told}

-- ---- what the states of packages and of the manager say

not-being : (x : PackageState) → is_transferring x ≡ true → is_being_processed x ≡ false
not-being transferring e = refl
not-being transferred e = absurd (false≢true e)
not-being being_processed e = absurd (false≢true e)
not-being processed e = absurd (false≢true e)

not-being-transferred : (x : PackageState) → is_transferred x ≡ true → is_transferring x ≡ false
not-being-transferred transferring e = absurd (false≢true e)
not-being-transferred transferred e = refl
not-being-transferred being_processed e = absurd (false≢true e)
not-being-transferred processed e = absurd (false≢true e)

-- all bytes of a Transferred package came
whole : (p : Package) → is_transferred p.state ≡ true → received_sound p ≡ true → p.received ≡ p.size
unfolding received_sound
whole p e h =
    let n = not-being-transferred p.state e in
    eqb-true _ _ (subst (λ (b : Bool). cond b (leb p.received p.size) (eqb p.received p.size) ≡ true) n h)

none-processing : (phase : Phase) (n : ℕ) → AtRest phase → n ≡ cond (is_processing phase) 1 0 → n ≡ 0
none-processing phase n in_idle e = e
none-processing phase n in_ready e = e

one-processing : (b : Bool) (n : ℕ) → b ≡ true → n ≡ cond b 1 0 → 1 ≤ n
one-processing true n h e = omega arith
one-processing false n h e = absurd (false≢true h)

-- ---- parts of the invariant under a change of packages and journal

kept-as : (j : Journal) (ps ps' : List Package) (k : Option Work) → processing_id ps' ≡ processing_id ps → KeptFrom j ps k
    → KeptFrom j ps' k
kept-as j ps ps' none e r = tt
kept-as j ps ps' (some w) e r = record { last = r.last ∙ sym e; read = r.read }

module _ {j j' : Journal} {phase : Phase} {session : Session} (t : Told j j' phase session) where
  areas-told : {ps : List Package} {store : Store} → Holds j.blocks ps store → Holds j'.blocks ps store
  areas-told {ps} {store} h = subst (λ (b : ℕ → List ℕ). Holds b ps store) (sym t.blocks) h

  fresh-told : {next : ℕ} → ((id : ℕ) → next ≤ id → j.blocks id ≡ []) → (id : ℕ) → next ≤ id → j'.blocks id ≡ []
  fresh-told f id l = ap (λ (b : ℕ → List ℕ). b id) t.blocks ∙ f id l

-- a block of another package than the one that is processing
kept_block : (j : Journal) (id : ℕ) (block : List ℕ) (counter : ℕ) (answer : Answer) (ps ps' : List Package) (k : Option Work)
    → processing_id ps' ≡ processing_id ps
    → eqb id (processing_id ps) ≡ false → KeptFrom j ps k → KeptFrom (accepted_noted (transfer_data id counter block) answer j) ps' k
unfolding accepted_noted
kept_block j id block counter answer ps ps' none e other r = tt
kept_block j id block counter answer ps ps' (some w) e other r =
    let apart : eqb id j.last_process ≡ false = subst (λ (x : ℕ). eqb id x ≡ false) (sym r.last) other in
    record { last = r.last ∙ sym e; read = ap read_package (joined-other j.blocks id block j.last_process apart) ∙ r.read }

-- ---- all accepted calls

abbrev pub journal_after : Call → Outcome → Journal → Journal
journal_after call o j = noted (record { call = call; reply = o.reply }) j

pub keeps : (j : Journal) {s : State} {store : Store} {call : Call} {o : Outcome} → Sound s store → sound o.state o.store ≡ true
    → Accepted s store call o
    → Invariant j s store → Invariant (journal_after call o j) o.state o.store
unfolding noted accepted_noted work_noted cleaned_up
keeps j {s} {store} ok then (starts size h7 h16 h17 h18) i =
    let ps = s.transfers.packages in
    record {
      is_sound = then;
      tables = i.tables;
      areas = holds-started j.blocks s.transfers.next size ps store (i.fresh s.transfers.next (omega arith)) h17 i.areas;
      fresh = λ id l. i.fresh id (omega arith);
      kept_values = λ e. kept-as j ps _ s.work (id-started ps (new_package s.transfers.next size) refl) (i.kept_values e);
    }
keeps j {s} {store} ok then (puts_block id counter block p e h5 h6 h7 h) i =
    let ps = s.transfers.packages in
    let low : p.id < s.transfers.next = (found-fine 0 s.transfers.next id ps p ok.rise e).below in
    let same : p.id ≡ id = found-id id ps p e in
    let busy = not-being p.state h5 in
    record {
      is_sound = then;
      tables = record {
        beginning = i.tables.beginning;
        listing = i.tables.listing;
        table = i.tables.table;
        at_idle = i.tables.at_idle;
        direction = i.tables.direction;
        rollback_completed = i.tables.rollback_completed;
      };
      areas = holds-put j.blocks id block 0 s.transfers.next ps p store ok.rise e h i.areas;
      fresh = λ other l. joined-other j.blocks id block other (ne_eqb id other λ q. omega arith) ∙ i.fresh other l;
      kept_values = λ z.
          kept_block j id block counter done ps _ s.work (id-changed id (with_block (length block)) (λ q. refl) ps p e refl)
          (id_other id 0 s.transfers.next ps p ok.rise (one-processing _ _ z ok.processing) e busy) (i.kept_values z);
    }
keeps j {s} {store} ok then (exits id p m e h5 h8 h9) i =
    let ps = s.transfers.packages in
    record {
      is_sound = then;
      tables = i.tables;
      areas = holds-state j.blocks id transferred ps store i.areas;
      fresh = i.fresh;
      kept_values = λ z.
          kept-as j ps _ s.work (id-changed id (in_state transferred) (λ q. refl) ps p e (sym (not-being p.state h5))) (i.kept_values z);
    }
keeps j {s} {store} ok then (deletes id p e h5 h5') i =
    let ps = s.transfers.packages in
    record {
      is_sound = then;
      tables = i.tables;
      areas = holds-deleted j.blocks (λ q. not (eqb id q.id)) ps store i.areas;
      fresh = i.fresh;
      kept_values = λ z.
          kept-as j ps _ s.work
          (id-kept (λ q. not (eqb id q.id)) ps
          (keeps-others is_being_processed id 0 s.transfers.next ps p ok.rise e h5)) (i.kept_values z);
    }
keeps j {s} {store} ok then (processes id p m rest e h5 h9 h) i =
    let ps = s.transfers.packages in
    let t = begins-told j s.session s.phase id done rest i.tables in
    let full : p.received ≡ p.size = whole p h5 (found-fine 0 s.transfers.next id ps p ok.rise e).received in
    let none_yet : count_in is_being_processed ps ≡ 0 = none-processing s.phase _ rest ok.processing in
    record {
      is_sound = then;
      tables = t.tables;
      areas = holds-state j.blocks id being_processed ps store i.areas;
      fresh = i.fresh;
      kept_values = λ z. record {
        last = sym (id-begun id (in_state being_processed) (λ q. refl) ps p e none_yet refl);
        read = ap read_package (sym (whole-area j.blocks ps store i.areas id p e full)) ∙ h9;
      };
    }
keeps j ok then (works_on w n c l) i =
    record {
      is_sound = then;
      tables = i.tables;
      areas = i.areas;
      fresh = i.fresh;
      kept_values = λ z. record { last = (i.kept_values z).last; read = (i.kept_values z).read };
    }
keeps j ok then (leaves {t} {session} {store} w n {answer} f) i =
    let told = leaves-told j session f i.tables in
    record {
      is_sound = then;
      tables = told.tables;
      areas = areas-told told (holds-state j.blocks (processing_id t.packages) transferred t.packages store i.areas);
      fresh = fresh-told told i.fresh;
      kept_values = λ z. tt;
    }
keeps j ok then (completes {t} {session} {store} w n c l e) i =
    let entry : Entry = record { id = processing_id t.packages; action = w.action } in
    let told = processed-told j session t.packages w n entry refl (i.kept_values refl) i.tables in
    record {
      is_sound = then;
      tables = told.tables;
      areas = areas-told told (holds-state j.blocks (processing_id t.packages) processed t.packages store i.areas);
      fresh = fresh-told told i.fresh;
      kept_values = λ z. tt;
    }
keeps j ok then (cancels w id e) i =
    record {
      is_sound = then;
      tables = i.tables;
      areas = i.areas;
      fresh = i.fresh;
      kept_values = λ z. record { last = (i.kept_values z).last; read = (i.kept_values z).read };
    }
keeps j ok then (moves {session = session} g) i =
    let told = moves-told j session g i.tables in
    record {
      is_sound = then;
      tables = told.tables;
      areas = areas-told told i.areas;
      fresh = fresh-told told i.fresh;
      kept_values = λ z. clash z (moves-elsewhere g).1;
    }
keeps j ok then (ends {t = t} {session = session} {store = store} g) i =
    let told = ends-told j session g i.tables in
    record {
      is_sound = then;
      tables = told.tables;
      areas = areas-told told (holds-deleted j.blocks (λ q. not (is_processed q.state)) t.packages store i.areas);
      fresh = fresh-told told i.fresh;
      kept_values = λ z. absurd (false≢true z);
    }
