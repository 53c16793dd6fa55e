-- The tables' part of the invariant: every accepted call keeps it. Assumes nothing.
use mathlib.Core.Path.{◌≡◌, refl, sym, ap, ap₂, subst, ◌∙◌}
use mathlib.Core.Bool.{true, false}
use mathlib.Core.List.{List, [], ◌∷◌, ◌++◌}
use Prim.Native.Nat.{ℕ}
use Rattle.clusters.specs.Table.{Table, needs_met}
use Rattle.actions.specs.Action.{Action, apply_all}
use Rattle.manifest.specs.Package.{PackageRead}
use Rattle.model.specs.State.{Package, verifying_rolls_back, activated_rolls_back, CleanUpOrigin, Phase, idle, ready, processing, cleaning_up, is_idle, Entry, Session, Work, State, Store, actions}
use Rattle.model.specs.Calls.{Call, process, work, report, Answer, processed, done}
use Rattle.model.specs.Tables.{staged, running_in}
use Rattle.model.specs.Step.{manifest_of, phase_after}
use Rattle.model.specs.Journal.{Direction, to_activate, to_revert, to_rollback, to_finish, Journal, action_in, returned, package_processed, package_left, report_done, work_noted, report_noted, accepted_noted}
use Rattle.model.specs.Accepted.{AtRest, in_idle, in_ready, Moves, reverts, activates, rolls_back_verifying, rolls_back_activated, finishes_activated, finishes_rolled_back, activation_fails, needs_missing, activation_succeeds, verification_succeeds, verification_fails, rollback_succeeds, rollback_fails, revert_fails, cleaning_activated_fails, cleaning_rolled_back_fails, Ends, after_revert, after_finish, after_rollback, Leaves, by_cancel, by_sum}
use Rattle.model.specs.Invariant.{DirectionIn, is_rolled_back, TablesAgree, ReadFrom}

-- the tables' part of the invariant for the journal after a call, which has the same blocks
pub record Told (j j' : Journal) (phase : Phase) (session : Session) : Type 0 where
  pub tables : TablesAgree j' phase session
  pub blocks : j'.blocks ≡ j.blocks

-- B with A applied is the staged table
pub staged-is : (j : Journal) (phase : Phase) (session : Session) → TablesAgree j phase session
    → apply_all j.B j.A ≡ staged session
unfolding staged
staged-is j phase session i = rw (i.beginning, i.listing)

-- what Report answered Done does, where the direction is known
by-direction : (j : Journal) (phase : Phase) (session : Session) (d : Direction) → j.direction ≡ d
    → Told j (report_done d j) phase session → Told j (report_done j.direction j) phase session
by-direction j phase session d e i = subst (λ (x : Direction). Told j (report_done x j) phase session) (sym e) i

-- ---- the calls that change the manager's state alone

module _ (j : Journal) (session : Session) where
  -- a call that leaves B, A and Idle as they were
  stays : (j' : Journal) (phase phase' : Phase) → TablesAgree j phase session → j'.B ≡ j.B → j'.A ≡ j.A → j'.blocks ≡ j.blocks
      → j'.is_idle ≡ j.is_idle
      → is_idle phase ≡ is_idle phase' → j'.R ≡ running_in phase' session → DirectionIn phase' j'.direction
      → j'.rollback_completed ≡ is_rolled_back phase'
      → Told j j' phase' session
  stays j' phase phase' i b a bs rests same r d c =
      record {
        tables = record {
          beginning = b ∙ i.beginning;
          listing = a ∙ i.listing;
          table = r;
          at_idle = rests ∙ i.at_idle ∙ same;
          direction = d;
          rollback_completed = c;
        };
        blocks = bs;
      }

  pub moves-told : {call : Call} {answer : Answer} {phase phase' : Phase} → Moves (needs_met (staged session)) call answer phase phase'
      → TablesAgree j phase session
      → Told j (accepted_noted call answer j) phase' session
  unfolding accepted_noted report_noted report_done running_in
  moves-told reverts i = stays _ _ _ i refl refl refl refl refl i.table refl i.rollback_completed
  moves-told activates i = stays _ _ _ i refl refl refl refl refl i.table refl i.rollback_completed
  moves-told rolls_back_verifying i = stays _ _ _ i refl refl refl refl refl i.table refl i.rollback_completed
  moves-told rolls_back_activated i = stays _ _ _ i refl refl refl refl refl i.table refl i.rollback_completed
  moves-told finishes_activated i = stays _ _ _ i refl refl refl refl refl i.table refl i.rollback_completed
  moves-told finishes_rolled_back i = stays _ _ _ i refl refl refl refl refl i.table refl i.rollback_completed
  moves-told (activation_fails e) i = stays _ _ _ i refl refl refl refl refl i.table tt i.rollback_completed
  moves-told (needs_missing good e) i = stays _ _ _ i refl refl refl refl refl i.table tt i.rollback_completed
  moves-told (activation_succeeds e) i =
      by-direction j _ session to_activate i.direction
      (stays _ _ _ i refl refl refl refl refl (staged-is j _ session i) i.direction i.rollback_completed)
  moves-told verification_succeeds i =
      by-direction j _ session to_activate i.direction
      (stays _ _ _ i refl refl refl refl refl (staged-is j _ session i) i.direction i.rollback_completed)
  moves-told verification_fails i = record { tables = i; blocks = refl }
  moves-told (rollback_succeeds origin) i =
      by-direction j _ session to_rollback i.direction (stays _ _ _ i refl refl refl refl refl i.beginning tt refl)
  moves-told (rollback_fails verifying_rolls_back) i = stays _ _ _ i refl refl refl refl refl i.table refl i.rollback_completed
  moves-told (rollback_fails activated_rolls_back) i = stays _ _ _ i refl refl refl refl refl i.table refl i.rollback_completed
  moves-told revert_fails i = stays _ _ _ i refl refl refl refl refl i.table tt i.rollback_completed
  moves-told cleaning_activated_fails i = record { tables = i; blocks = refl }
  moves-told cleaning_rolled_back_fails i = record { tables = i; blocks = refl }

-- ---- CleaningUp ends

-- a return: B becomes R and A is emptied
returns-told : (j : Journal) (table : Table) → j.R ≡ table → Told j (returned j) idle (record { beginning = table; listed = [] })
unfolding returned running_in
returns-told j table e =
    record {
      tables = record { beginning = e; listing = refl; table = e; at_idle = refl; direction = tt; rollback_completed = refl };
      blocks = refl;
    }

pub ends-told : (j : Journal) (session : Session) {origin : CleanUpOrigin} {table : Table} → Ends session origin table
    → TablesAgree j (cleaning_up origin) session
    → Told j (accepted_noted (report true) done j) idle (record { beginning = table; listed = [] })
unfolding accepted_noted report_noted report_done running_in
ends-told j session after_revert i = by-direction j _ _ to_revert i.direction (returns-told j _ i.table)
ends-told j session after_finish i = by-direction j _ _ to_finish i.direction (returns-told j _ i.table)
ends-told j session after_rollback i = by-direction j _ _ to_finish i.direction (returns-told j _ i.table)

-- ---- Process and the ends of Processing

module _ (j : Journal) (session : Session) where
  begun : (id : ℕ) (answer : Answer) → j.B ≡ session.beginning → j.A ≡ actions session.listed → j.R ≡ session.beginning
      → j.rollback_completed ≡ false → Told j (accepted_noted (process id) answer j) processing session
  unfolding accepted_noted running_in
  begun id answer b a r c =
      record { tables = record { beginning = b; listing = a; table = r; at_idle = refl; direction = tt; rollback_completed = c }; blocks = refl }

  pub begins-told : (phase : Phase) (id : ℕ) (answer : Answer) → AtRest phase → TablesAgree j phase session
      → Told j (accepted_noted (process id) answer j) processing session
  unfolding accepted_noted running_in
  begins-told phase id answer in_idle i = begun id answer i.beginning i.listing i.table i.rollback_completed
  begins-told phase id answer in_ready i = begun id answer i.beginning i.listing i.table i.rollback_completed

  -- with no entry listed it is a return, else the session goes on
  left-told : (listed : List Entry) → j.A ≡ actions listed → TablesAgree j processing session
      → Told j (package_left j) (phase_after listed) (record { beginning = session.beginning; listed = listed })
  unfolding package_left running_in
  left-told [] a i =
      subst (λ (x : List Action). Told j (elim x as (λ (y : List Action). Journal) [ [] ↦ returned j | a ∷ rest ↦ j ]) idle (record { beginning = session.beginning; listed = [] }))
      (sym a)
      (returns-told j session.beginning i.table)
  left-told (e ∷ listed) a i =
      subst (λ (x : List Action). Told j (elim x as (λ (y : List Action). Journal) [ [] ↦ returned j | a ∷ rest ↦ j ]) ready (record { beginning = session.beginning; listed = e ∷ listed }))
      (sym a)
      (record {
        tables = record { beginning = i.beginning; listing = a; table = i.table; at_idle = i.at_idle; direction = tt; rollback_completed = i.rollback_completed };
        blocks = refl;
      })

  pub leaves-told : {s : State} {store : Store} {w : Work} {n : ℕ} {answer : Answer} → Leaves s store w n answer
      → TablesAgree j processing session
      → Told j (accepted_noted (work n) answer j) (phase_after session.listed) session
  unfolding accepted_noted work_noted
  leaves-told (by_cancel c) i = left-told session.listed i.listing i
  leaves-told (by_sum c l e) i = left-told session.listed i.listing i

  ready-after : (listed : List Entry) (e : Entry) → phase_after (listed ++ e ∷ []) ≡ ready
  ready-after [] e = refl
  ready-after (d ∷ listed) e = refl

  actions-last : (listed : List Entry) (e : Entry) → actions (listed ++ e ∷ []) ≡ actions listed ++ e.action ∷ []
  actions-last [] e = refl
  actions-last (d ∷ listed) e = ap (λ (l : List Action). d.action ∷ l) (actions-last listed e)

  -- the action that the journal reads from the joined blocks is the kept one
  action-read : (packages : List Package) (w : Work) → ReadFrom j packages w → action_in (j.blocks j.last_process) ≡ w.action
  unfolding action_in
  action-read packages w k = ap (λ (r : PackageRead). (manifest_of r).action) k.read

  pub processed-told : (packages : List Package) (w : Work) (n : ℕ) (e : Entry) → e.action ≡ w.action → ReadFrom j packages w
      → TablesAgree j processing session
      → Told j (accepted_noted (work n) processed j) (phase_after (session.listed ++ e ∷ []))
      (record { beginning = session.beginning; listed = session.listed ++ e ∷ [] })
  unfolding accepted_noted work_noted package_processed running_in
  processed-told packages w n e same k i =
      subst (λ (x : Phase). Told j (package_processed j) x (record { beginning = session.beginning; listed = session.listed ++ e ∷ [] }))
      (sym (ready-after session.listed e))
      (record {
        tables = record {
          beginning = i.beginning;
          listing = ap₂ (λ (l : List Action) (a : Action). l ++ a ∷ []) i.listing (action-read packages w k ∙ sym same)
              ∙ sym (actions-last session.listed e);
          table = i.table;
          at_idle = i.at_idle;
          direction = tt;
          rollback_completed = i.rollback_completed;
        };
        blocks = refl;
      })
