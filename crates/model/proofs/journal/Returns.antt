-- What each accepted call does to the running table: at a return to Idle it is the beginning table exactly when the session was
-- undone, and at no time is it a third one. Assumes nothing.
use mathlib.Core.Path.{◌≡◌, refl, sym, ◌∙◌}
use mathlib.Core.Bool.{Bool, true, false, true≢false, false≢true}
use mathlib.Core.List.{List, [], ◌∷◌, ◌++◌}
use mathlib.Core.Logic.{◌⊎◌, inl, inr}
use Prim.Native.Nat.{ℕ}
use native.Mathlib.Omega.{arith}
use Rattle.base.proofs.Tests.{clash}
use Rattle.clusters.specs.Table.{Table}
use Rattle.actions.specs.Action.{apply_all}
use Rattle.actions.specs.Refusals.{pass_in_turn}
use Rattle.actions.proofs.Changes.{passed-changes}
use Rattle.model.specs.State.{ready_cleans_up, activated_cleans_up, rolled_back_cleans_up, Phase, idle, ready, processing, activating, verifying, activated, rolling_back, rolled_back, cleaning_up, CleanUpOrigin, is_idle, Entry, Session, State, Store, actions}
use Rattle.model.specs.Calls.{Call, work, report}
use Rattle.model.specs.Tables.{staged, running_in, running}
use Rattle.model.specs.Sound.{list_fits}
use Rattle.model.specs.Step.{Outcome, phase_after, cleaned_up}
use Rattle.model.specs.Journal.{to_finish, Journal}
use Rattle.model.specs.Demand3.{Undone, by_revert, by_rollback, nothing_processed, TableAtReturn}
use Rattle.model.specs.Accepted.{Ends, after_revert, after_finish, after_rollback, Accepted, starts, puts_block, exits, deletes, processes, works_on, leaves, completes, cancels, moves, ends}
use Rattle.model.proofs.transitions.MovesElsewhere.{moves-elsewhere}
use Rattle.model.proofs.soundness.SoundFacts.{Sound}
use Rattle.model.specs.Invariant.{TablesAgree, Invariant}
use Rattle.model.proofs.journal.InvariantTables.{staged-is}

-- ---- the end of a session that is undone, and of one that is not

undone-return : (j : Journal) (call : Call) (table : Table) → table ≡ j.B → Undone j call → TableAtReturn j call table
undone-return j call table e u = record { equal_exactly_when = (λ h. u, λ h. e); otherwise = λ n. absurd (n u) }

some-listed : (listed : List Entry) → list_fits (cleaning_up activated_cleans_up) listed ≡ true → actions listed ≡ [] → ⊥
unfolding list_fits
some-listed [] h e = false≢true h
some-listed (d ∷ listed) h e = let z : ◌≡◌ {A = Bool} true false = cc in true≢false z

-- a session that ends by Finish from Activated is not undone
not-undone : (j : Journal) (good : Bool) (call : Call) → call ≡ report good → j.direction ≡ to_finish → j.rollback_completed ≡ false
    → (j.A ≡ [] → ⊥) → Undone j call → ⊥
not-undone j good call e d c n (by_revert h) = let z : ◌≡◌ {A = ℕ} 0 1 = cc in omega arith
not-undone j good call e d c n (by_rollback h h2) = clash h2 c
not-undone j good call e d c n (nothing_processed h) = n h

ends_return : (j : Journal) {session : Session} {origin : CleanUpOrigin} {table : Table} → Ends session origin table
    → TablesAgree j (cleaning_up origin) session
    → pass_in_turn session.beginning [] (actions session.listed) ≡ true → list_fits (cleaning_up origin) session.listed ≡ true
    → TableAtReturn j (report true) table
ends_return j after_revert i turn fits = undone-return j _ _ (sym i.beginning) (by_revert i.direction)
ends_return j after_rollback i turn fits = undone-return j _ _ (sym i.beginning) (by_rollback i.direction i.rollback_completed)
ends_return j {session} after_finish i turn fits =
    let n : j.A ≡ [] → ⊥ = λ e. some-listed session.listed fits (sym i.listing ∙ e) in
    let goes_on : Undone j (report true) → ⊥ = not-undone j true (report true) refl i.direction i.rollback_completed n in
    let same : apply_all j.B j.A ≡ staged session = staged-is j _ session i in
    let passed : pass_in_turn j.B [] j.A ≡ true = rw (i.beginning, i.listing) turn in
    record {
      equal_exactly_when = (λ e. absurd (passed-changes j.B j.A passed n (same ∙ e)), λ u. absurd (goes_on u));
      otherwise = λ u. sym same;
    }

-- Processing that ends with nothing listed
left-return : (j : Journal) (session : Session) (call : Call) (listed : List Entry) → j.B ≡ session.beginning → j.A ≡ actions listed
    → is_idle (phase_after listed) ≡ true
    → TableAtReturn j call (running_in (phase_after listed) session)
unfolding running_in
left-return j session call [] b a h = undone-return j call session.beginning (sym b) (nothing_processed a)
left-return j session call (e ∷ listed) b a h = absurd (false≢true h)

-- ---- calls that do not end in Idle

last-busy : (listed : List Entry) (e : Entry) → is_idle (phase_after (listed ++ e ∷ [])) ≡ false
last-busy [] e = refl
last-busy (d ∷ listed) e = refl

-- ---- a return to Idle

pub return-is : (j : Journal) {s : State} {store : Store} {call : Call} {o : Outcome} → Sound s store → Accepted s store call o
    → Invariant j s store
    → is_idle s.phase ≡ false → is_idle o.state.phase ≡ true → TableAtReturn j call (running o.state)
unfolding running cleaned_up
return-is j ok (starts size h7 h16 h17 h18) i p q = clash q p
return-is j ok (puts_block id counter block y e h5 h6 h7 h) i p q = clash q p
return-is j ok (exits id y m e h5 h8 h9) i p q = clash q p
return-is j ok (deletes id y e h5 h) i p q = clash q p
return-is j ok (processes id y m rest e h5 h9 h) i p q = absurd (false≢true q)
return-is j ok (works_on w n c l) i p q = absurd (false≢true q)
return-is j ok (leaves {session = session} w n f) i p q =
    left-return j session (work n) session.listed i.tables.beginning i.tables.listing q
return-is j ok (completes {session = session} w n c l e) i p q = clash q (last-busy session.listed _)
return-is j ok (cancels w id e) i p q = absurd (false≢true q)
return-is j ok (moves g) i p q = clash q (moves-elsewhere g).0
return-is j ok (ends g) i p q = unfold running_in in ends_return j g i.tables ok.turn ok.fits

-- ---- every other call

-- the table that begins the next session
next-beginning : {session : Session} {origin : CleanUpOrigin} {table : Table} → Ends session origin table
    → (table ≡ session.beginning) ⊎ (table ≡ staged session)
next-beginning after_revert = inl refl
next-beginning after_finish = inr refl
next-beginning after_rollback = inl refl

-- the beginning table stays, but at the end of CleaningUp, where it stays too or the staged one begins the next session
pub beginning-after : {s : State} {store : Store} {call : Call} {o : Outcome} → Accepted s store call o
    → (o.state.session.beginning ≡ s.session.beginning)
    ⊎ ((is_idle s.phase ≡ false) × (is_idle o.state.phase ≡ true)
    × ((o.state.session.beginning ≡ s.session.beginning) ⊎ (o.state.session.beginning ≡ staged s.session)))
unfolding cleaned_up
beginning-after (starts size h7 h16 h17 h18) = inl refl
beginning-after (puts_block id counter block y e h5 h6 h7 h) = inl refl
beginning-after (exits id y m e h5 h8 h9) = inl refl
beginning-after (deletes id y e h5 h) = inl refl
beginning-after (processes id y m rest e h5 h9 h) = inl refl
beginning-after (works_on w n c l) = inl refl
beginning-after (leaves w n f) = inl refl
beginning-after (completes w n c l e) = inl refl
beginning-after (cancels w id e) = inl refl
beginning-after (moves g) = inl refl
beginning-after (ends g) = inr (refl, refl, next-beginning g)

pub beginning-stays : {s : State} {store : Store} {call : Call} {o : Outcome} → Accepted s store call o
    → (is_idle s.phase ≡ true) ⊎ (is_idle o.state.phase ≡ false)
    → o.state.session.beginning ≡ s.session.beginning
beginning-stays a q =
    elim (beginning-after a) [
      | inl e ↦ e
      | inr ended ↦ elim q [ inl e ↦ clash e ended.0 | inr e ↦ clash ended.1 e ]
    ]

-- in Idle the running table is the one that begins the next session
pub idle-table : (phase : Phase) (session : Session) → is_idle phase ≡ true → running_in phase session ≡ session.beginning
unfolding running_in
idle-table phase session = elim phase as (λ p. is_idle p ≡ true → running_in p session ≡ session.beginning) [
  | idle ↦ λ e. refl
  | ready ↦ λ e. absurd (false≢true e)
  | processing ↦ λ e. absurd (false≢true e)
  | activating ↦ λ e. absurd (false≢true e)
  | verifying ↦ λ e. absurd (false≢true e)
  | activated ↦ λ e. absurd (false≢true e)
  | rolling_back origin ↦ λ e. absurd (false≢true e)
  | rolled_back ↦ λ e. absurd (false≢true e)
  | cleaning_up origin ↦ λ e. absurd (false≢true e)
]

-- the running table is the beginning one or the staged one
two-tables : (phase : Phase) (session : Session)
    → (running_in phase session ≡ session.beginning) ⊎ (running_in phase session ≡ staged session)
unfolding running_in
two-tables idle session = inl refl
two-tables ready session = inl refl
two-tables processing session = inl refl
two-tables activating session = inl refl
two-tables verifying session = inr refl
two-tables activated session = inr refl
two-tables (rolling_back origin) session = inr refl
two-tables rolled_back session = inl refl
two-tables (cleaning_up ready_cleans_up) session = inl refl
two-tables (cleaning_up activated_cleans_up) session = inr refl
two-tables (cleaning_up rolled_back_cleans_up) session = inl refl

-- so it is B, or B with A applied
pub no_third : (j : Journal) (s : State) → TablesAgree j s.phase s.session
    → (running s ≡ j.B) ⊎ (running s ≡ apply_all j.B j.A)
unfolding running
no_third j s i =
    elim (two-tables s.phase s.session) [
      | inl e ↦ inl (e ∙ sym i.beginning)
      | inr e ↦ inr (e ∙ sym (staged-is j s.phase s.session i))
    ]
