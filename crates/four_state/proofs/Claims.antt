-- The claims of demand 3 over every mixed list of the twelve calls and the old four, from an accepted Load, by the book of the calls that the
-- list counts as: "one of these four answered 0 counting there as the twelve's call of its name and any other answer as a refusal, and demand
-- 3, the table property, holds for that list". What holds after every list holds after every call. Assumes nothing.
use Prim.Native.Nat.{ℕ, ◌+◌, ◌-◌}
use mathlib.Core.Path.{◌≡◌, refl, sym, ap, subst, ◌∙◌}
use mathlib.Core.Bool.{Bool, true, false, cond}
use mathlib.Core.List.{List, [], ◌∷◌, ◌++◌, Memᴰ}
use mathlib.Core.Logic.{◌↔◌, ◌⊎◌}
use mathlib.Core.Option.{some}
use lib.ListN.{length, drop, replicate}
use Rattle.clusters.specs.Table as tables
use Rattle.clusters.specs.Table.{Table}
use Rattle.actions.specs.Action.{apply_all}
use Rattle.actions.specs.Refusals.{is_marked}
use Rattle.cluster_list.specs.Read.{read_list}
use Rattle.model.specs.State.{Package, is_idle, State, Store, actions}
use Rattle.model.specs.Areas.{declared, free, find, area_of}
use Rattle.model.specs.Calls.{Call, done, refused, accepted}
use Rattle.model.specs.Tables.{running}
use Rattle.model.specs.Sound.{sound}
use Rattle.model.specs.Step.{Outcome}
use Rattle.model.specs.Load.{table_or_empty, load}
use Rattle.model.specs.Run.{Made, Run, run, calls_of}
use Rattle.model.specs.Journal.{Journal, opened, journal}
use Rattle.model.specs.Demand3.{may_write_store, Undone, TableAtReturn, AgreesWith, Demand3}
use Rattle.model.specs.Layers.{EventRun, event_run, events_of, accepted_events, counted_in, events_go_on, LastEventSession}
use Rattle.model.proofs.Claims as twelve
use Rattle.model.proofs.journal.Opened.{load-invariant}
use Rattle.model.proofs.journal.EventRuns.{events-last}
use Rattle.model.proofs.journal.Layers.{last-event-session}
use Rattle.four_state.specs.declared.call.OldCall.{OldCall}
use Rattle.four_state.specs.OldCalls.{shown_as, status_of}
use Rattle.four_state.specs.MixedLists.{MixedCall, of_twelve, of_four, MixedReply, mixed_step, is_mixed_refusal, counts_as, mixed_run, MixedDemand}
use Rattle.four_state.proofs.ExactlyWhen.{no-old-call-writes as Writes-nothing}
use Rattle.four_state.proofs.MixedLists.{demand3-of-mixed-lists}

module _ (given : State) (list : List ℕ) (first : ℕ) (lent : Store)
    (is-accepted : (load given list first lent).reply ≡ accepted done) where
  abbrev pub loaded : Outcome
  loaded = load given list first lent

  -- "A dealer tool's calls may stand in any list with the twelve"
  abbrev pub after : List MixedCall → EventRun State MixedCall MixedReply
  after calls = mixed_run loaded.state loaded.store calls

  -- the calls that a list counts as, with their replies
  abbrev pub counted_after : List MixedCall → List Made
  counted_after calls = counted_in mixed_step counts_as loaded.state loaded.store calls

  -- document 01's book of these
  abbrev pub journal_of : List MixedCall → Journal
  journal_of calls = journal (opened (table_or_empty (read_list list))) (counted_after calls)

  demand3 : (calls : List MixedCall) → MixedDemand (opened (table_or_empty (read_list list))) loaded.state loaded.store calls
  demand3 calls = demand3-of-mixed-lists given list first lent is-accepted calls

  agrees-within : (calls rest : List MixedCall) → AgreesWith (journal_of calls) (after calls).state (after calls).store
  agrees-within calls rest = (demand3 (calls ++ rest)).after_each calls rest refl

  -- ---- every claim of the twelve

  -- of a list that goes on with others
  counts-within : (calls rest : List MixedCall)
      → run loaded.state loaded.store (calls_of (counted_after calls))
      ≡ record { made = counted_after calls; state = (after calls).state; store = (after calls).store }
  counts-within calls rest = (demand3 (calls ++ rest)).counts_as_calls calls rest refl

  -- the calls that a list counts as, made from the same Load, have these replies and end with equal state and store
  pub counts-as-calls : (calls : List MixedCall)
      → run loaded.state loaded.store (calls_of (counted_after calls))
      ≡ record { made = counted_after calls; state = (after calls).state; store = (after calls).store }
  counts-as-calls calls = counts-within calls []

  -- so demand 3 itself holds of these calls
  pub demand3-of-the-calls : (calls : List MixedCall)
      → Demand3 (opened (table_or_empty (read_list list))) loaded.state loaded.store (calls_of (counted_after calls))
  demand3-of-the-calls calls = (demand3 calls).demand3

  -- so whatever holds after every list of the twelve, of its calls with their replies, its state and its store, holds after every mixed list
  pub claims-carry-over : (P : Run → Type 0) → ((calls : List Call) → P (run loaded.state loaded.store calls))
      → (calls : List MixedCall) → P (record { made = counted_after calls; state = (after calls).state; store = (after calls).store })
  claims-carry-over P holds calls = subst P (counts-as-calls calls) (holds (calls_of (counted_after calls)))

  -- no call of the twelve is refused by 1
  pub no-call-refused-by-1 : (calls : List MixedCall) (m : Made) → Memᴰ m (counted_after calls) → m.reply ≡ refused 1 → ⊥
  no-call-refused-by-1 calls m at =
      claims-carry-over (λ (r : Run). Memᴰ m r.made → m.reply ≡ refused 1 → ⊥)
      (λ twelves. twelve.no-call-refused-by-1 given list first lent is-accepted twelves m) calls at

  -- ---- the store

  abbrev pub packages_after : List MixedCall → List Package
  packages_after calls = (after calls).state.transfers.packages

  -- "The block is written directly behind the bytes received so far"; "bytes not yet received .. are 0"
  pub areas-hold-their-blocks : (calls : List MixedCall) (id : ℕ) (p : Package) → find id (packages_after calls) ≡ some p
      → area_of id (packages_after calls) (after calls).store ≡ (journal_of calls).blocks id ++ replicate (p.size - p.received) 0
  areas-hold-their-blocks calls =
      claims-carry-over
      (λ (r : Run). (id : ℕ) (p : Package) → find id r.state.transfers.packages ≡ some p
      → area_of id r.state.transfers.packages r.store ≡ (journal (opened (table_or_empty (read_list list))) r.made).blocks id ++ replicate (p.size - p.received) 0)
      (λ twelves. twelve.areas-hold-their-blocks given list first lent is-accepted twelves) calls

  pub received-is-their-length : (calls : List MixedCall) (id : ℕ) (p : Package) → find id (packages_after calls) ≡ some p
      → length ((journal_of calls).blocks id) ≡ p.received
  received-is-their-length calls =
      claims-carry-over
      (λ (r : Run). (id : ℕ) (p : Package) → find id r.state.transfers.packages ≡ some p
      → length ((journal (opened (table_or_empty (read_list list))) r.made).blocks id) ≡ p.received)
      (λ twelves. twelve.received-is-their-length given list first lent is-accepted twelves) calls

  -- "and bytes past the last area are 0."
  pub past-the-last-area-is-0 : (calls : List MixedCall)
      → drop (declared (packages_after calls)) (after calls).store ≡ replicate (free (packages_after calls) (after calls).store) 0
  past-the-last-area-is-0 calls =
      claims-carry-over
      (λ (r : Run). drop (declared r.state.transfers.packages) r.store ≡ replicate (free r.state.transfers.packages r.store) 0)
      (λ twelves. twelve.past-the-last-area-is-0 given list first lent is-accepted twelves) calls

  -- "Declared sizes plus free bytes equal the store's length."
  pub declared-plus-free-is-the-length : (calls : List MixedCall)
      → declared (packages_after calls) + free (packages_after calls) (after calls).store ≡ length lent
  declared-plus-free-is-the-length calls =
      claims-carry-over
      (λ (r : Run). declared r.state.transfers.packages + free r.state.transfers.packages r.store ≡ length lent)
      (λ twelves. twelve.declared-plus-free-is-the-length given list first lent is-accepted twelves) calls

  -- "Only Load, an accepted block and deleting write the store.": of the twelve, and of the old four none
  pub no-other-call-writes : (calls : List MixedCall) (call : Call) → may_write_store (after calls).state.phase call ≡ false
      → (after (calls ++ of_twelve call ∷ [])).store ≡ (after calls).store
  unfolding mixed_step
  no-other-call-writes calls call e =
      ap (λ (r : EventRun State MixedCall MixedReply). r.store) (events-last mixed_step loaded.state loaded.store calls (of_twelve call))
      ∙ (agrees-within calls []).store_stays call e

  pub no-old-call-writes : (calls : List MixedCall) (call : OldCall) → (after (calls ++ of_four call ∷ [])).store ≡ (after calls).store
  unfolding mixed_step
  no-old-call-writes calls call =
      ap (λ (r : EventRun State MixedCall MixedReply). r.store) (events-last mixed_step loaded.state loaded.store calls (of_four call))
      ∙ Writes-nothing (after calls).state (after calls).store call

  -- ---- marks

  -- A.2, "A cluster with 1 can't be removed", "Install gives 0, update keeps it": a cluster is marked in the running table exactly when it is
  -- marked in the loaded one
  pub marked-stay : (calls : List MixedCall) (part : ℕ)
      → is_marked (tables.find part (running (after calls).state)) ≡ is_marked (tables.find part (table_or_empty (read_list list)))
  marked-stay calls part =
      claims-carry-over (λ (r : Run). is_marked (tables.find part (running r.state)) ≡ is_marked (tables.find part (table_or_empty (read_list list))))
      (λ twelves. twelve.marked-stay given list first lent is-accepted twelves part) calls

  -- ---- the running table

  -- "After every call it is the one that document 01's book gives."
  pub running-is-R : (calls : List MixedCall) → running (after calls).state ≡ (journal_of calls).R
  running-is-R calls = (agrees-within calls []).running_is_r

  -- "B, up to the return that ends a session, is that session's beginning table."
  pub beginning-is-B : (calls : List MixedCall) → (after calls).state.session.beginning ≡ (journal_of calls).B
  beginning-is-B calls = (agrees-within calls []).beginning_is_b

  -- "Idle is reached at these returns only."
  pub idle-agrees : (calls : List MixedCall) → is_idle (after calls).state.phase ≡ (journal_of calls).is_idle
  idle-agrees calls = (agrees-within calls []).idle_agrees

  -- A has the actions of the session's list, in processing order
  pub A-is-the-session-list : (calls : List MixedCall) → (journal_of calls).A ≡ actions (after calls).state.session.listed
  A-is-the-session-list calls = sym (agrees-within calls []).listed_is_a

  pub sound-after-every-call : (calls : List MixedCall) → sound (after calls).state (after calls).store ≡ true
  sound-after-every-call calls = (agrees-within calls []).stays_sound

  -- so the old status shows the manager's state, never 255
  pub status-shows-the-state : (calls : List MixedCall) → status_of (after calls).state (after calls).store ≡ shown_as (after calls).state.phase
  unfolding status_of
  status-shows-the-state calls = ap (λ (b : Bool). cond b (shown_as (after calls).state.phase) 255) (sound-after-every-call calls)

  -- a session: `before` ends in Idle, and no call of `session` does
  module _ (before session : List MixedCall) (began : is_idle (after before).state.phase ≡ true)
      (goes_on : events_go_on (λ (s : State). s) mixed_step (after before).state (after before).store session ≡ true) where
    -- of a session of a list that goes on with others
    began-within : (rest : List MixedCall) → (journal_of (before ++ session)).B ≡ running (after before).state
    began-within rest = (demand3 ((before ++ session) ++ rest)).session_began before session rest refl began goes_on

    -- "the table when that session began"
    pub B-is-the-table-when-the-session-began : (journal_of (before ++ session)).B ≡ running (after before).state
    B-is-the-table-when-the-session-began = began-within []

    -- "After every other call it is the beginning table or that one with the actions processed by then, and no third."
    pub no-third-table : (running (after (before ++ session)).state ≡ running (after before).state)
        ⊎ (running (after (before ++ session)).state ≡ apply_all (running (after before).state) (journal_of (before ++ session)).A)
    no-third-table =
        subst
        (λ (t : Table). (running (after (before ++ session)).state ≡ t)
        ⊎ (running (after (before ++ session)).state ≡ apply_all t (journal_of (before ++ session)).A))
        B-is-the-table-when-the-session-began (agrees-within (before ++ session) []).no_third

    -- a call that returns to Idle, of a list that goes on with others
    returns_within : (call : MixedCall) (rest : List MixedCall)
        → (let r = after (before ++ session) in
        let o = mixed_step r.state r.store call in
        is_idle r.state.phase ≡ false → is_idle o.state.phase ≡ true
        → (m : Made) × ((counts_as call o.answer ≡ some m) × TableAtReturn (journal_of (before ++ session)) m.call (running o.state)))
    returns_within call rest = (demand3 ((before ++ session) ++ call ∷ rest)).at_return (before ++ session) call rest refl

    -- a call that returns to Idle: it is made in another state and ends in Idle
    module _ (call : MixedCall) (busy : is_idle (after (before ++ session)).state.phase ≡ false)
        (returns : is_idle (after ((before ++ session) ++ call ∷ [])).state.phase ≡ true) where
      -- it counts as a call, by which the session was undone or not
      pub record Returning : Type 0 where
        pub counts_as_call : Made
        pub is_counted : counts_as call (mixed_step (after (before ++ session)).state (after (before ++ session)).store call).answer ≡ some counts_as_call
        -- "at each return to Idle, the running table and the table when that session began are equal exactly when the session ended by
        -- Revert, by Finish after a Rollback that was completed, or with no package processed."
        pub equal_exactly_when_undone : (running (after ((before ++ session) ++ call ∷ [])).state ≡ running (after before).state)
            ↔ Undone (journal_of (before ++ session)) counts_as_call.call
        -- "Otherwise the running table is the beginning table with the processed packages' actions applied in processing order."
        pub otherwise_all_applied : (Undone (journal_of (before ++ session)) counts_as_call.call → ⊥)
            → running (after ((before ++ session) ++ call ∷ [])).state ≡ apply_all (running (after before).state) (journal_of (before ++ session)).A

      pub at-each-return : Returning
      at-each-return =
          let s : State = (mixed_step (after (before ++ session)).state (after (before ++ session)).store call).state in
          let last : (after ((before ++ session) ++ call ∷ [])).state ≡ s =
          ap (λ (r : EventRun State MixedCall MixedReply). r.state) (events-last mixed_step loaded.state loaded.store (before ++ session) call) in
          let found = returns_within call [] busy (ap (λ (x : State). is_idle x.phase) (sym last) ∙ returns) in
          let table : TableAtReturn (journal_of (before ++ session)) found.0.call (running (after ((before ++ session) ++ call ∷ [])).state) =
          subst (λ (x : State). TableAtReturn (journal_of (before ++ session)) found.0.call (running x)) (sym last) found.1.1 in
          record {
            counts_as_call = found.0;
            is_counted = found.1.0;
            equal_exactly_when_undone =
                subst (λ (t : Table). (running (after ((before ++ session) ++ call ∷ [])).state ≡ t) ↔ Undone (journal_of (before ++ session)) found.0.call)
                B-is-the-table-when-the-session-began table.equal_exactly_when;
            otherwise_all_applied =
                λ not-undone. table.otherwise not-undone
                ∙ ap (λ (t : Table). apply_all t (journal_of (before ++ session)).A) B-is-the-table-when-the-session-began;
          }

  -- every mixed list ends in a session, so what is said of sessions is said after every list and at each return to Idle
  pub every-list-ends-in-a-session : (calls : List MixedCall) → LastEventSession (λ (s : State). s) mixed_step loaded.state loaded.store calls
  unfolding opened
  every-list-ends-in-a-session calls =
      last-event-session (λ (s : State). s) mixed_step loaded.state loaded.store calls
      (sym (load-invariant given list first lent is-accepted).tables.at_idle)

  -- so after every list B is the running table of the Idle state that the list's last session began from
  pub B-is-the-table-of-the-last-session : (calls : List MixedCall)
      → (journal_of calls).B ≡ running (after (every-list-ends-in-a-session calls).before).state
  B-is-the-table-of-the-last-session calls =
      let last = every-list-ends-in-a-session calls in
      subst (λ (l : List MixedCall). (journal_of l).B ≡ running (after last.before).state) last.joined
      (B-is-the-table-when-the-session-began last.before last.session last.began last.goes_on)

  -- ---- refused calls

  -- "The list without its refused calls, from the same start, gives every other call the same answer and ends with equal state and store.":
  -- without those of both kinds
  pub same-without-refused : (calls : List MixedCall)
      → (let others = accepted_events is_mixed_refusal (after calls).made in after (events_of others) ≡ event_run others (after calls).state (after calls).store)
  same-without-refused calls = (demand3 calls).without_refused
