-- The claims of demand 3 and of document 01's words about the store, each with its words and one statement: from an accepted Load,
-- over every list of calls, each handed the state and store that the one before left. A list of calls is any list, so what holds
-- after every list holds after every call. Assumes nothing.
use mathlib.Core.Path.{◌≡◌, refl, sym, ap, subst, ◌∙◌}
use mathlib.Core.Bool.{true, false}
use mathlib.Core.List.{List, [], ◌∷◌, ◌++◌, Memᴰ}
use mathlib.Core.Logic.{◌↔◌, ◌⊎◌}
use mathlib.Core.Option.{some}
use Prim.Native.Nat.{ℕ, ◌+◌, ◌-◌, ◌≤◌}
use lib.ListN.{length, drop, replicate}
use Rattle.base.specs.Refusals.{first_refusal}
use Rattle.clusters.specs.Cluster.{Cluster}
use Rattle.clusters.specs.Table as tables
use Rattle.clusters.specs.Table.{Table}
use Rattle.actions.specs.Action.{Action, remove, apply_all}
use Rattle.actions.specs.Refusals.{touched, is_marked, action_refusals}
use Rattle.actions.proofs.Marks.{stays-alone}
use Rattle.cluster_list.specs.Read.{read_list}
use Rattle.manifest.specs.Package.{Manifest, consistent, read_package}
use Rattle.model.specs.State.{Package, is_idle, is_processing, Work, State, Store, actions}
use Rattle.model.specs.Calls.{Call, process, Answer, done, refused, accepted}
use Rattle.model.specs.Areas.{declared, free, find, area_of, is_transferred}
use Rattle.model.specs.Tables.{staged, running}
use Rattle.model.specs.Sound.{store_most, id_most, sound}
use Rattle.model.specs.Step.{Outcome, outcome, area_read, refusals, step}
use Rattle.model.specs.Load.{table_or_empty, is_bad_load, loaded_state, load}
use Rattle.model.specs.Run.{Made, Run, run, accepted_only, calls_of}
use Rattle.model.specs.Journal.{Journal, opened, journal}
use Rattle.model.specs.Reading.{cluster_info, payload_check, PayloadGiven}
use Rattle.model.specs.Demand3.{Undone, TableAtReturn, session_goes_on, LastSession, may_write_store, AgreesWith, Demand3}
use Rattle.model.proofs.soundness.SoundFacts.{sound-by-length}
use Rattle.model.proofs.soundness.KeptSound.{step-sound}
use Rattle.model.proofs.soundness.LoadSound.{load-refused, load-gives-back}
use Rattle.model.proofs.soundness.RunningWithin.{info-loads}
use Rattle.model.proofs.soundness.Marks.{marked-is, listed-unsound, kept-unsound}
use Rattle.model.specs.Accepted.{AtRest, Accepted}
use Rattle.model.proofs.transitions.Refused as refusing
use Rattle.model.proofs.transitions.NoOtherRefusal.{accepted-exactly, process-refused}
use Rattle.model.proofs.reading.Payload.{given-exactly}
use Rattle.model.proofs.journal.Lists.{state-last, store-last, stands_at}
use Rattle.model.proofs.journal.Demand3 as every
use Rattle.model.proofs.journal.SessionTable.{last-session}
use Rattle.model.proofs.journal.MarkedStay.{list-marks}
use Rattle.model.proofs.journal.Opened.{load-invariant, load-length}

-- "After a refusal they hold what they held before, the state comes back equal": on any state and store
pub refused-changes-nothing : (s : State) (store : Store) (call : Call) (number : ℕ) → (step s store call).reply ≡ refused number
    → ((step s store call).state ≡ s) × ((step s store call).store ≡ store)
refused-changes-nothing = refusing.refused-changes-nothing

-- "Checked in this order ..; a refusal is the number alone": a call is refused with a number exactly when that is the number of the
-- first refusal that applies
pub refused-by-the-first : (s : State) (store : Store) (call : Call) (number : ℕ)
    → ((step s store call).reply ≡ refused number) ↔ (first_refusal (refusals s store call) ≡ some number)
refused-by-the-first = refusing.refused-by-the-first

-- "and happens under no other condition": on a sound state a call is accepted, with its answer, state and store, exactly in the ways
-- that `Accepted` lists, each with what document 01 demands for it and nothing else
pub accepted-exactly-so : (s : State) (store : Store) (call : Call) (answer : Answer) (s' : State) (store' : Store)
    → sound s store ≡ true → (step s store call ≡ outcome answer s' store') ↔ Accepted s store call (outcome answer s' store')
accepted-exactly-so = accepted-exactly

-- "and happens under no other condition", of Payload: on a sound state `payload_check` gives 0 exactly when a package has the id, it
-- is not Transferring and its area reads as a package with exactly its payload
pub payload-given-exactly-so : (s : State) (store : Store) (id : ℕ) → sound s store ≡ true
    → (payload_check s store id ≡ 0) ↔ PayloadGiven s store id
payload-given-exactly-so = given-exactly

-- "BadLoad: Load with ill-formed list, id 0 or too long a store.", and Load is refused by no other number
pub load-refused-by-20 : (given : State) (list : List ℕ) (first : ℕ) (lent : Store) (number : ℕ)
    → ((load given list first lent).reply ≡ refused number) ↔ ((number ≡ 20) × (is_bad_load list first lent ≡ true))
load-refused-by-20 = load-refused

-- "a state that it gives back when refused"; the store too holds what it held before
pub refused-load-changes-nothing : (given : State) (list : List ℕ) (first : ℕ) (lent : Store) (number : ℕ)
    → (load given list first lent).reply ≡ refused number
    → ((load given list first lent).state ≡ given) × ((load given list first lent).store ≡ lent)
refused-load-changes-nothing = load-gives-back

-- "The store's bytes play no part in it.": soundness sees the store's length alone
pub soundness-by-length : (s : State) (a b : Store) → length a ≡ length b → sound s a ≡ sound s b
soundness-by-length = sound-by-length

-- every call on a sound state gives a sound state, whatever bytes the store holds
pub soundness-is-kept : (s : State) (store : Store) (call : Call) → sound s store ≡ true
    → sound (step s store call).state (step s store call).store ≡ true
soundness-is-kept = step-sound

-- demand 2, "the cluster list that we write loads back as the same table": Load of what ClusterInfo gives of a sound state is
-- accepted, and its table is the running one
pub cluster-info-loads-back : (s : State) (store : Store) → sound s store ≡ true
    → (given : State) (first : ℕ) (lent : Store) → 1 ≤ first → first ≤ id_most → length lent ≤ store_most
    → load given (cluster_info s) first lent ≡ outcome done (loaded_state (running s) first) (replicate (length lent) 0)
cluster-info-loads-back = info-loads

-- A.2, "A cluster with 1 can't be removed" and "21 Stays, .. for remove of a cluster marked 1": Process of a package that removes a staged
-- cluster which is marked, and which the session does not touch, is refused by 21 where none of 1 to 10 applies. No other of 11 to 15
-- does (`stays-alone` of `actions`)
pub marked-removal-refused-by-21 : (s : State) (store : Store) → sound s store ≡ true → (id : ℕ) (p : Package) (m : Manifest) → AtRest s.phase
    → find id s.transfers.packages ≡ some p → is_transferred p.state ≡ true → area_read s store id ≡ consistent m
    → (part : ℕ) (c : Cluster) → m.action ≡ remove part → touched part (actions s.session.listed) ≡ false
    → tables.find part (staged s.session) ≡ some c → c.stays ≡ true → (step s store (process id)).reply ≡ refused 21
marked-removal-refused-by-21 s store h id p m rest e h5 h9 part c removes untouched there mark =
    process-refused s store h id p m rest e h5 h9 21
    (ap (λ (a : Action). first_refusal (action_refusals (staged s.session) (actions s.session.listed) a)) removes
    ∙ (stays-alone (staged s.session) (actions s.session.listed) part c there mark untouched).first)

-- A.2, "soundness has it beside 11 to 15": a state is not sound whose list has a remove of a cluster that is marked in the table staged
-- before it, or whose kept action is a remove of a marked staged one
pub listed-marked-removal-unsound : (s : State) (store : Store) (before rest : List Action) (part : ℕ)
    → actions s.session.listed ≡ before ++ remove part ∷ rest
    → is_marked (tables.find part (apply_all s.session.beginning before)) ≡ true → sound s store ≡ false
listed-marked-removal-unsound = listed-unsound

pub kept-marked-removal-unsound : (s : State) (store : Store) (w : Work) (part : ℕ) → s.work ≡ some w → w.action ≡ remove part
    → is_marked (tables.find part (staged s.session)) ≡ true → sound s store ≡ false
kept-marked-removal-unsound = kept-unsound

-- "from an accepted Load": any state handed in, any list, first id and store with which it is accepted
module _ (given : State) (list : List ℕ) (first : ℕ) (lent : Store)
    (is-accepted : (load given list first lent).reply ≡ accepted done) where
  abbrev pub loaded : Outcome
  loaded = load given list first lent

  -- "For every list of TransferStart, TransferData, .. and Report, refused ones included, .. each handed the state and store that
  -- the one before left, with nobody else writing them"
  abbrev pub after : List Call → Run
  after calls = run loaded.state loaded.store calls

  -- document 01's book of these calls: "Tables B and R start as the loaded one"
  abbrev pub journal_of : List Call → Journal
  journal_of calls = journal (opened (table_or_empty (read_list list))) (after calls).made

  abbrev pub packages_after : List Call → List Package
  packages_after calls = (after calls).state.transfers.packages

  demand3 : (calls : List Call) → Demand3 (opened (table_or_empty (read_list list))) loaded.state loaded.store calls
  demand3 calls = every.demand3-from _ _ _ (load-invariant given list first lent is-accepted) calls

  -- after the calls of a list that goes on with others: "After every call" of demand 3 of the longer list
  agrees-within : (calls rest : List Call) → AgreesWith (journal_of calls) (after calls).state (after calls).store
  agrees-within calls rest = (demand3 (calls ++ rest)).after_each calls rest refl

  agrees : (calls : List Call) → AgreesWith (journal_of calls) (after calls).state (after calls).store
  agrees calls = agrees-within calls []

  -- ---- the running table

  -- "After every call it is the one that document 01's book gives."
  pub running-is-R : (calls : List Call) → running (after calls).state ≡ (journal_of calls).R
  running-is-R calls = (agrees calls).running_is_r

  -- "B, up to the return that ends a session, is that session's beginning table."
  pub beginning-is-B : (calls : List Call) → (after calls).state.session.beginning ≡ (journal_of calls).B
  beginning-is-B calls = (agrees calls).beginning_is_b

  -- "Idle is reached at these returns only."
  pub idle-agrees : (calls : List Call) → is_idle (after calls).state.phase ≡ (journal_of calls).is_idle
  idle-agrees calls = (agrees calls).idle_agrees

  -- A has the actions of the packages that were really processed: those of the session's list, in processing order
  pub A-is-the-session-list : (calls : List Call) → (journal_of calls).A ≡ actions (after calls).state.session.listed
  A-is-the-session-list calls = sym (agrees calls).listed_is_a

  -- "the action in its accepted blocks, joined": in Processing, where alone Work is answered, these blocks read as a package
  pub processing-reads-a-package : (calls : List Call) → is_processing (after calls).state.phase ≡ true
      → (m : Manifest) × (read_package ((journal_of calls).blocks (journal_of calls).last_process) ≡ consistent m)
  processing-reads-a-package calls =
      every.processing-reads _ _ _ (every.list-keeps _ _ _ calls (load-invariant given list first lent is-accepted))

  -- of a session of a list that goes on with others: "the table when that session began" of demand 3 of the longer list
  began-within : (calls session rest : List Call) → is_idle (after calls).state.phase ≡ true
      → session_goes_on (after calls).state (after calls).store session ≡ true
      → (journal_of (calls ++ session)).B ≡ running (after calls).state
  began-within calls session rest = (demand3 ((calls ++ session) ++ rest)).session_began calls session rest refl

  -- "the table when that session began": B of a session is the running table of the Idle state that it began from
  pub B-is-the-table-when-the-session-began : (calls session : List Call) → is_idle (after calls).state.phase ≡ true
      → session_goes_on (after calls).state (after calls).store session ≡ true
      → (journal_of (calls ++ session)).B ≡ running (after calls).state
  B-is-the-table-when-the-session-began calls session = began-within calls session []

  -- every list of calls ends in a session, so what is said of sessions below is said after every list and at each return to Idle
  pub every-list-ends-in-a-session : (calls : List Call) → LastSession loaded.state loaded.store calls
  unfolding opened
  every-list-ends-in-a-session calls =
      last-session loaded.state loaded.store calls (sym (load-invariant given list first lent is-accepted).tables.at_idle)

  -- so after every list B is the running table of the Idle state that the list's last session began from
  pub B-is-the-table-of-the-last-session : (calls : List Call)
      → (journal_of calls).B ≡ running (after (every-list-ends-in-a-session calls).before).state
  B-is-the-table-of-the-last-session calls =
      let last = every-list-ends-in-a-session calls in
      subst (λ (l : List Call). (journal_of l).B ≡ running (after last.before).state) last.joined
      (B-is-the-table-when-the-session-began last.before last.session last.began last.goes_on)

  -- the call that returns to Idle, after a list of calls that does not end in Idle
  returning : (calls : List Call) (call : Call) → is_idle (after calls).state.phase ≡ false
      → is_idle (after (calls ++ call ∷ [])).state.phase ≡ true
      → TableAtReturn (journal_of calls) call (running (after (calls ++ call ∷ [])).state)
  returning calls call busy e =
      subst (λ (s : State). is_idle s.phase ≡ true → TableAtReturn (journal_of calls) call (running s))
      (sym (state-last loaded.state loaded.store calls call)) ((agrees calls).at_return call busy) e

  -- a session: `before` ends in Idle, and no call of `session` does. The table when that session began is `running` after `before`
  module _ (before session : List Call) (began : is_idle (after before).state.phase ≡ true)
      (goes_on : session_goes_on (after before).state (after before).store session ≡ true) where
    -- a call that returns to Idle: it is made in another state and ends in Idle
    abbrev pub ReturnsToIdle : Call → Type 0
    ReturnsToIdle call =
        (is_idle (after (before ++ session)).state.phase ≡ false) × (is_idle (after ((before ++ session) ++ call ∷ [])).state.phase ≡ true)

    -- "at each return to Idle, the running table and the table when that session began are equal exactly when the session ended by
    -- Revert, by Finish after a Rollback that was completed, or with no package processed."
    pub equal-exactly-when-undone : (call : Call) → ReturnsToIdle call
        → (running (after ((before ++ session) ++ call ∷ [])).state ≡ running (after before).state) ↔ Undone (journal_of (before ++ session)) call
    equal-exactly-when-undone call r =
        subst (λ (t : Table). (running (after ((before ++ session) ++ call ∷ [])).state ≡ t) ↔ Undone (journal_of (before ++ session)) call)
        (B-is-the-table-when-the-session-began before session began goes_on)
        (returning (before ++ session) call r.0 r.1).equal_exactly_when

    -- "Otherwise the running table is the beginning table with the processed packages' actions applied in processing order."
    pub otherwise-all-applied : (call : Call) → ReturnsToIdle call → (Undone (journal_of (before ++ session)) call → ⊥)
        → running (after ((before ++ session) ++ call ∷ [])).state ≡ apply_all (running (after before).state) (journal_of (before ++ session)).A
    otherwise-all-applied call r undone =
        (returning (before ++ session) call r.0 r.1).otherwise undone
        ∙ ap (λ (t : Table). apply_all t (journal_of (before ++ session)).A)
        (B-is-the-table-when-the-session-began before session began goes_on)

    -- "After every other call it is the beginning table or that one with the actions processed by then, and no third."
    pub no-third-table : (running (after (before ++ session)).state ≡ running (after before).state)
        ⊎ (running (after (before ++ session)).state ≡ apply_all (running (after before).state) (journal_of (before ++ session)).A)
    no-third-table =
        subst
        (λ (t : Table). (running (after (before ++ session)).state ≡ t)
        ⊎ (running (after (before ++ session)).state ≡ apply_all t (journal_of (before ++ session)).A))
        (B-is-the-table-when-the-session-began before session began goes_on) (agrees (before ++ session)).no_third

  -- ---- marks

  -- A.2, "A cluster with 1 can't be removed", "Install gives 0, update keeps it": a cluster is marked in the running table exactly when it
  -- is marked in the loaded one
  pub marked-stay : (calls : List Call) (part : ℕ)
      → is_marked (tables.find part (running (after calls).state)) ≡ is_marked (tables.find part (table_or_empty (read_list list)))
  unfolding opened
  marked-stay calls part =
      let i = load-invariant given list first lent is-accepted in
      list-marks part calls loaded.state loaded.store i.is_sound ∙ ap (λ (t : Table). is_marked (tables.find part t)) (sym i.tables.beginning)

  -- and so it is there
  pub marked-there : (calls : List Call) (part : ℕ) (c : Cluster) → tables.find part (table_or_empty (read_list list)) ≡ some c → c.stays ≡ true
      → (d : Cluster) × (tables.find part (running (after calls).state) ≡ some d) × (d.stays ≡ true)
  marked-there calls part c there mark =
      marked-is _ (marked-stay calls part ∙ ap is_marked there ∙ mark)

  -- ---- refused calls

  -- the calls of a list that were not refused
  abbrev pub unrefused : List Call → List Call
  unrefused calls = calls_of (accepted_only (after calls).made)

  -- "The list without its refused calls, from the same start, gives every other call the same answer"
  pub same-answers : (calls : List Call) → (after (unrefused calls)).made ≡ accepted_only (after calls).made
  same-answers calls = ap (λ (r : Run). r.made) (demand3 calls).without_refused

  -- "and ends with equal state and store."
  pub equal-state : (calls : List Call) → (after (unrefused calls)).state ≡ (after calls).state
  equal-state calls = ap (λ (r : Run). r.state) (demand3 calls).without_refused

  pub equal-store : (calls : List Call) → (after (unrefused calls)).store ≡ (after calls).store
  equal-store calls = ap (λ (r : Run). r.store) (demand3 calls).without_refused

  -- "BadState: .. the state isn't sound": from Load on it is, so no call of the list is refused by 1
  pub sound-after-every-call : (calls : List Call) → sound (after calls).state (after calls).store ≡ true
  sound-after-every-call calls = (agrees calls).stays_sound

  pub no-call-refused-by-1 : (calls : List Call) (m : Made) → Memᴰ m (after calls).made → m.reply ≡ refused 1 → ⊥
  no-call-refused-by-1 calls m at e =
      let here = stands_at calls loaded.state loaded.store m at in
      ((demand3 calls).after_each here.before (here.call ∷ here.rest) here.split).not_refused_by1 here.call (sym here.reply ∙ e)

  -- ---- the store

  -- "Only Load, an accepted block and deleting write the store."
  pub no-other-call-writes : (calls : List Call) (call : Call) → may_write_store (after calls).state.phase call ≡ false
      → (after (calls ++ call ∷ [])).store ≡ (after calls).store
  no-other-call-writes calls call e = store-last loaded.state loaded.store calls call ∙ (agrees calls).store_stays call e

  -- "The block is written directly behind the bytes received so far"; "bytes not yet received .. are 0": an area is the accepted
  -- blocks of its id, joined, and 0 up to its size
  pub areas-hold-their-blocks : (calls : List Call) (id : ℕ) (p : Package) → find id (packages_after calls) ≡ some p
      → area_of id (packages_after calls) (after calls).store ≡ (journal_of calls).blocks id ++ replicate (p.size - p.received) 0
  areas-hold-their-blocks calls = (agrees calls).area_holds

  pub received-is-their-length : (calls : List Call) (id : ℕ) (p : Package) → find id (packages_after calls) ≡ some p
      → length ((journal_of calls).blocks id) ≡ p.received
  received-is-their-length calls = (agrees calls).received_is_joined

  -- "and bytes past the last area are 0."
  pub past-the-last-area-is-0 : (calls : List Call)
      → drop (declared (packages_after calls)) (after calls).store ≡ replicate (free (packages_after calls) (after calls).store) 0
  past-the-last-area-is-0 calls = (agrees calls).end_holds

  -- "Declared sizes plus free bytes equal the store's length", which no call changes.
  pub declared-plus-free-is-the-length : (calls : List Call)
      → declared (packages_after calls) + free (packages_after calls) (after calls).store ≡ length lent
  declared-plus-free-is-the-length calls =
      (agrees calls).declared_plus_free ∙ every.length-stays calls loaded.state loaded.store
      ∙ load-length given list first lent is-accepted
