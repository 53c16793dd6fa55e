-- What the computed examples are made of: texts, the parts of a state, a Load, transcripts (lists of calls with their
-- answers) and the one type of cases. A table is a list of cases, and holds where every call of every case is answered as the case
-- says and each case ends with what it says. Assumes nothing.
use Prim.Native.Nat.{ℕ}
use Prim.Native.String.{String}
use mathlib.Core.Path.{◌≡◌}
use mathlib.Core.Bool.{Bool, true}
use mathlib.Core.List.{List, [], ◌∷◌, ◌++◌, map}
use lib.ListN.{length, replicate, take, drop}
use Rattle.base.specs.Quoted.{bytes, LF}
use Rattle.clusters.specs.Table.{Table}
use Rattle.actions.specs.Action.{Action}
use Rattle.model.specs.State.{PackageState, Package, Transfers, Entry, Session, Work, State, Store}
use Rattle.model.specs.Calls.{Call, transfer_start, transfer_data, transfer_exit, process, work, activate, report, Answer, given_id, done, processed, refused, accepted}
use Rattle.model.specs.Load.{load, loaded_state}
use Rattle.model.specs.Run.{Made, Run, run, calls_of}

-- ---- texts

abbrev pub line : String → List ℕ
line words = bytes words ++ LF ∷ []

-- a list of four names with one value line
abbrev pub four_names_text : String → List ℕ
four_names_text values = line "cluster,version,needs,least" ++ line values

-- a list of five names with one value line: our writer's
abbrev pub written_text : String → List ℕ
written_text values = line "cluster,version,needs,least,stays" ++ line values

-- a package with one value line
abbrev pub package_text : String → String → List ℕ
package_text values payload =
    line "action,cluster,version,payload,sum,needs,least" ++ (line values ++ LF ∷ bytes payload)

-- ---- the parts of a state

-- id, size, bytes received, accepted blocks
abbrev pub package_of : ℕ → ℕ → ℕ → ℕ → PackageState → Package
package_of id size received blocks s = record { id = id; size = size; received = received; blocks = blocks; state = s }

abbrev pub transfers : List Package → ℕ → Transfers
transfers packages next = record { packages = packages; next = next }

abbrev pub session : Table → List Entry → Session
session beginning listed = record { beginning = beginning; listed = listed }

abbrev pub entry : ℕ → Action → Entry
entry id action = record { id = id; action = action }

-- the kept values: action, payload's start, count and sum, c0 and c1, bytes done, whether a cancel is noted
abbrev pub kept : Action → ℕ → ℕ → ℕ → ℕ → ℕ → ℕ → Bool → Work
kept action payload_start count sum c0 c1 bytes_done cancel_noted =
    record {
      action = action;
      start = payload_start;
      count = count;
      sum = sum;
      running_sums = record { c0 = c0; c1 = c1 };
      done = bytes_done;
      cancel_noted = cancel_noted;
    }

-- ---- where calls begin

pub record Start : Type 0 where
  pub state : State
  pub store : Store

abbrev pub start : State → Store → Start
start s store = record { state = s; store = store }

-- Load of a list with a first id, in a store of a length whose bytes were not 0
abbrev pub loaded_from : List ℕ → ℕ → ℕ → Start
loaded_from list first room = let o = load (loaded_state [] 1) list first (replicate room 255) in start o.state o.store

-- the same of a list with one cluster, 20 at 1.0.4.0
abbrev pub loaded_with : ℕ → ℕ → Start
loaded_with first room = loaded_from (four_names_text "20,1.0.4.0,,") first room

-- ---- transcripts

infix 70 ◌gives◌
abbrev pub ◌gives◌ : Call → Answer → Made
call gives answer = record { call = call; reply = accepted answer }

infix 70 ◌is_refused_by◌
abbrev pub ◌is_refused_by◌ : Call → ℕ → Made
call is_refused_by number = record { call = call; reply = refused number }

-- a whole package, transferred in two blocks
abbrev pub calls_to_transfer : ℕ → List ℕ → List Made
calls_to_transfer id text =
    transfer_start (length text) gives given_id id
    ∷ transfer_data id 1 (take 40 text) gives done
    ∷ transfer_data id 2 (drop 40 text) gives done
    ∷ transfer_exit id gives done
    ∷ []

-- the whole of a package's payload of n bytes, or fewer, worked at once
abbrev pub calls_to_process : ℕ → ℕ → List Made
calls_to_process id n = process id gives done ∷ work n gives processed ∷ []

-- Ready to Verifying
abbrev pub calls_to_verifying : List Made
calls_to_verifying = activate gives done ∷ report true gives done ∷ []

-- ---- cases

-- calls from a start on, with their answers, and what is looked at in the end
pub record Case (A : Type 0) : Type 0 where
  pub begins : Start
  pub transcript : List Made
  pub ending : A

-- cases that look at the answers alone
abbrev pub Answered : Type 0
Answered = Case (Unit {0})

infix 70 from◌calls◌
abbrev pub from◌calls◌ : Start → List Made → Answered
from begins calls transcript = record { begins = begins; transcript = transcript; ending = tt }

-- and those that look at more
infix 69 ◌ends◌
abbrev pub ◌ends◌ : {A : Type 0} → Answered → A → Case A
c ends ending = record { begins = c.begins; transcript = c.transcript; ending = ending }

-- what the calls of a transcript give
abbrev pub after : Start → List Made → Run
after begins transcript = run begins.state begins.store (calls_of transcript)

-- every case of the table holds, where this is looked at in what the calls gave
abbrev pub HoldLooking : {A : Type 0} → (Run → A) → List (Case A) → Type 0
HoldLooking {A} look cases =
    map (λ (c : Case A). let r = after c.begins c.transcript in from c.begins calls r.made ends look r) cases ≡ cases

-- every case of the table holds, where the answers alone are looked at
abbrev pub Hold : List Answered → Type 0
Hold = HoldLooking (λ r. tt)
