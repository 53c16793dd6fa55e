-- The invariant of the list theorem: what ties a state and its store to the journal of the calls that led to them. An accepted Load
-- establishes it, every call keeps it, and from it demand 3 holds of every list of calls. So a list may go on from wherever it holds.
use Rattle.std.specs.Prelude.{◌≡◌, Bool, true, false, List, [], ◌∷◌, ◌++◌, ℕ, ◌-◌, ◌≤◌, length, replicate}
use Rattle.std.proofs.Math.Option.{Option, none, some}
use Rattle.manifest.specs.Package.{Manifest, consistent, read_package}
use Rattle.model.specs.State.{Package, ready_cleans_up, activated_cleans_up, rolled_back_cleans_up, Phase, idle, ready, processing, activating, verifying, activated, rolling_back, rolled_back, cleaning_up, is_idle, is_processing, Session, Work, State, Store, actions}
use Rattle.model.specs.Areas.{processing_id}
use Rattle.model.specs.Tables.{running_in}
use Rattle.model.specs.Sound.{sound}
use Rattle.model.specs.Journal.{Direction, to_activate, to_revert, to_rollback, to_finish, Journal}

-- ---- the tables

-- the direction that the journal has in each of the manager's states. "An accepted Activate, Revert, Rollback or Finish becomes the
-- direction; Report answered NotAbleToRollback sets it to Activate."; in the other states it is any, for no Report is answered there
abbrev pub DirectionIn : Phase → Direction → Type 0
DirectionIn idle _ = Unit {0}
DirectionIn ready _ = Unit {0}
DirectionIn processing _ = Unit {0}
DirectionIn activating direction = direction ≡ to_activate
DirectionIn verifying direction = direction ≡ to_activate
DirectionIn activated direction = direction ≡ to_activate
DirectionIn (rolling_back origin) direction = direction ≡ to_rollback
DirectionIn rolled_back _ = Unit {0}
DirectionIn (cleaning_up ready_cleans_up) direction = direction ≡ to_revert
DirectionIn (cleaning_up activated_cleans_up) direction = direction ≡ to_finish
DirectionIn (cleaning_up rolled_back_cleans_up) direction = direction ≡ to_finish

-- "with Rollback, now completed": a Rollback of the session was completed
abbrev pub is_rolled_back : Phase → Bool
is_rolled_back idle = false
is_rolled_back ready = false
is_rolled_back processing = false
is_rolled_back activating = false
is_rolled_back verifying = false
is_rolled_back activated = false
is_rolled_back (rolling_back origin) = false
is_rolled_back rolled_back = true
is_rolled_back (cleaning_up ready_cleans_up) = false
is_rolled_back (cleaning_up activated_cleans_up) = false
is_rolled_back (cleaning_up rolled_back_cleans_up) = true

pub record TablesAgree (j : Journal) (phase : Phase) (session : Session) : Type 0 where
  -- "B, up to the return that ends a session, is that session's beginning table."
  pub beginning : j.B ≡ session.beginning
  -- "the action .. goes last in A": A is the session's list, in processing order
  pub listing : j.A ≡ actions session.listed
  -- "R is the running table after every call"
  pub table : j.R ≡ running_in phase session
  -- "Idle is reached at these returns only."
  pub at_idle : j.is_idle ≡ is_idle phase
  pub direction : DirectionIn phase j.direction
  pub rollback_completed : j.rollback_completed ≡ is_rolled_back phase

-- ---- the store

abbrev pub zeros : ℕ → List ℕ
zeros n = replicate n 0

-- the bytes of a package's area, given the joined blocks of each id: "bytes not yet received .. are 0"
unfoldable pub area_bytes : (ℕ → List ℕ) → Package → List ℕ
area_bytes blocks p = blocks p.id ++ zeros (p.size - p.received)

-- "Their areas, each of the declared size, lie back to back in id order from byte 0."
unfoldable pub areas_bytes : (ℕ → List ℕ) → List Package → List ℕ
areas_bytes blocks [] = []
areas_bytes blocks (p ∷ ps) = area_bytes blocks p ++ areas_bytes blocks ps

-- "The block is written directly behind the bytes received so far": a package has received as many bytes as its joined blocks have, and
-- no more than its size
pub record Filled (blocks : ℕ → List ℕ) (p : Package) : Type 0 where
  pub joined : length (blocks p.id) ≡ p.received
  pub within : p.received ≤ p.size

abbrev pub AllFilled : (ℕ → List ℕ) → List Package → Type 0
AllFilled blocks [] = Unit {0}
AllFilled blocks (p ∷ ps) = Filled blocks p × AllFilled blocks ps

-- "from Load on, with no other writer, bytes not yet received and bytes past the last area are 0"
pub record Holds (blocks : ℕ → List ℕ) (ps : List Package) (store : Store) : Type 0 where
  pub filled : AllFilled blocks ps
  pub behind : ℕ
  pub bytes : store ≡ areas_bytes blocks ps ++ zeros behind

-- ---- the kept values

-- the manifest of which the kept values are. "The state keeps the action, the payload's start within its area, count and sum"
abbrev pub manifest_kept : Work → Manifest
manifest_kept w = record { action = w.action; start = w.start; count = w.count; sum = w.sum }

-- "the package of the last accepted Process" is the one that is processing, and "its accepted blocks, joined" read as the kept values
pub record ReadFrom (j : Journal) (packages : List Package) (w : Work) : Type 0 where
  pub last : j.last_process ≡ processing_id packages
  pub read : read_package (j.blocks j.last_process) ≡ consistent (manifest_kept w)

abbrev pub KeptFrom : Journal → List Package → Option Work → Type 0
KeptFrom j packages none = Unit {0}
KeptFrom j packages (some w) = ReadFrom j packages w

-- ---- the whole

pub record Invariant (j : Journal) (s : State) (store : Store) : Type 0 where
  -- "1. BadState: .. the state isn't sound": it is
  pub is_sound : sound s store ≡ true
  pub tables : TablesAgree j s.phase s.session
  pub areas : Holds j.blocks s.transfers.packages store
  -- "gives the next id, one above the last given": an id that was not given yet has no blocks
  pub fresh : (id : ℕ) → s.transfers.next ≤ id → j.blocks id ≡ []
  pub kept_values : is_processing s.phase ≡ true → KeptFrom j s.transfers.packages s.work
