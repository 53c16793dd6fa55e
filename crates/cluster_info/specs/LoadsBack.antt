-- Demand 2: "the cluster list that we write loads back as the same table".
use Rattle.std.specs.Prelude.{ℕ, ◌≤◌, ◌≡◌, List, length, take, replicate}
use Rattle.model.specs.State.{State, Store}
use Rattle.model.specs.Calls.{done}
use Rattle.model.specs.Tables.{running}
use Rattle.model.specs.Sound.{store_most, id_most}
use Rattle.model.specs.Step.{outcome}
use Rattle.model.specs.Load.{loaded_state, load}
use Rattle.reading_reply.specs.declared.ReadingReply.{ReadingReply}
use Rattle.reading_reply.specs.declared.ReadingReply.TheVariants.{Given}

-- where ClusterInfo of a state gave a count, Load of so many bytes from the buffer's start on is accepted, with whatever state, first id
-- and store Load may be handed, and the table that it gives is the running one
unfoldable pub LoadsBack : State → ReadingReply → List ℕ → Type 0
LoadsBack s reply buffer =
    (count : ℕ) → reply ≡ Given count → (given : State) (first : ℕ) (lent : Store) → 1 ≤ first → first ≤ id_most → length lent ≤ store_most
    → load given (take count buffer) first lent ≡ outcome done (loaded_state (running s) first) (replicate (length lent) 0)
