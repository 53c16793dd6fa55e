-- Lists of calls: "each handed the state and store that the one before left, with nobody else writing them".
use Rattle.std.specs.Prelude.{List, [], ◌∷◌, map}
use Rattle.model.specs.State.{State, Store}
use Rattle.model.specs.Calls.{Call, Reply, refused, accepted}
use Rattle.model.specs.Step.{step}

-- a call and what it was answered
pub record Made : Type 0 where
  pub call : Call
  pub reply : Reply

-- the calls with their replies, and the state and store at the end
pub record Run : Type 0 where
  pub made : List Made
  pub state : State
  pub store : Store

unfoldable pub run : State → Store → List Call → Run
run s store [] = record { made = []; state = s; store = store }
run s store (call ∷ calls) =
    let o = step s store call in
    let later = run o.state o.store calls in
    record { made = record { call = call; reply = o.reply } ∷ later.made; state = later.state; store = later.store }

-- the calls that were not refused
unfoldable pub accepted_only : List Made → List Made
accepted_only [] = []
accepted_only (m ∷ made) = elim m.reply [ refused number ↦ accepted_only made | accepted answer ↦ m ∷ accepted_only made ]

abbrev pub calls_of : List Made → List Call
calls_of made = map (λ m. m.call) made
