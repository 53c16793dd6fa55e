-- Which calls leave the store as it was: all but TransferData, DeleteTransfer and the Report that ends CleaningUp. Assumes nothing.
use mathlib.Core.Path.{◌≡◌, refl}
use mathlib.Core.Bool.{false, true≢false}
use Rattle.model.specs.State.{State, Store}
use Rattle.model.specs.Calls.{Call}
use Rattle.model.specs.Step.{Outcome, cleaned_up, step}
use Rattle.model.specs.Demand3.{may_write_store}
use Rattle.model.specs.Accepted.{Accepted, starts, puts_block, exits, deletes, processes, works_on, leaves, completes, cancels, moves, ends}
use Rattle.model.proofs.transitions.Accepting.{accepted-is}
use Rattle.model.proofs.transitions.Refused.{step-cases}

stays : {s : State} {store : Store} {call : Call} {o : Outcome} → Accepted s store call o → may_write_store s.phase call ≡ false
    → o.store ≡ store
unfolding cleaned_up
stays (starts size h7 h16 h17 h18) e = refl
stays (puts_block id counter block p f h5 h6 h7 h) e = absurd (true≢false e)
stays (exits id p m f h5 h8 h9) e = refl
stays (deletes id p f h5 h) e = absurd (true≢false e)
stays (processes id p m rest f h5 h9 h) e = refl
stays (works_on w n c l) e = refl
stays (leaves w n f) e = refl
stays (completes w n c l f) e = refl
stays (cancels w id f) e = refl
stays (moves g) e = refl
stays (ends g) e = absurd (true≢false e)

pub store-stays : (s : State) (store : Store) (call : Call) → may_write_store s.phase call ≡ false → (step s store call).store ≡ store
store-stays s store call =
    step-cases (λ o. may_write_store s.phase call ≡ false → o.store ≡ store) s store call (λ number r e. refl)
    λ a e. stays (accepted-is s store call a) e
