-- Work on the code's structs.
use Rattle.std.specs.Prelude.{ℕ, ◌<◌, cond, ltb, take, drop}
use Rattle.model.specs.State.{Store}
use Rattle.model.specs.Areas.{declared}
use Rattle.model.specs.Calls.{work}
use Rattle.state.specs.declared.package.PackageState.TheVariants.{Transferred}
use Rattle.state.specs.declared.work.Work.{Work}
use Rattle.state.specs.declared.state.State.{State}
use Rattle.state.specs.declared.answer.Answer.TheVariants.{Working, Cancelled}
use Rattle.state.specs.declared.answer.Answer.{Answer}
use Rattle.state.specs.declared.answer.Answered.{Answered}
use Rattle.state.specs.View.{view_packages, entries_most}
use Rattle.state.specs.Outcome.{Outcome, outcome, answered, called, called_on_sound}
use Rattle.areas.specs.Inside.{AreaInside}
use Rattle.areas.specs.Changed.{package_at}
use Rattle.state.specs.Exact.{with_work}
use Rattle.areas.specs.Place.{processing_place}
use Rattle.work_on_payload.specs.Payload.{work_on, PayloadInside}
use Rattle.work_on_payload.specs.Ending.{ended, sum_compared}

-- where the area of the package at i starts
abbrev pub area_at : State → ℕ → ℕ
area_at s i = declared (take i (view_packages s.transfers))

-- "Otherwise, with payload left, answer Working. With none left," the sum is compared: after has the kept values then, and the package at i
-- is processing
unfoldable pub worked_to : State → ℕ → Work → Answered Answer
worked_to s i after =
    cond (ltb after.done after.count) (answered Working (with_work after s)) (sum_compared s.transfers i s.session after)

-- "If a cancel is noted, nothing is taken: answer Cancelled."; "Cancelled and Inconsistent make the package Transferred again."
unfoldable pub worked_at : State → Store → ℕ → ℕ → Answered Answer
worked_at s store i n =
    cond s.work.cancel_noted
    (ended s.transfers i Transferred s.session Cancelled)
    (worked_to s i (work_on s.work n (drop (area_at s i) store)))

-- "Work(n), n of 32 bits", at the place of the package that is processing. The store stays as it is
abbrev pub worked : State → Store → ℕ → Outcome
worked s store n = outcome (worked_at s store (processing_place (view_packages s.transfers)) n) store

-- Work(n): refused as the model refuses it, or accepted
abbrev pub work_called : State → Store → ℕ → Outcome
work_called s store n = called s store (work n) (worked s store n)

-- the same after refusal 1, of a sound state
abbrev pub work_called_on_sound : State → Store → ℕ → Outcome
work_called_on_sound s store n = called_on_sound s store (work n) (worked s store n)

-- what soundness says in Processing, where the package at i is the one: its area and its payload lie in the store, and the session's list
-- has room for its action
pub record WorkFits (s : State) (i store_length : ℕ) : Type 0 where
  pub area : AreaInside s.transfers i (package_at s.transfers i) store_length
  pub payload : PayloadInside s.work (area_at s i) store_length
  pub room : s.session.count < entries_most
