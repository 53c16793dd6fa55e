-- Process on the code's structs.
use Rattle.std.specs.Prelude.{ℕ, false}
use Rattle.checksum.specs.Sum.{start_sums}
use Rattle.manifest.specs.declared.package.PackageRead.{PackageRead as PackageReadStruct}
use Rattle.manifest.specs.Answer.{package_read}
use Rattle.model.specs.State.{Store}
use Rattle.model.specs.Calls.{process}
use Rattle.model.specs.Step.{area_read}
use Rattle.state.specs.declared.package.Package.{Package}
use Rattle.state.specs.declared.package.PackageState.TheVariants as package_state
use Rattle.state.specs.declared.phase.Phase.TheVariants as phase
use Rattle.state.specs.declared.work.Work.{Work}
use Rattle.state.specs.declared.state.State.{State}
use Rattle.state.specs.declared.answer.Answer.TheVariants.{Done}
use Rattle.state.specs.declared.answer.Answer.{Answer}
use Rattle.state.specs.declared.answer.Answered.{Answered}
use Rattle.state.specs.View.{view_state}
use Rattle.state.specs.Exact.{in_state, with_package, state}
use Rattle.state.specs.Outcome.{Outcome, outcome, answered, called, called_on_sound}
use Rattle.areas.specs.Changed.{with_changed}

-- "The state keeps the action, the payload's start within its area, count and sum, with the running sums and the bytes done at 0"
abbrev pub work_of_package : PackageReadStruct → Work
work_of_package read =
    record {
      action = read.action;
      start = read.start;
      count = read.count;
      sum = read.sum;
      running_sums = start_sums;
      done = 0;
      cancel_noted = false;
    }

-- the package p at i is Processing, with the values that are kept of it
abbrev pub processing_begun_at : State → ℕ → Package → Work → Answered Answer
processing_begun_at s i p work =
    answered Done (state phase.Processing (with_package i (in_state package_state.Processing p) s.transfers) s.session work)

-- "Process(id): Idle or Ready to Processing. From Idle a session begins.": the session and the store stay as they are, the package is
-- Processing, and what its area reads as is kept
abbrev pub processing_begun : State → Store → ℕ → Outcome
processing_begun s store id =
    outcome
    (answered Done
    (state
    phase.Processing
    (with_changed id (in_state package_state.Processing) s.transfers)
    s.session
    (work_of_package (package_read (area_read (view_state s) store id)))))
    store

-- Process(id): refused as the model refuses it, or accepted
abbrev pub process_called : State → Store → ℕ → Outcome
process_called s store id = called s store (process id) (processing_begun s store id)

-- the same after refusal 1, of a sound state
abbrev pub process_called_on_sound : State → Store → ℕ → Outcome
process_called_on_sound s store id = called_on_sound s store (process id) (processing_begun s store id)
