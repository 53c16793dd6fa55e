-- The payload bytes that Work takes into the sum, on the kept values as structs.
use Rattle.std.specs.Prelude.{ℕ, ◌+◌, ◌≤◌, ◌≡◌, true, List}
use Rattle.checksum.specs.Sum.{continued, sums_within}
use Rattle.model.specs.Step.{taken, bytes_taken}
use Rattle.state.specs.declared.work.Work.{Work}
use Rattle.state.specs.View.{kept_work}

-- "takes the next n payload bytes, or what is left, into the sum": the kept values then, where the given bytes begin with the package's area
abbrev pub work_on : Work → ℕ → List ℕ → Work
work_on w n bytes =
    record {
      action = w.action;
      start = w.start;
      count = w.count;
      sum = w.sum;
      running_sums = continued w.running_sums (bytes_taken (kept_work w) n bytes);
      done = w.done + taken (kept_work w) n;
      cancel_noted = w.cancel_noted;
    }

-- what soundness says of the kept values with an area that starts at a byte, in a store of a length: the payload lies in the store, "done
-- bytes at most its payload", "c0 and c1 are at most 254"
pub record PayloadInside (w : Work) (area store_length : ℕ) : Type 0 where
  pub inside : area + (w.start + w.count) ≤ store_length
  pub done : w.done ≤ w.count
  pub running_sums : sums_within w.running_sums ≡ true
