-- The replies of the reading calls: their numbers, and what decides them. On a sound state their refusals after refusal 1
-- decide, and an unsound one is refused by 1. Assumes nothing.
use Prim.Native.Nat.{ℕ}
use mathlib.Core.Path.{◌≡◌, refl, sym}
use mathlib.Core.Bool.{true, false}
use mathlib.Core.List.{[]}
use mathlib.Core.Option.{Option, none, some}
use lib.Dec.{eqb}
use borrow.Author.Tests.{eqb-true}
use Rattle.base.specs.Refusals.{first_refusal, number_or_zero}
use Rattle.base.proofs.Tests.{cond_cases}
use Rattle.model.specs.State.{State, Store}
use Rattle.model.specs.Sound.{sound}
use Rattle.model.specs.Reading.{ReadingReply, refused_by, short_buffer, given, reply_number, reading_reply, further_report_refusals, report_refusals, report_reply, further_payload_refusals, payload_refusals, payload_reply, progress_of, progress_refusals, progress}
use Rattle.model.proofs.soundness.Accepted.{on-sound, on-unsound}

-- the number of the reply is that of the first refusal that applies, or 0
pub reply-number : (refusal : Option ℕ) (count : ℕ) → reply_number (reading_reply refusal count) ≡ number_or_zero refusal
reply-number none count = refl
reply-number (some number) count =
    cond_cases (λ (r : ReadingReply). reply_number r ≡ number) (eqb number 19) (short_buffer count) (refused_by number)
    (λ e. sym (eqb-true number 19 e)) λ e. refl

module _ (s : State) (store : Store) where
  -- a reading call on a sound state is decided by its refusals after refusal 1
  pub report-decided : (needed room : ℕ) → sound s store ≡ true
      → first_refusal (report_refusals s store needed room) ≡ first_refusal (further_report_refusals needed room)
  unfolding report_refusals
  report-decided needed room = on-sound s store (further_report_refusals needed room)

  pub payload-decided : (id : ℕ) → sound s store ≡ true
      → first_refusal (payload_refusals s store id) ≡ first_refusal (further_payload_refusals s store id)
  unfolding payload_refusals
  payload-decided id = on-sound s store (further_payload_refusals s store id)

  pub progress-decided : sound s store ≡ true → progress s store ≡ given (progress_of s.work)
  unfolding progress progress_refusals first_refusal
  progress-decided h = rw (on-sound s store [] h)

  -- and one on an unsound state by 1
  pub report-unsound : (needed room : ℕ) → sound s store ≡ false → report_reply s store needed room ≡ refused_by 1
  unfolding report_reply report_refusals
  report-unsound needed room h = rw (on-unsound s store (further_report_refusals needed room) h)

  pub payload-unsound : (id : ℕ) → sound s store ≡ false → payload_reply s store id ≡ refused_by 1
  unfolding payload_reply payload_refusals
  payload-unsound id h = rw (on-unsound s store (further_payload_refusals s store id) h)

  pub progress-unsound : sound s store ≡ false → progress s store ≡ refused_by 1
  unfolding progress progress_refusals
  progress-unsound h = rw (on-unsound s store [] h)
