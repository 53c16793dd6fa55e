-- What a report leaves in the lent buffer: it keeps the buffer's length, writes its content at the front and nothing else, and writes
-- nothing where it is refused. Assumes nothing.
use Prim.Native.Nat.{ℕ, ◌≤◌, ◌<◌}
use mathlib.Core.Path.{◌≡◌, refl, ap}
use mathlib.Core.Bool.{true}
use mathlib.Core.List.{List}
use native.Mathlib.Omega.{arith}
use lib.Dec.{ltb}
use lib.ListN.{length, take, drop, length-append, length-drop}
use lib.Seq.{take-append_seam, drop-append_seam}
use borrow.Author.Tests.{ltb-true, ltb-false, lt-ltb, le-ltb}
use Rattle.base.specs.Refusals.{first_refusal}
use Rattle.base.proofs.Tests.{bool_cases}
use Rattle.model.specs.State.{State, Store}
use Rattle.model.specs.Sound.{sound}
use Rattle.model.specs.Reading.{ReadingReply, refused_by, short_buffer, given, reply_number, further_report_refusals, report_reply, report_buffer}
use Rattle.model.proofs.reading.Replies.{report-decided, report-unsound}

module _ (s : State) (store : Store) (needed room : ℕ) (h : sound s store ≡ true) where
  pub report-short : room < needed → report_reply s store needed room ≡ short_buffer needed
  unfolding report_reply further_report_refusals first_refusal
  report-short short = rw (report-decided s store needed room h, lt-ltb room needed short)

  -- "19. ShortBuffer"
  pub report-short-number : room < needed → reply_number (report_reply s store needed room) ≡ 19
  report-short-number short = ap reply_number (report-short short)

  pub report-fits : needed ≤ room → report_reply s store needed room ≡ given needed
  unfolding report_reply further_report_refusals first_refusal
  report-fits fits = rw (report-decided s store needed room h, le-ltb room needed fits)

module _ {A : Type 0} (content old : List A) where
  -- a refused report leaves the buffer as it was
  pub refused-leaves : (reply : ReadingReply) → 1 ≤ reply_number reply → report_buffer reply content old ≡ old
  unfolding report_buffer
  refused-leaves (refused_by number) h = refl
  refused-leaves (short_buffer needed) h = refl
  refused-leaves (given count) h = absurd (omega arith)

  -- the first bytes or records are the content, and those behind keep their values
  pub written-first : take (length content) (report_buffer (given (length content)) content old) ≡ content
  unfolding report_buffer
  written-first = take-append_seam content (drop (length content) old)

  pub written_behind : drop (length content) (report_buffer (given (length content)) content old) ≡ drop (length content) old
  unfolding report_buffer
  written_behind = drop-append_seam content (drop (length content) old)

  -- the buffer keeps its length
  pub buffer-length : (s : State) (store : Store)
      → length (report_buffer (report_reply s store (length content) (length old)) content old) ≡ length old
  unfolding report_buffer
  buffer-length s store =
      bool_cases (sound s store)
      (λ h. bool_cases (ltb (length old) (length content))
      (λ b. rw (report-short s store (length content) (length old) h (ltb-true _ _ b)))
      λ b. let fits = ltb-false (length old) (length content) b in
      rw (report-fits s store (length content) (length old) h fits) (simp (length-append, length-drop) (omega arith)))
      λ h. rw (report-unsound s store (length content) (length old) h)
