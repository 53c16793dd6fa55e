-- The ways out of a report into a lent buffer, the same for all: refused by 1 or by 19, or given. `search reports` closes each return of
-- one. A refusal leaves the buffer as it was; an accepted report leaves its content and behind it the old values. Assumes nothing.
use Prim.Native.Nat.{ℕ, ◌+◌, ◌≤◌, ◌<◌}
use mathlib.Core.Path.{◌≡◌, refl, sym, ap, ◌∙◌}
use mathlib.Core.Bool.{Bool, true, false, not}
use mathlib.Core.List.{List, ◌++◌}
use native.Mathlib.Omega.{arith}
use native.Mathlib.Nat.{zero-add}
use lib.ListN.{length, take, drop}
use lib.Seq.{sets-eq}
use lib.Dec.{ltb}
use borrow.Author.Tests.{lt-ltb, le-ltb, ltb-true, ltb-false}
use Rattle.base.specs.Refusals.{first_refusal}
use Rattle.base.proofs.Tests.{bool_cases}
use Rattle.base.proofs.Ladder.{told-no, told-yes}
use Rattle.text.specs.Put.{Put}
use Rattle.model.specs.State.{State, Store}
use Rattle.model.specs.Sound.{sound}
use Rattle.model.specs.Reading as model
use Rattle.model.specs.Reading.{Report, short_buffer, given, reply_number, further_report_refusals, report_reply, report_buffer, report_of}
use Rattle.model.proofs.reading.Buffers.{report-short, report-fits, refused-leaves, written-first, written_behind}
use Rattle.model.proofs.reading.Replies.{report-decided, report-unsound}
use Rattle.reading_reply.specs.declared.ReadingReply.{ReadingReply}
use Rattle.reading_reply.specs.declared.ReadingReply.TheVariants.{Refused, ShortBuffer, Given}
use Rattle.reading_reply.specs.Reply.{reply_of, view_report, reply_on_sound, report_on_sound}

-- ---- after refusal 1

module _ (needed room : ℕ) where
  short-reply : room < needed → reply_on_sound needed room ≡ short_buffer needed
  unfolding reply_on_sound further_report_refusals first_refusal
  short-reply h = rw (lt-ltb room needed h)

  given-reply : needed ≤ room → reply_on_sound needed room ≡ given needed
  unfolding reply_on_sound further_report_refusals first_refusal
  given-reply h = rw (le-ltb room needed h)

module _ {A : Type 0} (content old : List A) (n : ℕ) (e : n ≡ length content) where
  -- "19. ShortBuffer": n is the length that was computed beforehand
  pub short-report : length old < n → view_report (ShortBuffer n) old ≡ report_on_sound content old
  unfolding report_on_sound report_buffer
  short-report h =
      rw (short-reply (length content) (length old) (rw e at h))
      (ap {B = Report A} (λ (needed : ℕ). record { reply = short_buffer needed; buffer = old }) e)

  -- "Records or bytes behind what was written keep their values.": exact room is enough
  pub given-report : (new : List A) → length content ≤ length old → new ≡ content ++ drop (length content) old
      → view_report (Given n) new ≡ report_on_sound content old
  unfolding report_on_sound report_buffer
  given-report new h same = rw (e, same, given-reply (length content) (length old) h)

-- bytes that a writer put at the buffer's start
pub put-report : (content old new : List ℕ) (n next : ℕ) → n ≡ length content → n ≤ length old → Put old 0 content next new
    → view_report (Given next) new ≡ report_on_sound content old
put-report content old new n next e h p =
    let room : length content ≤ length old = omega arith in
    given-report content old next (p.behind ∙ zero-add (length content)) new room
    (p.bytes ∙ sets-eq content old 0 (omega arith) ∙ rw zero-add)

-- ---- 1: b is what the check of soundness answers

module _ {A : Type 0} (s : State) (store : Store) (content old : List A) (b : Bool) (told : b ≡ sound s store) where
  pub refuse-unsound-report : not b ≡ true → view_report (Refused 1) old ≡ report_of s store content old
  unfolding report_of report_buffer
  refuse-unsound-report h = rw (report-unsound s store (length content) (length old) (told-no b _ told h))

  pub pass-sound-report : (r : Report A) → not b ≡ false → r ≡ report_on_sound content old → r ≡ report_of s store content old
  unfolding report_of report_reply report_on_sound reply_on_sound
  pass-sound-report r h e = rw (e, report-decided s store (length content) (length old) (told-yes b _ told h))

-- ---- what a report's equation says of the buffer

reply-apart : {X : Type 0} (a b : model.ReadingReply) → a ≡ b → reply_number a ≡ 0 → (reply_number b ≡ 0 → ⊥) → X
reply-apart a b e z n = absurd (n (ap reply_number (sym e) ∙ z))

same_count : (a b : ℕ) → given a ≡ given b → a ≡ b
same_count a b e = cc

module _ {A : Type 0} (s : State) (store : Store) (content old : List A) where
  -- the state is sound, the count is the content's length, the first so many of the buffer are the content, and those behind keep their
  -- values
  pub record GivenReport (count : ℕ) (new : List A) : Type 0 where
    pub is_sound : sound s store ≡ true
    pub counted : count ≡ length content
    pub first : take count new ≡ content
    pub behind : drop count new ≡ drop count old

  given_is : (count : ℕ) → given count ≡ report_reply s store (length content) (length old) → (sound s store ≡ true) × (count ≡ length content)
  given_is count e =
      bool_cases (sound s store)
      (λ ok. bool_cases (ltb (length old) (length content))
      (λ b. reply-apart _ _ (e ∙ report-short s store (length content) (length old) ok (ltb-true _ _ b)) refl λ z. omega arith)
      λ b. (ok, same_count _ _ (e ∙ report-fits s store (length content) (length old) ok (ltb-false _ _ b))))
      λ bad. reply-apart _ _ (e ∙ report-unsound s store (length content) (length old) bad) refl λ z. omega arith

  pub given-says : (r : ReadingReply) (new : List A) (count : ℕ) → view_report r new ≡ report_of s store content old → r ≡ Given count
      → GivenReport count new
  unfolding report_of
  given-says r new count e f =
      let reply : given count ≡ report_reply s store (length content) (length old) = ap reply_of (sym f) ∙ ap (λ (z : Report A). z.reply) e in
      let is = given_is count reply in
      let buffer : new ≡ report_buffer (given (length content)) content old =
      ap (λ (z : Report A). z.buffer) e ∙ ap (λ (z : model.ReadingReply). report_buffer z content old) (sym reply ∙ ap given is.1) in
      record {
        is_sound = is.0;
        counted = is.1;
        first = rw (is.1, buffer) (written-first content old);
        behind = rw (is.1, buffer) (written_behind content old);
      }

  -- a refusal leaves the buffer as it was
  pub refused-keeps : (r : ReadingReply) (new : List A) → view_report r new ≡ report_of s store content old → 1 ≤ reply_number (reply_of r)
      → new ≡ old
  unfolding report_of
  refused-keeps r new e h =
      let reply : report_reply s store (length content) (length old) ≡ reply_of r = sym (ap (λ (z : Report A). z.reply) e) in
      ap (λ (z : Report A). z.buffer) e ∙ refused-leaves content old _ (rw reply h)

pub ruleset reports = (short-report, put-report, refuse-unsound-report, pass-sound-report)
