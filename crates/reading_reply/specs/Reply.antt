-- What the reading calls answer, by document 01's numbers, and what a report gives of a sound state.
use Rattle.std.specs.Prelude.{ℕ, List, length}
use Rattle.base.specs.Refusals.{first_refusal}
use Rattle.model.specs.Reading as model
use Rattle.model.specs.Reading.{Report, reading_reply, further_report_refusals, report_buffer}
use Rattle.reading_reply.specs.declared.ReadingReply.{ReadingReply}
use Rattle.reading_reply.specs.declared.ReadingReply.TheVariants.{Refused, ShortBuffer, Given}

-- "a refusal is the number alone (19 adds a length)": document 01's number or length for each case of the enum
abbrev pub reply_of : ReadingReply → model.ReadingReply
reply_of (Refused number) = model.refused_by number
reply_of (ShortBuffer needed) = model.short_buffer needed
reply_of (Given count) = model.given count

-- a reply, and what the lent buffer holds then, as the model's report
abbrev pub view_report : {A : Type 0} → ReadingReply → List A → Report A
view_report reply buffer = record { reply = reply_of reply; buffer = buffer }

-- ---- after refusal 1

-- "19. ShortBuffer: a report buffer too short; gives the length needed."; "These three answer the number of records or bytes written."
unfoldable pub reply_on_sound : ℕ → ℕ → model.ReadingReply
reply_on_sound needed room = reading_reply (first_refusal (further_report_refusals needed room)) needed

-- the report of a content into a lent buffer; `report_of` of the model is this of a sound state
unfoldable pub report_on_sound : {A : Type 0} → List A → List A → Report A
report_on_sound content old =
    record {
      reply = reply_on_sound (length content) (length old);
      buffer = report_buffer (reply_on_sound (length content) (length old)) content old;
    }
