-- The lines of the listed entries as the code goes along them: what is left of them behind i entries. The whole text is the model's
-- ChangeInfo of a state with the session, and no longer than that is. Assumes nothing.
use Prim.Native.Nat.{ℕ, ◌+◌, ◌≤◌, ◌<◌}
use mathlib.Core.Path.{◌≡◌, refl, ap, ◌∙◌}
use mathlib.Core.Bool.{true}
use mathlib.Core.List.{List, [], ◌++◌, map, map-map}
use native.Mathlib.Omega.{arith}
use native.Mathlib.Numerals.{add-one}
use lib.ListN.{length, take, drop, get_or, length-append, drop_of_length-le}
use lib.Seq.{drop-cons}
use Rattle.text.specs.Put.{Put}
use Rattle.text.proofs.PutLaws.{put-length, put_then}
use Rattle.rows.specs.Line.{line_text}
use Rattle.actions.specs.Action.{Action}
use Rattle.actions.specs.View.{view_action}
use Rattle.model.specs.State as model
use Rattle.model.specs.State.{Store}
use Rattle.model.specs.Sound.{sound}
use Rattle.model.specs.Reading.{Report, change_lines, change_info, change_info_most}
use Rattle.model.proofs.reading.Lengths.{change-info-most}
use Rattle.state.specs.declared.session.Entry.{Entry}
use Rattle.state.specs.declared.session.Session.{Session}
use Rattle.state.specs.declared.state.State.{State}
use Rattle.state.specs.View.{entries_most, view_entry, no_entry, view_state}
use Rattle.state.proofs.Views.{entries-few}
use Rattle.soundness.proofs.SoundSession.{session-fits}
use Rattle.reading_reply.specs.Reply.{report_on_sound}
use Rattle.change_info.specs.Changes.{change_names, change_line, listed_actions, changes_text}

abbrev entry_action : Entry → Action
entry_action e = view_action e.action

-- the entries that the code goes along
abbrev pub listed : Session → List Entry
listed session = take session.count session.entries

-- the lines of entries
abbrev pub lines_of : List Entry → List ℕ
lines_of es = change_lines (map entry_action es)

pub listed-lines : (session : Session) → session.count ≤ entries_most → change_lines (listed_actions session) ≡ lines_of (listed session)
listed-lines session few =
    ap change_lines (ap model.actions (entries-few session few) ∙ map-map _ view_entry (listed session))

module _ (es : List Entry) (i : ℕ) where
  pub lines_left : i < length es → lines_of (drop i es) ≡ change_line (view_action (get_or es i no_entry).action) ++ lines_of (drop (i + 1) es)
  unfolding change_lines
  lines_left h = rw (drop-cons es i no_entry h, add-one)

  pub lines-over : length es ≤ i → lines_of (drop i es) ≡ []
  unfolding change_lines
  lines-over h = rw (drop_of_length-le es h)

  pub lines-length-left : i < length es
      → length (lines_of (drop i es)) ≡ length (change_line (view_action (get_or es i no_entry).action)) + length (lines_of (drop (i + 1) es))
  lines-length-left h =
      ap length (lines_left h) ∙ length-append (change_line (view_action (get_or es i no_entry).action)) (lines_of (drop (i + 1) es))

pub text-length-parts : (session : Session) → length (changes_text session) ≡ 15 + length (change_lines (listed_actions session))
unfolding changes_text line_text
text-length-parts session = length-append change_names (change_lines (listed_actions session))

pub same_text : (s : State) → changes_text s.session ≡ change_info (view_state s)
unfolding changes_text change_info
same_text s = refl

pub changes-report : (s : State) (r : Report ℕ) (old : List ℕ) → r ≡ report_on_sound (changes_text s.session) old
    → r ≡ report_on_sound (change_info (view_state s)) old
changes-report s r old e = e ∙ ap (λ (text : List ℕ). report_on_sound text old) (same_text s)

-- what soundness says of the session
pub session-short : (s : State) (store : Store) → sound (view_state s) store ≡ true
    → (s.session.count ≤ entries_most) × (length (changes_text s.session) ≤ change_info_most)
session-short s store ok = (session-fits s store ok, rw (same_text s) (change-info-most (view_state s) store ok))

-- ---- the whole text

module _ (l : List ℕ) (session : Session) (o : length (changes_text session) ≤ length l) where
  pub room-names : length change_names ≤ length l
  unfolding changes_text
  room-names = omega (arith, length-append change_names (change_lines (listed_actions session)))

  module _ (m : List ℕ) (p : ℕ) (f : Put l 0 change_names p m) where
    pub room-lines : p + length (change_lines (listed_actions session)) ≤ length m
    unfolding changes_text
    room-lines = omega (arith, length-append change_names (change_lines (listed_actions session)), f.behind, put-length l 0 change_names m p f)

    pub text-put : (j : List ℕ) (r : ℕ) → Put m p (change_lines (listed_actions session)) r j → Put l 0 (changes_text session) r j
    unfolding changes_text
    text-put j r g = put_then l 0 change_names (change_lines (listed_actions session)) m j p r f g
