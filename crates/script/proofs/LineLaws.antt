-- A line at a position, for each way out of the code. Assumes nothing.
use Prim.Native.Nat.{ℕ, ◌+◌, ◌-◌, ◌≤◌, ◌<◌}
use mathlib.Core.Path.{◌≡◌, ap, ◌∙◌}
use mathlib.Core.Bool.{Bool, true, false}
use mathlib.Core.List.{List}
use native.Mathlib.Omega.{arith}
use lib.ListN.{length, get_or, take, drop, length-drop, drop_of_length-le, get_or-eq_default}
use lib.Seq.{take_all}
use borrow.Author.Tests.{eq-eqb, ne_eqb}
use Rattle.std.specs.Prelude.{Option, None}
use Rattle.base.specs.Quoted.{bytes}
use Rattle.text.specs.Word.{same_bytes}
use Rattle.text.specs.declared.cursor.Cursor.{Cursor}
use Rattle.script.specs.declared.line.ScriptLine.{ScriptLine}
use Rattle.script.specs.declared.line.ScriptLine.TheVariants as line
use Rattle.script.specs.Words.{word_at, last_number}
use Rattle.script.specs.Limits.{number_most}
use Rattle.script.specs.Line.{hash, session_line, old_cancel_line, old_fixed_line, old_line, short_line, command_line, script_line_at}
use Rattle.script.specs.Open.{computing}
use Rattle.script.proofs.WordLaws.{word-part}

module _ (s : List ℕ) (at : ℕ) where
  -- a position past the text has no line
  pub line-none : length s ≤ at → line.Unknown ≡ script_line_at s at
  unfolding computing
  line-none h = rw (get_or-eq_default s 0 h, drop_of_length-le s {i = at} h, drop_of_length-le s {i = at + 0 + 1} (omega arith))

  pub line-remark : get_or s at 0 ≡ hash → line.Remark ≡ script_line_at s at
  unfolding script_line_at
  line-remark h = rw (eq-eqb _ _ h)

  pub line-command : (end : ℕ) (x : ScriptLine) → end ≡ at + length (word_at s at) → (get_or s at 0 ≡ hash → ⊥)
      → x ≡ command_line s at (take (end - at) (drop at s)) (end + 1) → x ≡ script_line_at s at
  unfolding script_line_at
  line-command end x q n e = e ∙ rw (ne_eqb _ _ n, word-part s at end q, q)

  -- no number is the last word
  pub line-fixed : (w : List ℕ) (next : ℕ) (x : Option (ℕ × Cursor)) (r : ScriptLine) → x ≡ last_number s next number_most → x ≡ None
      → r ≡ session_line (take (length s - at) (drop at s)) → r ≡ short_line s at w next
  unfolding short_line
  line-fixed w next x r e h g = rw (← e, h) (rw (take_all (length s - at) (drop at s) (omega (arith, length-drop at s))) at g)

  -- behind `old` alone there is no word
  pub old-none : length s < at → line.Unknown ≡ old_line s at
  unfolding computing
  old-none h = rw (drop_of_length-le s {i = at} (omega arith))

  -- x is what the word at the position was compared with
  module _ (end : ℕ) (x : Bool) (r : ScriptLine) (q : end ≡ at + length (word_at s at))
      (e : x ≡ same_bytes (take (end - at) (drop at s)) (bytes "cancel")) where
    is-cancel : x ≡ same_bytes (word_at s at) (bytes "cancel")
    is-cancel = e ∙ ap (λ (w : List ℕ). same_bytes w (bytes "cancel")) (word-part s at end q)

    pub old-cancel : x ≡ true → r ≡ old_cancel_line s (end + 1) → r ≡ old_line s at
    unfolding old_line
    old-cancel h g = g ∙ rw (← is-cancel, h, q)

    pub old_fixed : x ≡ false → r ≡ old_fixed_line (take (length s - at) (drop at s)) → r ≡ old_line s at
    unfolding old_line
    old_fixed h g = rw (← is-cancel, h) (rw (take_all (length s - at) (drop at s) (omega (arith, length-drop at s))) at g)
