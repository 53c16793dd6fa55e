-- Lines put into a buffer: the room for each part, the whole line, and the line of each answer and of each state. Assumes nothing.
use Prim.Native.Nat.{ℕ, ◌+◌, ◌≤◌, ◌<◌}
use mathlib.Core.Path.{◌≡◌, sym}
use mathlib.Core.Bool.{true, false}
use mathlib.Core.List.{List, [], ◌∷◌}
use native.Mathlib.Omega.{arith}
use lib.ListN.{length, take}
use lib.Seq.{length-take-le}
use mir.Syntax.{w32}
use mir.Val.{Fits}
use Rattle.base.specs.Quoted.{LF, comma}
use Rattle.text.specs.Digits.{digits}
use Rattle.text.specs.Put.{Put}
use Rattle.text.proofs.DigitLaws.{ten-digits}
use Rattle.text.proofs.PutLaws.{put-length, put_then}
use Rattle.model.specs.State.{State}
use Rattle.model.specs.Sound.{sound_for}
use Rattle.state.specs.declared.answer.Answer.{Answer}
use Rattle.state.specs.declared.answer.Answer.TheVariants.{Refused}
use Rattle.state.specs.declared.phase.Phase.{Phase}
use Rattle.state.specs.View.{view_phase}
use Rattle.script_answers.specs.Answers.{ended_number, named_line, record_line, wave_line, number_digits_most, answer_text}
use Rattle.script_answers.specs.ManagerState.{state_line, state_answer}

-- what ends within a buffer is a part of it
pub counted : (m : List ℕ) (r : ℕ) → r ≤ length m → r ≡ length (take r m)
counted m r h = sym (length-take-le r m h)

-- a line at the start does
module _ (l text m : List ℕ) (r : ℕ) (o : length text ≤ length l) (p : Put l 0 text r m) where
  pub put-inside : r ≤ length m
  put-inside = omega (arith, p.behind, put-length l 0 text m r p)

  pub put-counts : r ≡ length (take r m)
  put-counts = counted m r put-inside

-- ---- a number and the byte that ends it

module _ (l : List ℕ) (at n : ℕ) (o : at + (number_digits_most + 1) ≤ length l) (most : Fits w32 n) where
  ten : length (digits n) ≤ 10
  ten = ten-digits n (omega arith)

  pub number-room : at + length (digits n) ≤ length l
  number-room = omega (arith, ten)

  module _ (e : ℕ) (k : List ℕ) (g : Put l at (digits n) e k) where
    pub end-room : e < length k
    end-room = omega (arith, ten, g.behind, put-length l at (digits n) k e g)

    module _ (b r : ℕ) (j : List ℕ) (h : Put k e (b ∷ []) r j) where
      pub number_put : Put l at (ended_number n b) r j
      number_put = put_then l at (digits n) (b ∷ []) k j e r g h

      pub number_short : r ≤ at + (number_digits_most + 1)
      number_short = omega (arith, ten, g.behind, h.behind)

-- ---- a name before it

module _ (l : List ℕ) (at : ℕ) (name : List ℕ) (n : ℕ) (o : at + length name + (number_digits_most + 1) ≤ length l)
    (p : ℕ) (m : List ℕ) (f : Put l at name p m) where
  pub name-room : p + (number_digits_most + 1) ≤ length m
  name-room = omega (arith, f.behind, put-length l at name m p f)

  module _ (r : ℕ) (j : List ℕ) (g : Put m p (ended_number n LF) r j) where
    pub line-put : Put l at (named_line name n) r j
    line-put = put_then l at name (ended_number n LF) m j p r f g

    module _ (s : r ≤ p + (number_digits_most + 1)) where
      pub line-inside : r ≤ length j
      line-inside = omega (arith, name-room, put-length m p (ended_number n LF) j r g)

      pub line-counts : r ≡ length (take r j)
      line-counts = counted j r line-inside

-- ---- two numbers and four

module _ (l : List ℕ) (a b : ℕ) (p e : ℕ) (m k : List ℕ) (f : Put l 0 (ended_number a comma) p m) (g : Put m p (ended_number b LF) e k) where
  pub wave-put : Put l 0 (wave_line a b) e k
  wave-put = put_then l 0 (ended_number a comma) (ended_number b LF) m k p e f g

-- each number of the four is put behind the one before
module _ (l : List ℕ) (a b c d : ℕ) (p q r e : ℕ) (m k j i : List ℕ)
    (f : Put l 0 (ended_number a comma) p m) (g : Put m p (ended_number b comma) q k) (h : Put k q (ended_number c comma) r j)
    (x : Put j r (ended_number d LF) e i) where
  pub record-put : Put l 0 (record_line a b c d) e i
  record-put =
      put_then l 0 (ended_number a comma) _ m i p e f
      (put_then m p (ended_number b comma) _ k i q e g (put_then k q (ended_number c comma) (ended_number d LF) j i r e h x))

-- a is the answer that the code matched as b
pub said : (l : List ℕ) (at : ℕ) (a b : Answer) (r : ℕ) (m : List ℕ) → a ≡ b → Put l at (answer_text b) r m → Put l at (answer_text a) r m
said l at a b r m e p = rw e p

-- ---- the manager's state

-- a is the state that the code matched as b
pub named-state : (l : List ℕ) (a b : Phase) (r : ℕ) (m : List ℕ) → a ≡ b → Put l 0 (state_line (view_phase b)) r m
    → Put l 0 (state_line (view_phase a)) r m
named-state l a b r m e p = rw e p

module _ (l : List ℕ) (s : State) (size : ℕ) (r : ℕ) (m : List ℕ) where
  -- refused where the state is not sound
  pub unsound-state : sound_for s size ≡ false → Put l 0 (answer_text (Refused 1)) r m → Put l 0 (state_answer s size) r m
  unsound-state e p = rw e p

  -- and named where it is
  pub sound-state : sound_for s size ≡ true → Put l 0 (state_line s.phase) r m → Put l 0 (state_answer s size) r m
  sound-state e p = rw e p
