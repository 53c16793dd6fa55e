-- The form of a word and what it says of the word. Assumes nothing.
use Prim.Native.Nat.{ℕ, ◌+◌, ◌-◌, ◌/◌, ◌≤◌, ◌<◌}
use mathlib.Core.Path.{◌≡◌, sym, ap, ◌∙◌}
use mathlib.Core.Bool.{true}
use mathlib.Core.List.{List, map}
use native.Mathlib.Omega.{arith}
use lib.ListN.{length, get_or, take, drop, length-map, length-drop, get_or-map, set}
use lib.Seq.{take_all}
use lib.Dec.{ltb, eqb}
use borrow.Author.Tests.{ltb-false}
use Rattle.std.specs.Prelude.{Option, Some, None}
use Rattle.base.specs.Quoted.{bytes}
use Rattle.base.proofs.Tests.{cond_cases}
use Rattle.text.specs.Word.{same_bytes}
use Rattle.text.specs.Put.{Put}
use Rattle.text.proofs.PutLaws.{put-nothing}
use Rattle.text.proofs.Putting.{Putting, bytes_on, bytes-done}
use Rattle.script_bytes.specs.declared.form.Form.{Form}
use Rattle.script_bytes.specs.declared.form.Form.TheVariants.{Digits, Nothing, Typed}
use Rattle.script_bytes.specs.Hex.{is_digits, digits_bytes}
use Rattle.script_bytes.specs.Block.{equals, form_of, typed_byte, form_bytes, block_bytes}
use Rattle.script_bytes.proofs.HexLaws.{length-digits-bytes}

-- what a form says of its word
abbrev Told : List ℕ → Option Form → Type 0
Told w (Some Digits) = is_digits w ≡ true
Told w (Some Nothing) = Unit {0}
Told w (Some Typed) = 1 ≤ length w
Told w None = Unit {0}

form-told : (w : List ℕ) → Told w (form_of w)
unfolding form_of
form-told w =
    cond_cases (Told w) (ltb (length w) 1) _ _ (λ t. tt)
    λ some. cond_cases (Told w) (eqb (get_or w 0 0) equals) _ _ (λ t. ltb-false _ _ some)
    λ f. cond_cases (Told w) (same_bytes w (bytes "-")) _ _ (λ t. tt)
    λ g. cond_cases (Told w) (is_digits w) _ _ (λ t. t) (λ h. tt)

-- the part of a word behind its first byte
behind-first : (w : List ℕ) → take (length w - 1) (drop 1 w) ≡ drop 1 w
behind-first w = take_all (length w - 1) (drop 1 w) (omega (arith, length-drop 1 w))

-- r is the form that the code found
module _ (w : List ℕ) (r : Option Form) (e : r ≡ form_of w) where
  pub form-digits : (f : Form) → r ≡ Some f → f ≡ Digits → is_digits w ≡ true
  form-digits f h q = rw (← e, h, q) at (form-told w)

  pub form-typed : (f : Form) → r ≡ Some f → f ≡ Typed → 1 ≤ length w
  form-typed f h q = rw (← e, h, q) at (form-told w)

  form-bytes : (f : Option Form) → r ≡ f → block_bytes w ≡ form_bytes f w
  unfolding block_bytes
  form-bytes f h = rw (← e, h)

  -- how many bytes there are
  pub digits-count : (f : Form) → r ≡ Some f → f ≡ Digits → length w / 2 ≡ length (block_bytes w)
  digits-count f h q = rw (form-bytes (Some Digits) (h ∙ ap Some q)) (sym (length-digits-bytes w))

  pub nothing-count : (f : Form) → r ≡ Some f → f ≡ Nothing → 0 ≡ length (block_bytes w)
  nothing-count f h q = rw (form-bytes (Some Nothing) (h ∙ ap Some q))

  pub ill-count : r ≡ None → 0 ≡ length (block_bytes w)
  ill-count h = rw (form-bytes None h)

  pub typed-count : (f : Form) → r ≡ Some f → f ≡ Typed → length w - 1 ≡ length (block_bytes w)
  typed-count f h q = rw (form-bytes (Some Typed) (h ∙ ap Some q), length-map, length-drop)

  -- what is put of each form
  module _ (l : List ℕ) (at : ℕ) where
    pub digits-fit : (f : Form) → r ≡ Some f → f ≡ Digits → at + length (block_bytes w) ≤ length l → at + length (digits_bytes w) ≤ length l
    digits-fit f h q o = rw (form-bytes (Some Digits) (h ∙ ap Some q)) at o

    pub typed-fit : (f : Form) → r ≡ Some f → f ≡ Typed → at + length (block_bytes w) ≤ length l → at + length (map typed_byte (take (length w - 1) (drop 1 w))) ≤ length l
    typed-fit f h q o = rw (behind-first w) (rw (form-bytes (Some Typed) (h ∙ ap Some q)) at o)

    pub digits-block : (next : ℕ) (m : List ℕ) (f : Form) → r ≡ Some f → f ≡ Digits → Put l at (digits_bytes w) next m → Put l at (block_bytes w) next m
    digits-block next m f h q p = rw (form-bytes (Some Digits) (h ∙ ap Some q)) p

    pub typed-block : (next : ℕ) (m : List ℕ) (f : Form) → r ≡ Some f → f ≡ Typed → Put l at (map typed_byte (take (length w - 1) (drop 1 w))) next m → Put l at (block_bytes w) next m
    typed-block next m f h q p = rw (form-bytes (Some Typed) (h ∙ ap Some q)) (rw (behind-first w) at p)

    pub nothing-block : (f : Form) → r ≡ Some f → f ≡ Nothing → Put l at (block_bytes w) at l
    nothing-block f h q = rw (form-bytes (Some Nothing) (h ∙ ap Some q)) (put-nothing l at)

    pub ill-block : r ≡ None → Put l at (block_bytes w) at l
    ill-block h = rw (form-bytes None h) (put-nothing l at)

pub ruleset counts = (digits-count, nothing-count, typed-count, ill-count)

pub ruleset blocks = (digits-block, nothing-block, typed-block, ill-block)

-- ---- what the code puts

-- the room for one byte more of typed text, the byte put, and all bytes put
pub typed-room : (old : List ℕ) (from : ℕ) (text new : List ℕ) (i : ℕ) → i < length text → from + length (map typed_byte text) ≤ length old
    → Putting old from (map typed_byte text) new (from + i) (drop i (map typed_byte text)) → from + i < length new
typed-room old from text new i h o p = omega (arith, length-map text typed_byte, p.long)

pub typed-done : (old : List ℕ) (from : ℕ) (text new : List ℕ) (i : ℕ) → length text ≤ i → i ≤ length text
    → Putting old from (map typed_byte text) new (from + i) (drop i (map typed_byte text)) → Put old from (map typed_byte text) (from + length text) new
typed-done old from text new i h o p =
    let e : i ≡ length text = omega arith in
    rw e at (bytes-done old from (map typed_byte text) new i (omega (arith, length-map text typed_byte)) p)

pub typed-put : (old : List ℕ) (from : ℕ) (text new : List ℕ) (i b : ℕ) → i < length text → b ≡ typed_byte (get_or text i 0)
    → Putting old from (map typed_byte text) new (from + i) (drop i (map typed_byte text))
    → Putting old from (map typed_byte text) (set new (from + i) b) (from + (i + 1)) (drop (i + 1) (map typed_byte text))
unfolding typed_byte
typed-put old from text new i b h e p =
    let g : get_or (map typed_byte text) i 0 ≡ b = get_or-map typed_byte text i 0 ∙ sym e in
    rw g at (bytes_on old from (map typed_byte text) new i (omega (arith, length-map text typed_byte)) p)

-- a word stands for at most as many bytes as it has
form-most : (form : Option Form) (w : List ℕ) → length (form_bytes form w) ≤ length w
form-most (Some Digits) w = omega (arith, length-digits-bytes w)
form-most (Some Nothing) w = omega arith
form-most (Some Typed) w = omega (arith, length-map (drop 1 w) typed_byte, length-drop 1 w)
form-most None w = omega arith

pub block-most : (w : List ℕ) → length (block_bytes w) ≤ length w
unfolding block_bytes
block-most w = form-most (form_of w) w
