-- The bytes of the input, taken line by line and one by one. Assumes nothing.
use Prim.Native.Nat.{ℕ, suc, ◌+◌, ◌-◌, ◌≤◌, ◌<◌}
use mathlib.Core.Path.{◌≡◌, refl, sym, ap, ◌∙◌}
use mathlib.Core.Bool.{Bool, true, false, not}
use mathlib.Core.List.{List, [], ◌∷◌, ◌++◌, append_assoc}
use mathlib.Core.Option.{Option, none, some}
use native.Mathlib.Omega.{arith}
use lib.Dec.{eqb, ltb}
use lib.ListN.{length, take, drop, length-append, length-drop, drop_of_length-le}
use lib.Seq.{take_all, drop-drop, drop-length}
use borrow.Author.Tests.{not-true, not-false, lt-ltb, le-ltb, ltb-true}
use Rattle.base.specs.Quoted.{LF}
use Rattle.base.proofs.Tests.{bool_cases, clash}
use Rattle.byte_search.specs.Bytes.{index_of, slice}
use Rattle.model.specs.State.{Store}
use Rattle.script.specs.declared.gathered.Gathered.{Gathered}
use Rattle.script.specs.Gathered.{line_so_far, with_part, gathered_with}
use Rattle.script.proofs.GatheredLaws.{nothing-so-far}
use Rattle.script_calls.specs.declared.kept.Kept.{Kept}
use Rattle.script_calls.specs.declared.kept.Played.{Played}
use Rattle.script_calls.specs.Kept.{line_outcome}
use Rattle.script_calls.specs.Line.{line_gives}
use Rattle.replay_bench.specs.declared.bench.Bench.{Bench}
use Rattle.replay_bench.specs.declared.bench.Gathering.{Gathering}
use Rattle.replay_bench.specs.declared.gather.EndedLine.{EndedLine}
use Rattle.replay_bench.specs.declared.gather.Part.{Part}
use Rattle.replay_bench.specs.Bench.{gathering_of, new_line, bench_with, Held, held, after_line, after_gathered, EndsAs, Reading, between, reading, ends_line, after_line_part}
use Rattle.replay_bench.specs.Input.{after_byte, after_bytes, up_to_line_end, GathersPart, IfGoesOn}
use Rattle.replay_bench.proofs.BenchLaws.{ended-played}

-- after a part of the input that has no LF but its last byte, with so much room for a line
unfoldable pub after_part : ℕ → List ℕ → Reading → Reading
after_part room part r = after_line_part (ends_line part) (with_part room r.line part) r.holds

-- ---- the first line of a text

first-take : (l : List ℕ) → up_to_line_end l ≡ take (length (up_to_line_end l)) l
unfolding up_to_line_end
first-take [] = refl
first-take (b ∷ l) = bool_cases (eqb b LF) (λ t. rw t) (λ f. rw f (ap (λ w. b ∷ w) (first-take l)))

first_byte : (b : ℕ) (l : List ℕ) → 1 ≤ length (up_to_line_end (b ∷ l))
unfolding up_to_line_end
first_byte b l = bool_cases (eqb b LF) (λ t. rw t (omega arith)) (λ f. rw f (omega arith))

-- it ends behind the first LF, or where the text ends
first_some : (l : List ℕ) → index_of LF l < length l → length (up_to_line_end l) ≡ index_of LF l + 1
unfolding up_to_line_end
first_some [] h = omega arith
first_some (b ∷ l) h = bool_cases (eqb b LF) (λ t. rw t) (λ f. rw f (omega (arith, first_some l (omega (arith, rw f at h)))))

first-all : (l : List ℕ) → length l ≤ index_of LF l → length (up_to_line_end l) ≡ length l
unfolding up_to_line_end
first-all [] h = refl
first-all (b ∷ l) h = bool_cases (eqb b LF) (λ t. omega (arith, rw t at h)) (λ f. rw f (omega (arith, first-all l (omega (arith, rw f at h)))))

-- the end that `behind_line` finds
module _ (input : List ℕ) (at end : ℕ) (within : at < length input) (e : end ≡ at + index_of LF (slice at (length input) input)) where
  found : end ≡ at + index_of LF (drop at input)
  unfolding slice
  found = e ∙ rw (take_all (length input) input (omega arith))

  pub behind-some : end < length input → end + 1 ≡ at + length (up_to_line_end (drop at input))
  behind-some h = omega (arith, found, first_some (drop at input) (omega (arith, found, length-drop at input)))

  pub behind-all : length input ≤ end → end ≤ length input → end ≡ at + length (up_to_line_end (drop at input))
  behind-all h o = omega (arith, found, length-drop at input, first-all (drop at input) (omega (arith, found, length-drop at input)))

-- ---- a part of a line is its bytes, one after the other

ends-cons : (b : ℕ) (p : List ℕ) → 1 ≤ length p → ends_line (b ∷ p) ≡ ends_line p
ends-cons b p h = let n : length (b ∷ p) - 1 ≡ suc (length p - 1) = omega arith in rw n

module _ (room : ℕ) where
  with-cons : (x : Option (List ℕ)) (b : ℕ) (p : List ℕ) → with_part room x (b ∷ p) ≡ with_part room (with_part room x (b ∷ [])) p
  unfolding with_part
  with-cons none b p = refl
  with-cons (some l) b p =
      let n : length (l ++ (b ∷ [])) + length p ≡ length l + length (b ∷ p) = omega (arith, length-append l (b ∷ [])) in
      bool_cases (ltb room (length l + length (b ∷ [])))
      (λ t. rw (t, lt-ltb room (length l + length (b ∷ p)) (omega (arith, ltb-true room (length l + length (b ∷ [])) t))))
      (λ f. rw (f, n, append_assoc))

  part-byte : (b : ℕ) (r : Reading) → after_part room (b ∷ []) r ≡ after_byte room b r
  unfolding after_part after_byte
  part-byte b r = refl

  part-cons : (b : ℕ) (p : List ℕ) (r : Reading) → 1 ≤ length p → eqb b LF ≡ false → after_part room p (after_byte room b r) ≡ after_part room (b ∷ p) r
  unfolding after_part after_byte
  part-cons b p r h f = rw (f, ends-cons b p h, with-cons r.line b p)

  pub first-bytes : (b : ℕ) (l : List ℕ) (r : Reading)
      → after_bytes room (b ∷ l) r ≡ after_bytes room (drop (length (up_to_line_end (b ∷ l))) (b ∷ l)) (after_part room (up_to_line_end (b ∷ l)) r)
  unfolding after_bytes up_to_line_end
  first-bytes b [] r = bool_cases (eqb b LF) (λ t. rw t (sym (part-byte b r))) (λ f. rw f (sym (part-byte b r)))
  first-bytes b (c ∷ l) r =
      bool_cases (eqb b LF)
      (λ t. rw t (ap (after_bytes room (c ∷ l)) (sym (part-byte b r))))
      (λ f. rw f (first-bytes c l (after_byte room b r) ∙ ap (after_bytes room (drop (length (up_to_line_end (c ∷ l))) (c ∷ l))) (part-cons b (up_to_line_end (c ∷ l)) r (first_byte c l) f)))

  -- how the input is cut plays no part
  pub bytes-append : (p q : List ℕ) (r : Reading) → after_bytes room (p ++ q) r ≡ after_bytes room q (after_bytes room p r)
  unfolding after_bytes
  bytes-append [] q r = refl
  bytes-append (b ∷ p) q r = bytes-append p q (after_byte room b r)

  text-bytes : (l : List ℕ) (r : Reading) → 1 ≤ length l
      → after_bytes room l r ≡ after_bytes room (drop (length (up_to_line_end l)) l) (after_part room (up_to_line_end l) r)
  text-bytes [] r h = absurd (omega arith)
  text-bytes (b ∷ l) r h = first-bytes b l r

  -- ---- a line that comes whole

  module _ (l : List ℕ) (h : Held) (some_byte : 1 ≤ length l) (one : up_to_line_end l ≡ l) (ends : ends_line l ≡ true) where
    whole : after_bytes room l (between h (some [])) ≡ between (after_gathered (with_part room (some []) l) h) (some [])
    unfolding after_bytes after_part
    whole =
        text-bytes l (between h (some [])) some_byte
        ∙ ap (λ (p : List ℕ). after_bytes room (drop (length p) l) (after_part room p (between h (some [])))) one
        ∙ rw (drop-length l, ends)

    -- a line that fills the room is played
    pub line-plays : length l ≤ room → after_bytes room l (between h (some [])) ≡ between (after_line l h) (some [])
    unfolding with_part after_gathered
    line-plays o = whole ∙ rw (le-ltb room (0 + length l) (omega arith))

    -- "a line that is too long gives one `unknown`", and nothing changes
    pub longer-changes-nothing : room < length l → after_bytes room l (between h (some [])) ≡ between h (some [])
    unfolding with_part after_gathered
    longer-changes-nothing o = whole ∙ rw (lt-ltb room (0 + length l) (omega arith))

-- ---- what `gather_part` gathers

-- a part that does not end a line is all that is left
all_left : (l : List ℕ) → 1 ≤ length l → ends_line (up_to_line_end l) ≡ false → up_to_line_end l ≡ l
unfolding up_to_line_end
all_left [] h f = refl
all_left (b ∷ []) h f = bool_cases (eqb b LF) (λ t. rw t) (λ n. rw n)
all_left (b ∷ c ∷ l) h f =
    bool_cases (eqb b LF)
    (λ t. clash t (rw t at f))
    (λ n. rw n (ap (λ (k : List ℕ). b ∷ k) (all_left (c ∷ l) (omega arith) (sym (ends-cons b (up_to_line_end (c ∷ l)) (first_byte c l)) ∙ rw n at f))))

module _ (before : Gathering) (line input : List ℕ) (at end : ℕ) (e : end ≡ at + length (up_to_line_end (drop at input))) where
  part-is : take (end - at) (drop at input) ≡ up_to_line_end (drop at input)
  part-is =
      let count : length (up_to_line_end (drop at input)) ≡ end - at = omega arith in
      sym (first-take (drop at input) ∙ ap (λ (n : ℕ). take n (drop at input)) count)

  pub gathers-part : (gathered : Gathered) (ends : Bool) (line' : List ℕ)
      → line_so_far gathered line' ≡ gathered_with before.gathered line (take (end - at) (drop at input))
      → ends ≡ ends_line (take (end - at) (drop at input))
      → GathersPart before line (drop at input) at (record { gathering = gathering_of gathered true; end = end; ends_line = ends }) line'
  gathers-part gathered ends line' so_far f =
      record {
        end = e;
        so_far = so_far ∙ ap (gathered_with before.gathered line) part-is;
        goes = refl;
        ends = f ∙ ap (λ (p : List ℕ). ends_line p) part-is;
      }

-- ---- what `take_lines` has taken of the input

module _ (room : ℕ) (input : List ℕ) where
  turn : (before after : Reading) (at end : ℕ) → at < length input → end ≡ at + length (up_to_line_end (drop at input))
      → after ≡ after_part room (up_to_line_end (drop at input)) before
      → after_bytes room (drop at input) before ≡ after_bytes room (drop end input) after
  turn before after at end within e next =
      let l = drop at input in
      text-bytes room l before (omega (arith, length-drop at input))
      ∙ ap (λ (k : List ℕ). after_bytes room k (after_part room (up_to_line_end l) before)) (drop-drop (length (up_to_line_end l)) at input ∙ ap (λ (m : ℕ). drop m input) (sym e))
      ∙ ap (after_bytes room (drop end input)) (sym next)

  pub none-taken : (r : Reading) → after_bytes room input r ≡ after_bytes room (drop 0 input) r
  none-taken r = refl

module _ (all : Reading) (k : Kept) (g : Gathering) (b : Bench) (e : b ≡ bench_with k g) where
  -- a write has failed
  pub stopped-before : (line : List ℕ) (bytes : Store) → not g.goes_on ≡ true → IfGoesOn b.gathering.goes_on all (reading b line bytes)
  stopped-before line bytes h =
      record { same = λ on. clash on (ap (λ (x : Bench). x.gathering.goes_on) e ∙ not-true g.goes_on h) }

  given_back : (line : List ℕ) (bytes : Store) → all ≡ between (held k bytes) (line_so_far g.gathered line)
      → IfGoesOn b.gathering.goes_on all (reading b line bytes)
  given_back line bytes same = record { same = λ on. same ∙ ap (λ (x : Bench). reading x line bytes) (sym e) }

  -- nothing is left
  pub all-taken : (room : ℕ) (input line : List ℕ) (bytes : Store) (at : ℕ) → length input ≤ at
      → all ≡ after_bytes room (drop at input) (between (held k bytes) (line_so_far g.gathered line))
      → IfGoesOn b.gathering.goes_on all (reading b line bytes)
  unfolding after_bytes
  all-taken room input line bytes at h i =
      given_back line bytes
      (i ∙ ap (λ (l : List ℕ). after_bytes room l (between (held k bytes) (line_so_far g.gathered line))) (drop_of_length-le input {i = at} h))

module _ (all : Reading) (room : ℕ) (input : List ℕ) (k : Kept) (bytes : Store) (g : Gathering) (line : List ℕ) (at : ℕ)
    (p : Part) (line' : List ℕ) (same : length line ≡ room) (within : at < length input)
    (so_far : all ≡ after_bytes room (drop at input) (between (held k bytes) (line_so_far g.gathered line)))
    (gathers : GathersPart g line (drop at input) at p line') where
  abbrev part : List ℕ
  part = up_to_line_end (drop at input)

  gathered : with_part room (line_so_far g.gathered line) part ≡ line_so_far p.gathering.gathered line'
  gathered = ap (λ (n : ℕ). with_part n (line_so_far g.gathered line) part) (sym same) ∙ sym gathers.so_far

  after : (ended : Bool) → p.ends_line ≡ ended
      → after_line_part ended (line_so_far p.gathering.gathered line') (held k bytes) ≡ after_part room part (between (held k bytes) (line_so_far g.gathered line))
  unfolding after_part
  after ended e =
      ap (λ (l : Option (List ℕ)). after_line_part ended l (held k bytes)) (sym gathered)
      ∙ ap (λ (b : Bool). after_line_part b (with_part room (line_so_far g.gathered line) part) (held k bytes)) (sym e ∙ gathers.ends)

  -- what is behind the last LF is gathered
  pub rest-taken : (b : Bench) → b ≡ bench_with k p.gathering → not p.ends_line ≡ true
      → IfGoesOn b.gathering.goes_on all (reading b line' bytes)
  rest-taken b e h =
      let none-ended : p.ends_line ≡ false = not-true p.ends_line h in
      let whole : part ≡ drop at input = all_left (drop at input) (omega (arith, length-drop at input)) (sym gathers.ends ∙ none-ended) in
      let over : length input ≤ p.end = omega (arith, gathers.end, ap length whole, length-drop at input) in
      all-taken all k p.gathering b e room input line' bytes p.end over
      (so_far ∙ turn room input _ _ at p.end within gathers.end (after false none-ended))

  -- a line that has ended is played, and another begins
  pub line_taken : (x : EndedLine) (q : Played) (bytes' : Store) (written : Bool) (next : Gathering)
      → not p.ends_line ≡ false → EndsAs (line_so_far p.gathering.gathered line') line' x
      → line_outcome q bytes' ≡ line_gives (take x.text line') x.read k bytes → next ≡ new_line written
      → all ≡ after_bytes room (drop p.end input) (between (held q.kept bytes') (line_so_far next.gathered line'))
  line_taken x q bytes' written next h ends plays begins =
      let now-ended : p.ends_line ≡ true = not-false p.ends_line h in
      let empty : line_so_far next.gathered line' ≡ some [] = ap (λ (y : Gathering). line_so_far y.gathered line') begins ∙ nothing-so-far line' in
      let holds : held q.kept bytes' ≡ after_gathered (line_so_far p.gathering.gathered line') (held k bytes) = ended-played _ line' x ends k bytes bytes' q plays in
      so_far
      ∙ turn room input _ (between (held q.kept bytes') (line_so_far next.gathered line')) at p.end within gathers.end
      (ap (λ (l : Option (List ℕ)). between (held q.kept bytes') l) empty ∙ ap (λ (y : Held). between y (some [])) holds ∙ after true now-ended)
