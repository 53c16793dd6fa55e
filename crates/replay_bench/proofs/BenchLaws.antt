-- The bench before the first read, and what a line that has ended leaves, from what the functions that are called promise. Assumes nothing.
use Prim.Native.Nat.{ℕ, ◌-◌, ◌≤◌, ◌<◌}
use mathlib.Core.Path.{◌≡◌, refl, sym, ap, subst, ◌∙◌}
use mathlib.Core.Bool.{Bool, true, false}
use mathlib.Core.List.{List, []}
use mathlib.Core.Option.{Option, none, some}
use native.Mathlib.Omega.{arith}
use lib.ListN.{length, take}
use lib.Seq.{take-take}
use Rattle.model.specs.State.{Store}
use Rattle.model.specs.Calls.{Call}
use Rattle.state.specs.declared.answer.Answer.TheVariants.{Refused}
use Rattle.script.specs.declared.gathered.Gathered.{Gathered}
use Rattle.script.specs.declared.line.ScriptLine.{ScriptLine}
use Rattle.script.specs.Gathered.{nothing_gathered, line_so_far}
use Rattle.script.specs.Line.{script_line_at}
use Rattle.script.proofs.GatheredLaws.{so-far-too-long, so-far-past, so_far, nothing-so-far}
use Rattle.script.proofs.LineLaws.{line-none}
use Rattle.script_calls.specs.declared.kept.Kept.{Kept}
use Rattle.script_calls.specs.declared.kept.Played.{Played}
use Rattle.script_calls.specs.declared.kept.LineAnswer.TheVariants as line-answer
use Rattle.script_calls.specs.Kept.{NothingLoaded, nothing_changed, line_outcome}
use Rattle.script_calls.specs.Line.{calling, line_gives}
use Rattle.script_calls.proofs.NothingLoaded.{refused-before-load}
use Rattle.script_calls.proofs.LentLaws.{part-long}
use Rattle.replay_bench.specs.declared.bench.Bench.{Bench}
use Rattle.replay_bench.specs.declared.bench.Gathering.{Gathering}
use Rattle.replay_bench.specs.declared.gather.EndedLine.{EndedLine}
use Rattle.replay_bench.specs.Bench.{NothingRead, gathering_of, new_line, bench_with, Held, held, held_after, after_text, text_of, after_gathered, ended_line, EndsAs}

-- ---- before the first read

pub line-begins : (g : Gathered) (written : Bool) → g ≡ nothing_gathered → gathering_of g written ≡ new_line written
line-begins g written e = ap (λ (x : Gathered). gathering_of x written) e

pub nothing_read : (k : Kept) (g : Gathering) (b : Bench) → NothingLoaded k → g ≡ new_line true → b ≡ bench_with k g → NothingRead b
nothing_read k g b loaded begins e =
    let same : b ≡ bench_with k (new_line true) = e ∙ ap (bench_with k) begins in
    record {
      loaded = subst (λ (x : Bench). NothingLoaded x.kept) (sym same) loaded;
      gathered = ap (λ (x : Bench). x.gathering.gathered) same;
      goes = ap (λ (x : Bench). x.gathering.goes_on) same;
    }

module _ (b : Bench) (nothing : NothingRead b) where
  -- the program goes on
  pub first_goes : b.gathering.goes_on ≡ true
  first_goes = nothing.goes

  -- a line of no bytes is gathered
  pub first-line : (line : List ℕ) → line_so_far b.gathering.gathered line ≡ some []
  first-line line = ap (λ (g : Gathered). line_so_far g line) nothing.gathered ∙ nothing-so-far line

  -- each of the twelve calls is refused by 1
  pub first-refused : (bytes : Store) (call : Call)
      → calling call b.kept bytes ≡ line_outcome (nothing_changed (line-answer.Answer (Refused 1)) b.kept) bytes
  first-refused bytes call = refused-before-load b.kept bytes call nothing.loaded

-- ---- a line that has ended

pub part_room : (l : List ℕ) (n m : ℕ) → n ≤ length l → length l ≤ m → length (take n l) ≤ m
part_room l n m w h = omega (arith, part-long l n w)

module _ (g : Gathered) (line : List ℕ) where
  pub count-too-long : g.is_too_long ≡ true → take 0 line ≡ ended_line (line_so_far g line)
  unfolding ended_line
  count-too-long h = rw (so-far-too-long g line h)

  pub count_past : length line < g.count → take 0 line ≡ ended_line (line_so_far g line)
  unfolding ended_line
  count_past h = rw (so-far-past g line h)

  pub count-whole : g.is_too_long ≡ false → g.count ≤ length line → take g.count line ≡ ended_line (line_so_far g line)
  unfolding ended_line
  count-whole f h = rw (so_far g line f h)

-- its text is one byte shorter, where it has one
module _ (l : Option (List ℕ)) (buffer : List ℕ) (n t : ℕ) (inside : n ≤ length buffer) (same : take n buffer ≡ ended_line l) (e : t ≡ n - 1) where
  pub text-inside : t ≤ length buffer
  text-inside = omega arith

  text-bytes : take t buffer ≡ text_of (ended_line l)
  text-bytes =
      let m : t ≡ length (take n buffer) - 1 = omega (arith, part-long buffer n inside) in
      sym (take-take t n buffer (omega arith))
      ∙ ap (λ (k : ℕ). take k (take n buffer)) m
      ∙ ap text_of same

  pub ends_as : (x : ScriptLine) → x ≡ script_line_at (take t buffer) 0 → EndsAs l buffer (record { count = n; text = t; read = x })
  ends_as x f = record { whole = same; bytes = text-bytes; reads = f }

-- a line that is too long is played as one of no bytes: `unknown`, and nothing changes
text-ended : (l : Option (List ℕ)) (h : Held) → after_text (text_of (ended_line l)) h ≡ after_gathered l h
unfolding ended_line after_gathered after_text line_gives
text-ended none h = ap (λ (y : ScriptLine). held_after (line_gives [] y h.kept h.bytes)) (sym (line-none [] 0 (omega arith)))
text-ended (some line) h = refl

module _ (l : Option (List ℕ)) (buffer : List ℕ) (x : EndedLine) (ends : EndsAs l buffer x) where
  pub ended-played : (k : Kept) (bytes after : Store) (p : Played)
      → line_outcome p after ≡ line_gives (take x.text buffer) x.read k bytes
      → held p.kept after ≡ after_gathered l (held k bytes)
  unfolding after_text
  ended-played k bytes after p same =
      ap held_after (same ∙ ap (λ (y : ScriptLine). line_gives (take x.text buffer) y k bytes) ends.reads)
      ∙ ap (λ (t : List ℕ). after_text t (held k bytes)) ends.bytes
      ∙ text-ended l (held k bytes)
