-- A line by what it reads as: x is the line, w the word of its bytes. Assumes nothing.
use Prim.Native.Nat.{ℕ, ◌≤◌}
use mathlib.Core.Path.{◌≡◌, ◌∙◌}
use mathlib.Core.List.{List, []}
use mathlib.Core.Logic.{◌⊎◌, inl, inr}
use native.Mathlib.Omega.{arith}
use lib.ListN.{length}
use Rattle.model.specs.State.{Store}
use Rattle.model.specs.Calls.{transfer_data}
use Rattle.request.specs.declared.Request.{Request}
use Rattle.request.specs.Call.{call_of}
use Rattle.four_state.specs.declared.call.OldCall.{OldCall}
use Rattle.script_bytes.specs.Block.{block_bytes}
use Rattle.script.specs.declared.line.ScriptLine.{ScriptLine}
use Rattle.script.specs.declared.line.ScriptLine.TheVariants as line
use Rattle.script.specs.declared.place.Place.{Place}
use Rattle.script.specs.Place.{part_at}
use Rattle.script.proofs.PlaceLaws.{part-most}
use Rattle.script_calls.specs.declared.kept.Kept.{Kept}
use Rattle.script_calls.specs.declared.kept.LineAnswer.TheVariants as line-answer
use Rattle.script_calls.specs.Kept.{nothing_changed, LineOutcome, line_outcome}
use Rattle.script_calls.specs.Line.{calling, calling_old, loading, poking, line_gives}

-- a buffer that is as long as a line has room for each of its words
pub word_room : (text : List ℕ) (p : Place) (w : List ℕ) (n : ℕ) → w ≡ part_at text p → length text ≤ n → length w ≤ n
word_room text p w n e h = rw e (omega (arith, part-most text p))

module _ (text : List ℕ) (k : Kept) (l : Store) (x : ScriptLine) (o : LineOutcome) where
  pub load_line : (first size : ℕ) (p : Place) (w : List ℕ) → x ≡ line.Load first size p → w ≡ part_at text p
      → o ≡ loading first size (block_bytes w) k l → o ≡ line_gives text x k l
  unfolding line_gives
  load_line first size p w is e same = same ∙ rw (e, is)

  pub data-line : (id counter : ℕ) (p : Place) (w : List ℕ) → x ≡ line.Data id counter p → w ≡ part_at text p
      → o ≡ calling (transfer_data id counter (block_bytes w)) k l → o ≡ line_gives text x k l
  unfolding line_gives
  data-line id counter p w is e same = same ∙ rw (e, is)

  pub call_line : (request : Request) → x ≡ line.Call request → o ≡ calling (call_of request []) k l → o ≡ line_gives text x k l
  unfolding line_gives
  call_line request is same = same ∙ rw is

  pub old-line : (call : OldCall) → x ≡ line.Old call → o ≡ calling_old call k l → o ≡ line_gives text x k l
  unfolding line_gives
  old-line call is same = same ∙ rw is

  pub poke-line : (at : ℕ) (p : Place) (w : List ℕ) → x ≡ line.Poke at p → w ≡ part_at text p → o ≡ poking at (block_bytes w) k l
      → o ≡ line_gives text x k l
  unfolding line_gives
  poke-line at p w is e same = same ∙ rw (e, is)

-- the lines that change nothing: x is one of them
module _ (text : List ℕ) (k : Kept) (l : Store) (x : ScriptLine) where
  pub shown-line : (x ≡ line.OldStatus)
      ⊎ (((n : ℕ) × (x ≡ line.Packages n))
      ⊎ (((n : ℕ) × (x ≡ line.Clusters n))
      ⊎ (((n : ℕ) × (x ≡ line.Changes n))
      ⊎ (((n : ℕ) × (x ≡ line.Waves n))
      ⊎ (((n : ℕ) × (x ≡ line.Payload n))
      ⊎ (((n : ℕ) × (x ≡ line.Check n))
      ⊎ ((x ≡ line.Progress)
      ⊎ ((x ≡ line.State)
      ⊎ ((x ≡ line.Store)
      ⊎ ((x ≡ line.Remark)))))))))))
      → line_outcome (nothing_changed line-answer.Shown k) l ≡ line_gives text x k l
  unfolding line_gives
  shown-line (inl e) = rw e
  shown-line (inr (inl (n, e))) = rw e
  shown-line (inr (inr (inl (n, e)))) = rw e
  shown-line (inr (inr (inr (inl (n, e))))) = rw e
  shown-line (inr (inr (inr (inr (inl (n, e)))))) = rw e
  shown-line (inr (inr (inr (inr (inr (inl (n, e))))))) = rw e
  shown-line (inr (inr (inr (inr (inr (inr (inl (n, e)))))))) = rw e
  shown-line (inr (inr (inr (inr (inr (inr (inr (inl e)))))))) = rw e
  shown-line (inr (inr (inr (inr (inr (inr (inr (inr (inl e))))))))) = rw e
  shown-line (inr (inr (inr (inr (inr (inr (inr (inr (inr (inl e)))))))))) = rw e
  shown-line (inr (inr (inr (inr (inr (inr (inr (inr (inr (inr e)))))))))) = rw e

-- a line that is not known
pub unknown-line : (text : List ℕ) (k : Kept) (l : Store) (x : ScriptLine) → x ≡ line.Unknown
    → line_outcome (nothing_changed line-answer.Unknown k) l ≡ line_gives text x k l
unfolding line_gives
unknown-line text k l x is = rw is
