-- "A refused Load leaves the state and the store that were there before it." Assumes nothing.
use Prim.Native.Nat.{ℕ, ◌≤◌}
use mathlib.Core.Path.{◌≡◌}
use mathlib.Core.Bool.{true}
use mathlib.Core.List.{List}
use lib.ListN.{length, take, take-append-drop}
use borrow.Author.Tests.{le-ltb}
use Rattle.base.specs.Refusals.{first_refusal}
use Rattle.model.specs.State.{Store}
use Rattle.model.specs.Load.{is_bad_load}
use Rattle.state.specs.declared.answer.Answer.TheVariants.{Refused}
use Rattle.state.specs.Outcome.{settled}
use Rattle.load.specs.Exact.{load}
use Rattle.script_calls.specs.declared.kept.Kept.{Kept}
use Rattle.script_calls.specs.declared.kept.LineAnswer.TheVariants as line-answer
use Rattle.script_calls.specs.Kept.{nothing_changed, line_outcome}
use Rattle.script_calls.specs.Line.{loading}

pub refused-load : (first size : ℕ) (list : List ℕ) (k : Kept) (bytes : Store) → size ≤ length bytes
    → is_bad_load list first (take size bytes) ≡ true
    → loading first size list k bytes ≡ line_outcome (nothing_changed (line-answer.Answer (Refused 20)) k) bytes
unfolding loading load settled first_refusal
refused-load first size list k bytes h bad = rw (le-ltb (length bytes) size h, bad, take-append-drop size bytes)
