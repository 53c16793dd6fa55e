-- What is printed of document 01's list, as document 01 prints it, and of two inputs that are no list, by computation. What is read of
-- an input that fits a buffer, and of one that does not; and what one read gave. Assumes nothing.
use Prim.Native.Nat.{ℕ, ◌≤◌}
use mathlib.Core.Path.{◌≡◌, refl, sym}
use Prim.Native.String.{String}
use mathlib.Core.List.{List, [], ◌∷◌, ◌++◌}
use lib.ListN.{length, take}
use lib.Seq.{take_all}
use Rattle.base.specs.Quoted.{bytes, LF}
use Rattle.model.specs.State.{State}
use Rattle.model.proofs.examples.Open.{computing}
use Rattle.std.specs.Prelude.{Ok, Err, Result}
use Rattle.std.specs.declared.io.Error.{Error}
use Rattle.base.proofs.Tables.{◌gives◌, AllHold}
use Rattle.clist.specs.Answer.{answer_to, ReadInto}
use Rattle.clist.specs.Input.{part_read}

abbrev line : String → List ℕ → List ℕ
line text rest = bytes text ++ (LF ∷ rest)

document-list : (given : State)
    → answer_to given (line "version,cluster,least,needs" (line "1.0.0.3,11,1.0.0.0,20" (line "1.0.4.0,20,," [])))
    ≡ line "cluster,version,needs,least,stays" (line "11,1.0.0.3,20,1.0.0.0,0" (line "20,1.0.4.0,,,0" []))
unfolding computing answer_to
document-list given = refl

no_text : (given : State) → answer_to given [] ≡ line "refused 20" []
unfolding computing answer_to
no_text given = refl

no-LF : (given : State) → answer_to given (bytes "cluster,version,needs,least") ≡ line "refused 20" []
unfolding computing answer_to
no-LF given = refl

module _ (room : ℕ) (input : List ℕ) where
  all-is-read : length input ≤ room → ReadInto room input input
  all-is-read h = sym (take_all room input h)

  the-first-are-read : ReadInto room input (take room input)
  the-first-are-read = refl

-- what a read into a buffer of 4 bytes answered: an error, the end, and counts at both ends and above
module _ (e : Error) where
  reads : AllHold (λ (got : Result ℕ Error). part_read got 4)
      (Err e gives Err e ∷ Ok 0 gives Ok 0 ∷ Ok 1 gives Ok 1 ∷ Ok 4 gives Ok 4 ∷ Ok 5 gives Ok 4 ∷ [])
  reads = refl
