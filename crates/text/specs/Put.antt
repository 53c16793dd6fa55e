-- What a writer leaves in a lent buffer.
use Rattle.std.specs.Prelude.{ℕ, ◌+◌, List, ◌≡◌, length}
use Rattle.std.proofs.lemmas.List.Edits.{sets}

-- the text stands in the buffer from `at` on and every other byte has its old value; `next` is the place behind the text
pub record Put (old : List ℕ) (at : ℕ) (text : List ℕ) (next : ℕ) (new : List ℕ) : Type 0 where
  pub behind : next ≡ at + length text
  pub bytes : new ≡ sets old at text
