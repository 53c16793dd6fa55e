-- "Program `clist` loads a list from standard input with id 1 and prints ClusterInfo, or `refused 20` and LF."
use Rattle.std.specs.Prelude.{ℕ, ◌≡◌, List, [], ◌∷◌, ◌++◌, length, take}
use Rattle.base.specs.Quoted.{bytes, LF}
use Rattle.text.specs.Digits.{digits}
use Rattle.text.specs.Put.{Put}
use Rattle.model.specs.State.{State}
use Rattle.model.specs.Calls.{Reply, refused, accepted}
use Rattle.model.specs.Load.{load}
use Rattle.model.specs.Reading.{cluster_info}

-- "prints ClusterInfo, or `refused 20` and LF": by Load's reply and the state that it gives. Load's only refusal is 20
abbrev pub printed : Reply → State → List ℕ
printed (refused number) s = bytes "refused " ++ (digits number ++ LF ∷ [])
printed (accepted answer) s = cluster_info s

-- "with id 1": the first transfer id
abbrev pub first_id : ℕ
first_id = 1

-- "loads a list from standard input": Load of the whole input, with a store of no bytes and whatever state is given
unfoldable pub answer_to : State → List ℕ → List ℕ
answer_to given input = printed (load given input first_id []).reply (load given input first_id []).state

-- what was read of an input into a buffer of that many bytes: reading stops where the input ends or the buffer is full
abbrev pub ReadInto : ℕ → List ℕ → List ℕ → Type 0
ReadInto room input read = read ≡ take room input

-- what is put at the start of a buffer is printed of every input of which so many bytes were read
abbrev pub AnswersAll : List ℕ → ℕ → List ℕ → ℕ → List ℕ → Type 0
AnswersAll read count old end new =
    (given : State) (input : List ℕ) → ReadInto (length read) input (take count read) → Put old 0 (answer_to given input) end new
