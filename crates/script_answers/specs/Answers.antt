-- The lines of answers of the program `replay`, by its table "what happened | line".
use Rattle.std.specs.Prelude.{ℕ, List, [], ◌∷◌, ◌++◌}
use Rattle.base.specs.Quoted.{bytes, LF, comma}
use Rattle.text.specs.Digits.{digits}
use Rattle.state.specs.declared.answer.Answer.{Answer}
use Rattle.state.specs.declared.answer.Answer.TheVariants.{Id, Done, Working, Processed, Cancelled, Inconsistent, PreActivationFailed, MissingDependencies, VerificationFailed, NotAbleToRollback, NotAbleToRevert, CleaningFailed, Refused}

-- the digits of a number and the byte that ends it
abbrev pub ended_number : ℕ → ℕ → List ℕ
ended_number n end = digits n ++ end ∷ []

-- a name, a number and LF, as in "`id ID`", "`check R`", "`progress P`", "`packages N`", "`bytes N`", "`waves N`"
abbrev pub named_line : List ℕ → ℕ → List ℕ
named_line name n = name ++ ended_number n LF

-- a name and LF
abbrev pub name_line : List ℕ → List ℕ
name_line name = name ++ LF ∷ []

-- the digits of a number of 32 bits
abbrev pub number_digits_most : ℕ
number_digits_most = 10

-- "then N lines `id,size,received,state` in numbers"
abbrev pub record_line : ℕ → ℕ → ℕ → ℕ → List ℕ
record_line id size received state =
    ended_number id comma ++ (ended_number size comma ++ (ended_number received comma ++ ended_number state LF))

-- the longest line of a record
abbrev pub record_most : ℕ
record_most = 44

-- "then N lines `part,wave`"
abbrev pub wave_line : ℕ → ℕ → List ℕ
wave_line part wave = ended_number part comma ++ ended_number wave LF

-- the longest line of an entry
abbrev pub wave_most : ℕ
wave_most = 22

-- the longest line of a call's answer
abbrev pub answer_most : ℕ
answer_most = 20

-- "refused .. `refused R`", "TransferStart gave an id": "`id ID`", "any other of the twelve, and Load": "document 01's name"
abbrev pub answer_text : Answer → List ℕ
answer_text (Id id) = named_line (bytes "id ") id
answer_text Done = name_line (bytes "Done")
answer_text Working = name_line (bytes "Working")
answer_text Processed = name_line (bytes "Processed")
answer_text Cancelled = name_line (bytes "Cancelled")
answer_text Inconsistent = name_line (bytes "Inconsistent")
answer_text PreActivationFailed = name_line (bytes "PreActivationFailed")
answer_text MissingDependencies = name_line (bytes "MissingDependencies")
answer_text VerificationFailed = name_line (bytes "VerificationFailed")
answer_text NotAbleToRollback = name_line (bytes "NotAbleToRollback")
answer_text NotAbleToRevert = name_line (bytes "NotAbleToRevert")
answer_text CleaningFailed = name_line (bytes "CleaningFailed")
answer_text (Refused number) = named_line (bytes "refused ") number
