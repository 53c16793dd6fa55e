-- What was read of standard input into a buffer.
use Rattle.std.specs.Prelude.{List, ℕ, min, Ok, Err, Result, IfOk}
use Rattle.io.specs.Counts.{IsPrefixLen}
use Rattle.std.specs.declared.io.Error.{Error}

-- what a read gave by what it answered: an error stays, and a count is of bytes of the buffer. 0 is the end of the input
abbrev pub part_read : Result ℕ Error → ℕ → Result ℕ Error
part_read (Err e) room = Err e
part_read (Ok k) room = Ok (min k room)

-- so many bytes stand at the start of the buffer; where a read failed nothing is said
abbrev pub CountsRead : Result ℕ Error → List ℕ → Type 0
CountsRead r buf = IfOk r (λ count. IsPrefixLen count buf)
