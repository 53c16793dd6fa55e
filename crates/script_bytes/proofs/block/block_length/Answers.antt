-- `script_bytes::block::block_length` meets its contract: a law for each form. Assumes nothing.
use borrow.Author.Rules.{rules}
use Rattle.script_bytes.proofs.BlockLaws.{form-typed, counts}
use Rattle.script_bytes.proofs.block.block_length.Goals as goal

pub overflow_sub-result : goal.overflow_sub-result
overflow_sub-result c = search (form-typed, rules)

pub returns-in-Some-Digits : goal.returns-in-Some-Digits
returns-in-Some-Digits c = search counts

pub returns-in-Some-Typed : goal.returns-in-Some-Typed
returns-in-Some-Typed c = search counts

pub returns-in-Some-Nothing : goal.returns-in-Some-Nothing
returns-in-Some-Nothing c = search counts

pub returns-in-None : goal.returns-in-None
returns-in-None c = search counts
