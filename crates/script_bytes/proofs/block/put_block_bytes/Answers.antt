-- `script_bytes::block::put_block_bytes` meets its contract: a law for each form. Assumes nothing.
use borrow.Author.Rules.{rules}
use Rattle.script_bytes.proofs.BlockLaws.{form-digits, form-typed, digits-fit, typed-fit, blocks}
use Rattle.script_bytes.proofs.block.put_block_bytes.Goals as goal

pub put_digits_bytes-requires : goal.put_digits_bytes-requires
put_digits_bytes-requires c = search (form-digits, digits-fit)

pub slice_bounds-put_typed-count : goal.slice_bounds-put_typed-count
slice_bounds-put_typed-count c = search (form-typed, rules)

pub slice_bounds-put_typed-start : goal.slice_bounds-put_typed-start
slice_bounds-put_typed-start c = search (form-typed, rules)

pub put_typed-requires : goal.put_typed-requires
put_typed-requires c = search typed-fit

pub returns-in-Some-Digits : goal.returns-in-Some-Digits
returns-in-Some-Digits c = search blocks

pub returns-in-Some-Nothing : goal.returns-in-Some-Nothing
returns-in-Some-Nothing c = search blocks

pub returns-in-Some-Typed : goal.returns-in-Some-Typed
returns-in-Some-Typed c = search blocks

pub returns-in-None : goal.returns-in-None
returns-in-None c = search blocks
