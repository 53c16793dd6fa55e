-- `change_info::write::put_change` meets its contract: each part put behind the one before, with its room. Assumes nothing.
use native.Mathlib.Omega.{arith}
use Rattle.text.proofs.PutPair.{room-first-part, room-between, room-second-part, room-behind, pair_put}
use Rattle.change_info.proofs.LineParts.{line-pair}
use Rattle.change_info.proofs.write.put_change.Goals as goal

pub put_number-behind_part-requires : goal.put_number-behind_part-requires
put_number-behind_part-requires c = search (room-first-part (line-pair c.args.a))

pub bounds-buffer-behind_part : goal.bounds-buffer-behind_part
bounds-buffer-behind_part c = search (room-between (line-pair c.args.a))

pub overflow_add-behind_part : goal.overflow_add-behind_part
overflow_add-behind_part c = omega (arith, room-between (line-pair c.args.a) _ _ c.requires _ _ c.put_number-behind_part.ensures)

pub put_bytes-behind_word-requires : goal.put_bytes-behind_word-requires
put_bytes-behind_word-requires c = rw c.word.ensures.meaning (search (room-second-part (line-pair c.args.a)))

pub bounds-buffer-behind_word : goal.bounds-buffer-behind_word
bounds-buffer-behind_word c =
    let put = rw c.word.ensures.meaning at c.put_bytes-behind_word.ensures in
    search (room-behind (line-pair c.args.a))

pub returns : goal.returns
returns c =
    let put = rw c.word.ensures.meaning at c.put_bytes-behind_word.ensures in
    search (pair_put (line-pair c.args.a))

pub overflow_add-result : goal.overflow_add-result
overflow_add-result c =
    let put = pair_put (line-pair c.args.a) _ _ c.requires _ _ c.put_number-behind_part.ensures _ _ (rw c.word.ensures.meaning at c.put_bytes-behind_word.ensures) in
    omega (arith, put.behind)
