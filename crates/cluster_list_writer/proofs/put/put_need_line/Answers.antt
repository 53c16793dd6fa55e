-- `cluster_list_writer::put::put_need_line` meets its contract: three texts put one behind the other, each with its room. Assumes nothing.
use native.Mathlib.Omega.{arith}
use Rattle.text.proofs.PutLaws.{put_byte}
use Rattle.cluster_list_writer.proofs.PutParts.{need-line, room-one, room-two, room-byte, three-put}
use borrow.Author.Rules.{rules}
use Rattle.cluster_list_writer.proofs.put.put_need_line.Goals as goal

pub put_two-behind_empty-requires : goal.put_two-behind_empty-requires
put_two-behind_empty-requires c = search (room-one (need-line c.args.n))

pub put_pair-behind_need-requires : goal.put_pair-behind_need-requires
put_pair-behind_need-requires c = search (room-two (need-line c.args.n))

pub bounds-buf-behind_need : goal.bounds-buf-behind_need
bounds-buf-behind_need c = search (rules, room-byte (need-line c.args.n))

pub returns : goal.returns
returns c = search (three-put (need-line c.args.n), put_byte)

pub overflow_add-result : goal.overflow_add-result
overflow_add-result c =
    let line = need-line c.args.n in
    let put = three-put line _ _ c.requires _ _ c.put_two-behind_empty.ensures _ _ c.put_pair-behind_need.ensures _ _ (put_byte _ _ _) in
    omega (arith, put.behind)
