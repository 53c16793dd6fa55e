-- `examples::lists::list` is safe: a table that was read is within its limits, and its list fits the buffer. Assumes nothing.
use mathlib.Core.Path.{sym}
use lib.Seq.{length-take-le}
use Rattle.cluster_list.proofs.Within.{list-read-within}
use Rattle.examples.proofs.Laws.{list-fits, list_inside}
use borrow.Author.Rules.{rules}
use Rattle.examples.proofs.lists.list.Goals as goal

pub list_length-requires : goal.list_length-requires
list_length-requires c = search list-read-within

pub write_list-end-requires : goal.write_list-end-requires
write_list-end-requires c = (search list-read-within, search (list-fits, rules))

pub slice_bounds-buffer-end : goal.slice_bounds-buffer-end
slice_bounds-buffer-end c = search (list_inside, rules)

pub slice_bounds-bytes-end : goal.slice_bounds-bytes-end
slice_bounds-bytes-end c = sym (length-take-le _ _ (search (list_inside, rules)))
