-- `replay_bench::show::show_part` is safe: the digits are a part of the buffer. Assumes nothing.
use Rattle.replay_bench.proofs.Laws.{digits-fit, digits-inside, digits_long}
use Rattle.replay_bench.proofs.show.show_part.Goals as goal

pub put_bytes_digits-end-requires : goal.put_bytes_digits-end-requires
put_bytes_digits-end-requires c = search digits-fit

pub slice_bounds-digits-end : goal.slice_bounds-digits-end
slice_bounds-digits-end c = search digits-inside

pub slice_bounds-write_all-end : goal.slice_bounds-write_all-end
slice_bounds-write_all-end c = search digits_long
