-- `script_calls::call::play_data` meets its contract: the block is the part of the buffer that the bytes of the word fill. Assumes nothing.
use Rattle.script_calls.proofs.LineLaws.{data-word}
use Rattle.script_calls.proofs.LentLaws.{block-fits, block_within, block-long}
use Rattle.script_calls.proofs.call.play_data.Goals as goal

pub put_block_bytes-end-requires : goal.put_block_bytes-end-requires
put_block_bytes-end-requires c = search block-fits

pub slice_bounds-play_call-end : goal.slice_bounds-play_call-end
slice_bounds-play_call-end c = search block_within

pub slice_bounds-play_call-end-2 : goal.slice_bounds-play_call-end-2
slice_bounds-play_call-end-2 c = search block-long

pub returns : goal.returns
returns c = search data-word
