-- `script_calls::load_list::play_load` meets its contract: the list is the part of the buffer that the bytes of the word fill. Assumes nothing.
use Rattle.script_calls.proofs.LentLaws.{block-fits, block_within, block-long}
use Rattle.script_calls.proofs.LineLaws.{load_word}
use Rattle.script_calls.proofs.load_list.play_load.Goals as goal

pub put_block_bytes-end-requires : goal.put_block_bytes-end-requires
put_block_bytes-end-requires c = search block-fits

pub slice_bounds-play_list-end : goal.slice_bounds-play_list-end
slice_bounds-play_list-end c = search block_within

pub slice_bounds-play_list-end-2 : goal.slice_bounds-play_list-end-2
slice_bounds-play_list-end-2 c = search block-long

pub returns : goal.returns
returns c = search load_word
