-- `script_answers::named::put_ended` meets its contract: the digits, and the byte behind them. Assumes nothing.
use Rattle.script_answers.proofs.Laws.{number-room, end-room, number_put, number_short}
use Rattle.script_answers.proofs.named.put_ended.Goals as goal

pub put_number-behind-requires : goal.put_number-behind-requires
put_number-behind-requires c = search number-room

pub put_byte-requires : goal.put_byte-requires
put_byte-requires c = search end-room

pub returns : goal.returns
returns c = record { number = search number_put; short = search number_short }
