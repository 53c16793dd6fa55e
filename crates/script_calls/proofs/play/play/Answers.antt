-- `script_calls::play::play` meets its contract: in each arm the case of the line is known, and the function of that case gives what it says.
-- Assumes nothing.
use Rattle.script_calls.proofs.PlayLaws.{word_room, load_line, data-line, call_line, old-line, poke-line, shown-line, unknown-line}
use Rattle.script_calls.proofs.play.play.Goals as goal

pub play_load-requires : goal.play_load-requires
play_load-requires c = search word_room

pub play_data-requires : goal.play_data-requires
play_data-requires c = search word_room

pub returns-in-Load : goal.returns-in-Load
returns-in-Load c = search load_line

pub returns-in-Data : goal.returns-in-Data
returns-in-Data c = search data-line

pub returns-in-Call : goal.returns-in-Call
returns-in-Call c = search call_line

pub returns-in-Old : goal.returns-in-Old
returns-in-Old c = search old-line

pub returns-in-OldStatus : goal.returns-in-OldStatus
returns-in-OldStatus c = search shown-line

pub returns-in-Poke : goal.returns-in-Poke
returns-in-Poke c = search poke-line

pub returns-in-Unknown : goal.returns-in-Unknown
returns-in-Unknown c = search unknown-line
