-- One name that opens every definition that a computed example of a line reads: `unfolding computing`.
use Rattle.script_bytes.specs.Open.{computing as bytes-computing}
use Rattle.script.specs.Gathered.{line_so_far, with_part}
use Rattle.script.specs.Words.{word, number_word, last_number}
use Rattle.script.specs.Place.{last_block}
use Rattle.script.specs.Line.{load_line, data_line, poke_line, within, room_line, processing_line, payload_line, transfer_line, show_line, report_line, session_line, old_fixed_line, old_cancel_line, old_line, short_line, command_line, script_line_at}

unfoldable pub computing : Unit {0}
unfolding bytes-computing line_so_far with_part word number_word last_number last_block load_line data_line poke_line within room_line processing_line payload_line transfer_line show_line report_line session_line old_fixed_line old_cancel_line old_line short_line command_line script_line_at
computing = tt
