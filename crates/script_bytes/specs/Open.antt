-- One name that opens every definition that a computed example of bytes reads: `unfolding computing`.
use Rattle.text.specs.Open.{computing as text-computing}
use Rattle.script_bytes.specs.Hex.{digit_value, digit_byte, is_digit, is_digits, digits_bytes, byte_digits, bytes_digits, answer_digits, is_byte}
use Rattle.script_bytes.specs.Block.{form_of, typed_byte, block_bytes}

unfoldable pub computing : Unit {0}
unfolding text-computing digit_value digit_byte is_digit is_digits digits_bytes byte_digits bytes_digits answer_digits is_byte form_of typed_byte block_bytes
computing = tt
