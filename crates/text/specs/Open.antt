-- One name that opens every definition that a computed example of a text reads: `unfolding computing`.
use Rattle.text.specs.Number.{digit_of, number_goes_on, number_begins, whole_number}
use Rattle.text.specs.Version.{version_within, dotted_at, version_at, whole_version, version_text}
use Rattle.text.specs.Word.{same_bytes}
use Rattle.text.specs.Digits.{digits_in, digits}
use Rattle.text.specs.Meaning.{no_digit_first, each_byte, digit_or_dot}

unfoldable pub computing : Unit {0}
unfolding digit_of number_goes_on number_begins whole_number version_within dotted_at version_at whole_version version_text same_bytes digits_in digits no_digit_first each_byte digit_or_dot
computing = tt
