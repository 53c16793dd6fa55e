-- The rooms of the program. The code has them in src/limits.rt, and the contracts tie the two.
use Rattle.std.specs.Prelude.{ℕ}

-- "`SIZE`, `ID`, `COUNTER`, `N`, `AT` and `FIRST` are 0 to 4,294,967,295."
abbrev pub number_most : ℕ
number_most = 4294967295

-- "`STORE` is at most 1,048,576, the room of the program"
abbrev pub store_most : ℕ
store_most = 1048576

-- "`ROOM` at most 64 records"
abbrev pub records_most : ℕ
records_most = 64

-- "64 entries"
abbrev pub waves_most : ℕ
waves_most = 64

-- "or 65,536 bytes"
abbrev pub report_most : ℕ
report_most = 65536

-- "a line is at most 262,144 bytes with its LF"
abbrev pub line_most : ℕ
line_most = 262144
