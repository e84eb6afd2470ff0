-- The bits of Interrupt Decode (138) and its mask (13C), by their names in PG194. Bit 22 has there only its old name.
use Rattle.std.specs.Prelude.{ℕ}

abbrev pub link_down_bit : ℕ
link_down_bit = 0

abbrev pub cfg_timeout : ℕ
cfg_timeout = 8

abbrev pub correctable : ℕ
correctable = 9

abbrev pub non_fatal : ℕ
non_fatal = 10

abbrev pub fatal : ℕ
fatal = 11

abbrev pub slave_unsupported_request : ℕ
slave_unsupported_request = 20

abbrev pub slave_unexpected_completion : ℕ
slave_unexpected_completion = 21

abbrev pub slave_completion_timeout : ℕ
slave_completion_timeout = 22

abbrev pub slave_error_poison : ℕ
slave_error_poison = 23

abbrev pub slave_completer_abort : ℕ
slave_completer_abort = 24

abbrev pub slave_illegal_burst : ℕ
slave_illegal_burst = 25
