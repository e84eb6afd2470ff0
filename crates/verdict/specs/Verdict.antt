-- What a completion does to the piece whose tag it has (01, 'Completions').
use Rattle.std.specs.Prelude.{ℕ, ◌+◌, ◌-◌, ◌*◌, ◌%◌, min, Bool, true, false, cond, not, ◌&&◌, ◌||◌, ltb, leb, eqb}
use Rattle.common.specs.Decode.{slave_unsupported_request, slave_completion_timeout, slave_error_poison, slave_completer_abort}
use Rattle.refusals.specs.Table.{not_expected}
use Rattle.tlp.specs.declared.completion.Completion.{Completion}
use Rattle.verdict.specs.declared.Cause.{Cause}
use Rattle.verdict.specs.declared.Cause.TheVariants.{UnsupportedRequest, RequestRetry, CompleterAbort, Poison, Timeout}
use Rattle.verdict.specs.declared.Verdict.{Verdict}
use Rattle.verdict.specs.declared.Verdict.TheVariants.{Unexpected, Good, Poisoned, Failed}
pub use Rattle.refusals.specs.Responses.{okay, slverr, decerr}

-- a tag is open while bytes are missing, which lie in a slot's 4,096
abbrev pub is_open : ℕ → ℕ → Bool
is_open missing place = not (eqb missing 0) && leb (place + missing) 4096

-- 'Status 0 success, 1 UR, 2 CRS, 4 CA, others as UR'
abbrev pub cause_of : ℕ → Cause
cause_of status = cond (eqb status 2) RequestRetry (cond (eqb status 4) CompleterAbort UnsupportedRequest)

-- 'Useful bytes: the smaller of 4 x length - lower mod 4 and the missing count'
abbrev pub useful : Completion → ℕ → ℕ
useful c missing = min (4 * c.length - c.lower % 4) missing

-- 'success with data, byte count equal to the bytes still missing, lower address equal to the next address mod 128, and
-- 4 x length below lower mod 4 + missing + 4'
abbrev pub in_order : Completion → ℕ → ℕ → Bool
in_order c missing next =
    c.payload
    && eqb c.count missing
    && eqb c.lower (next % 128)
    && ltb (4 * c.length) (c.lower % 4 + missing + 4)

-- good data, or poisoned data (EP)
abbrev pub received : Completion → ℕ → Verdict
received c n = cond c.poisoned (Poisoned n) (Good n)

-- for a memory read; 'CRS only for configuration'
unfoldable pub memory_verdict : Completion → ℕ → ℕ → Verdict
memory_verdict c missing next =
    cond (eqb c.status 0)
    (cond (in_order c missing next) (received c (useful c missing)) Unexpected)
    (cond (eqb c.status 2) Unexpected (Failed (cause_of c.status)))

-- 'for config read, success with one word, count 4, lower 0; for config write, success without data, count 4, lower 0'
abbrev pub config_shape : Completion → Bool → Bool
config_shape c write =
    (not write && c.payload && eqb c.length 1 || write && not c.payload) && eqb c.count 4 && eqb c.lower 0

unfoldable pub config_verdict : Completion → Bool → Verdict
config_verdict c write =
    cond (eqb c.status 0) (cond (config_shape c write) (received c 4) Unexpected) (Failed (cause_of c.status))

-- 'UR: DECERR .. Timeout: SLVERR .. Poison: SLVERR .. CA: SLVERR'
abbrev pub cause_response : Cause → ℕ
cause_response UnsupportedRequest = decerr
cause_response RequestRetry = slverr
cause_response CompleterAbort = slverr
cause_response Poison = slverr
cause_response Timeout = slverr

-- 'bit 20 .. 22 .. 23 .. 24'; CRS fails no memory read
abbrev pub cause_bit : Cause → ℕ
cause_bit UnsupportedRequest = slave_unsupported_request
cause_bit RequestRetry = slave_unsupported_request
cause_bit CompleterAbort = slave_completer_abort
cause_bit Poison = slave_error_poison
cause_bit Timeout = slave_completion_timeout

abbrev pub is_unexpected : Verdict → Bool
is_unexpected Unexpected = true
is_unexpected (Good n) = false
is_unexpected (Poisoned n) = false
is_unexpected (Failed cause) = false

-- a verdict's number in 01's refusal table: 'not expected' is 13; the other cases are accepted, with n useful bytes that are
-- stored, with n that only count down, or with the cause of a failing status
abbrev pub verdict_number : Verdict → ℕ
verdict_number v = cond (is_unexpected v) not_expected 0
