-- A completion's packet: a header with its payload (01, 'Completions').
use Rattle.std.specs.Prelude.{ℕ, ◌+◌, ◌*◌, List, cond, length, take, eqb, Result, Ok, Err}
use Rattle.refusals.specs.declared.Refusal.{Refusal}
use Rattle.refusals.specs.declared.Refusal.TheVariants.{Malformed}
use Rattle.tlp.specs.declared.completion.Completion.{Completion}
use Rattle.tlp.specs.Completion.{read_completion}

-- 'Payload is 4 x length bytes .. Else malformed'
abbrev pub with_payload : List ℕ → Result Completion Refusal → Result Completion Refusal
with_payload s (Ok c) = cond (eqb (length s) (12 + 4 * c.length)) (Ok c) (Err Malformed)
with_payload s (Err r) = Err r

unfoldable pub completion_of : List ℕ → Result Completion Refusal
completion_of s = with_payload s (read_completion (take 12 s))
