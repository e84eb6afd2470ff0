-- What the steps of a completion tell each other: its useful bytes are there, and its tag is open.
use Rattle.std.specs.Prelude.{ℕ, ◌+◌, ◌*◌, ◌%◌, ◌≤◌, ◌<◌, ◌≡◌, List, true, length, Result, Ok, Err}
use Rattle.refusals.specs.declared.Refusal.{Refusal}
use Rattle.tlp.specs.declared.completion.Completion.{Completion}
use Rattle.tlp.specs.Completion.{valid_completion}
use Rattle.verdict.specs.declared.Verdict.{Verdict}
use Rattle.verdict.specs.declared.Verdict.TheVariants.{Unexpected, Good, Poisoned, Failed}
use Rattle.machine.specs.State.{Bridge, tag_count, slot_count, is_open, missing_of, place_of, owner_of}
use Rattle.machine.specs.Verdict.{memory_verdict}
use Rattle.machine.specs.Completions.{completion_of}

-- n bytes of a completion: no more than are missing, and some where any are; they stand in the payload, from lower mod 4 on
pub record Within (c : Completion) (missing n : ℕ) : Type 0 where
  pub most : n ≤ missing
  pub some : 0 < missing → 0 < n
  pub inside : c.lower % 4 + n ≤ 4 * c.length

abbrev pub Fits : Completion → ℕ → Verdict → Type 0
Fits c missing Unexpected = Unit
Fits c missing (Good n) = Within c missing n
Fits c missing (Poisoned n) = Within c missing n
Fits c missing (Failed cause) = Unit

-- a valid completion's useful bytes are there, and are wanted
abbrev pub VerdictFits : Type 0
VerdictFits = (c : Completion) (missing next : ℕ) → valid_completion c ≡ true → Fits c missing (memory_verdict c missing next)

-- a completion that is not malformed is valid, and its payload is 4 x length bytes
abbrev pub Whole : List ℕ → Result Completion Refusal → Type 0
Whole s (Ok c) = (valid_completion c ≡ true) × (length s ≡ 12 + 4 * c.length)
Whole s (Err r) = Unit

abbrev pub ReadWhole : Type 0
ReadWhole = (s : List ℕ) → Whole s (completion_of s)

-- an expected completion's tag is one of the tags and open, and a memory read's useful bytes are there
pub record Expects (b : Bridge) (c : Completion) (v : Verdict) : Type 0 where
  pub tag : c.tag < tag_count
  pub opened : is_open (missing_of b c.tag) (place_of b c.tag) ≡ true
  pub fits : valid_completion c ≡ true → owner_of b c.tag < slot_count → Fits c (missing_of b c.tag) v
