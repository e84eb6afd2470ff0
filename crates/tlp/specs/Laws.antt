-- What the header definitions promise together. Each law is stated once, for a kind of header: its values, which of
-- them are valid, the bytes of each, and what a reader and a writer make of bytes and of values.
use Rattle.std.specs.Prelude.{ℕ, ◌≤◌, ◌<◌, ◌^◌, ◌≡◌, List, Bool, true, cond, get_or, Result, Ok}
use Rattle.refusals.specs.declared.Refusal.{Refusal}
use Rattle.refusals.specs.Refusals.{number_in}
use Rattle.tlp.specs.declared.request.Target.{Target}
use Rattle.tlp.specs.declared.request.Target.TheVariants.{Memory, Config0, Config1}
use Rattle.tlp.specs.declared.request.Request.{Request}
use Rattle.tlp.specs.declared.completion.Completion.{Completion}
use Rattle.tlp.specs.Bytes.{write_refusal}
use Rattle.tlp.specs.Request.{valid_request, request_bytes, read_request, write_request}
use Rattle.tlp.specs.Completion.{valid_completion, completion_bytes, read_completion, write_completion}

-- a list of bytes
abbrev pub Bytes : List ℕ → Type 0
Bytes s = (i : ℕ) → get_or s i 0 < 256

-- what is written for a valid value reads back as that value
abbrev pub ReadsBack : {H A : Type 0} → (H → Type 0) → (H → List ℕ) → (List ℕ → A) → (H → A) → Type 0
ReadsBack {H} Valid bytes read header = (v : H) → Valid v → read (bytes v) ≡ header v

-- what is read from accepted bytes is valid, and writes back as those bytes
abbrev pub WritesBack : {H A : Type 0} → (H → Type 0) → (H → List ℕ) → (List ℕ → A) → (H → A) → Type 0
WritesBack {H} Valid bytes read header = (s : List ℕ) (v : H) → Bytes s → read s ≡ header v → Valid v × (bytes v ≡ s)

-- a reader accepts exactly the bytes that some valid value has
abbrev pub ReadsExactly : {H A : Type 0} → (H → Type 0) → (H → List ℕ) → (List ℕ → A) → (A → ℕ) → Type 0
ReadsExactly {H} Valid bytes read number =
    (s : List ℕ)
    → Bytes s
    → (number (read s) ≡ 0 → (v : H) × (Valid v × (bytes v ≡ s)))
    × ((v : H) × (Valid v × (bytes v ≡ s)) → number (read s) ≡ 0)

-- a writer with room accepts exactly the valid values, and refuses the others with 12
abbrev pub WritesExactly : {H : Type 0} → (H → Bool) → (H → ℕ → Result ℕ Refusal) → Type 0
WritesExactly {H} valid write = (v : H) (room : ℕ) → 16 ≤ room → number_in (write v room) ≡ cond (valid v) 0 12

-- a writer's refusals have the table's order
abbrev pub RefusesInOrder : {H : Type 0} → (H → Bool) → (H → ℕ → Result ℕ Refusal) → Type 0
RefusesInOrder {H} valid write = (v : H) (room : ℕ) → number_in (write v room) ≡ write_refusal room (valid v)

-- an address that a u64 can hold
abbrev pub Address : Target → Type 0
Address (Memory a) = a < 2 ^ 64
Address (Config0 p) = Unit
Address (Config1 p) = Unit

abbrev pub ValidRequest : Request → Type 0
ValidRequest r = (valid_request r ≡ true) × Address r.target

abbrev pub ValidCompletion : Completion → Type 0
ValidCompletion c = valid_completion c ≡ true

pub record RequestLaws : Type 0 where
  pub reads_back : ReadsBack ValidRequest request_bytes read_request Ok
  pub writes_back : WritesBack ValidRequest request_bytes read_request Ok
  pub reads_exactly : ReadsExactly ValidRequest request_bytes read_request number_in
  pub writes_exactly : WritesExactly valid_request write_request
  pub refuses_in_order : RefusesInOrder valid_request write_request

pub record CompletionLaws : Type 0 where
  pub reads_back : ReadsBack ValidCompletion completion_bytes read_completion Ok
  pub writes_back : WritesBack ValidCompletion completion_bytes read_completion Ok
  pub reads_exactly : ReadsExactly ValidCompletion completion_bytes read_completion number_in
  pub writes_exactly : WritesExactly valid_completion write_completion
  pub refuses_in_order : RefusesInOrder valid_completion write_completion
