-- What the code's structs mean: the core, with the cells that hold the queued error messages; the columns of the tables; an
-- answer.
use Rattle.std.specs.Prelude.{ℕ, List, map, Option, Some, None, Result, Ok, Err}
use Rattle.refusals.specs.declared.Refusal.{Refusal}
use Rattle.refusals.specs.Refusals.{number_of}
use Rattle.parts.specs.Sizes.{config_slot}
use Rattle.parts.specs.declared.TagRow.{TagRow}
use Rattle.parts.specs.declared.SlotRow.{SlotRow}
use Rattle.parts.specs.declared.Accepted.{Accepted}
use Rattle.parts.specs.Answers.{Answer, refusal}
use Rattle.messages.specs.declared.queue.Ring.{Ring}
use Rattle.ecam.specs.Code.Struct.{registers_from, registers_at}
use Rattle.parts.specs.declared.Core as code
use Rattle.parts.specs.Cores.{Core}

abbrev pub core_from : code.Core → List ℕ → Core
core_from c cells = record { registers = registers_from c.registers cells; ticks = c.ticks; session = c.session; free = c.free; config = c.config }

-- and back: the struct whose queue is where a ring says
abbrev pub core_at : Ring → Core → code.Core
core_at ring c =
    record { registers = registers_at ring c.registers; ticks = c.ticks; session = c.session; free = c.free; config = c.config }

-- ---- the columns by tag, and by slot

abbrev pub sents_of : List TagRow → List ℕ
sents_of rows = map (λ (r : TagRow). r.sent) rows

abbrev pub owners_of : List TagRow → List ℕ
owners_of rows = map (λ (r : TagRow). r.owner) rows

abbrev pub places_of : List TagRow → List ℕ
places_of rows = map (λ (r : TagRow). r.place) rows

abbrev pub nexts_of : List TagRow → List ℕ
nexts_of rows = map (λ (r : TagRow). r.next) rows

abbrev pub kinds_of : List TagRow → List ℕ
kinds_of rows = map (λ (r : TagRow). r.kind) rows

abbrev pub states_of : List SlotRow → List ℕ
states_of rows = map (λ (r : SlotRow). r.state) rows

abbrev pub sizes_of : List SlotRow → List ℕ
sizes_of rows = map (λ (r : SlotRow). r.size) rows

abbrev pub pieces_of : List SlotRow → List ℕ
pieces_of rows = map (λ (r : SlotRow). r.pieces) rows

abbrev pub faults_of : List SlotRow → List ℕ
faults_of rows = map (λ (r : SlotRow). r.fault) rows

abbrev pub causes_of : List SlotRow → List ℕ
causes_of rows = map (λ (r : SlotRow). r.cause) rows

abbrev pub sessions_of : List SlotRow → List ℕ
sessions_of rows = map (λ (r : SlotRow). r.session) rows

-- ---- a free slot, or 8

abbrev pub slot_or_none : Option ℕ → ℕ
slot_or_none None = config_slot
slot_or_none (Some k) = k

-- ---- an answer

abbrev pub answer_of : Result Accepted Refusal → Answer
answer_of (Ok a) = record { number = 0; response = a.response; slot = a.slot; length = a.length; word = a.word; figures = a.figures }
answer_of (Err r) = refusal (number_of r)

-- what an event shows whose refusal number is n, 0 where it is accepted, and whose other fields are these
abbrev pub shown : ℕ → Accepted → Answer
shown n a = record { number = n; response = a.response; slot = a.slot; length = a.length; word = a.word; figures = a.figures }
