-- The verbs on tags and slots, answers, and a fresh bridge. What speaks of no table is defined in `verdict` and `parts`, and
-- passed on.
use Rattle.std.specs.Prelude.{ℕ, ◌+◌, ◌-◌, ◌≢◌, Bool, cond, replicate, eqb}
use Rattle.bits.specs.Bits.{set_bit, clear_bit}
use Rattle.tags.specs.Tags.{lowest}
use Rattle.address.specs.declared.Settings.{Settings}
use Rattle.address.specs.Settings.{settings_number, example_settings}
use Rattle.burst.specs.Words.{lower_address}
use Rattle.ecam.specs.Registers.{Registers}
use Rattle.ecam.specs.Registers.{line}
use Rattle.refusals.specs.declared.Response.TheVariants.{Nothing}
use Rattle.refusals.specs.Table.{setting}
use Rattle.parts.specs.Answers.{Answer}
use Rattle.parts.specs.declared.Pending.{Pending}
pub use Rattle.parts.specs.Sizes.{slot_count, slot_size, config_slot, slot_free, slot_open, slot_finished, memory_read, config_read, config_write}
pub use Rattle.machine.specs.Bridge.{Bridge, missing_of, sent_of, owner_of, place_of, next_address, kind_of, slot_state, size_of, open_pieces, fault_of, failure_of, session_of, Tag, tag_at, Slot, slot_at, core_in, put_missing, put_sent, put_owner, put_place, put_next, put_kind, put_state, put_size, put_pieces, put_fault, put_cause, put_session, set_missing, set_sent, set_owner, set_place, set_next, set_kind, set_state, set_size, set_pieces, set_fault, set_cause, set_session}
pub use Rattle.verdict.specs.Verdict.{is_open, okay, slverr, decerr}
pub use Rattle.parts.specs.Cores.{tag_count, with_registers, with_ticks, with_free, with_config, free_config, open_config, done_config, no_figures, figures_now}
unfoldable pub use Rattle.parts.specs.Cores.{raised_core, fresh_core}
unfoldable pub use Rattle.parts.specs.Answers.{response_of, refusal_response, refusal_change, refusal, accepted, taken}
unfoldable pub use Rattle.parts.specs.Numbers.{free_slot_from}

-- ---- decode bits

abbrev pub raise : ℕ → Bridge → Bridge
raise i b = core_in (raised_core i b.core) b

-- ---- tags

-- a tag is open while bytes are missing
abbrev pub Open : Bridge → ℕ → Type 0
Open b t = missing_of b t ≢ 0

-- its request is a configuration write
abbrev pub is_write : Bridge → ℕ → Bool
is_write b t = eqb (kind_of b t) config_write

-- tag t waits for what a request asks for, sent now
abbrev pub waiting : ℕ → Pending → Bridge → Bridge
waiting t r b =
    set_missing t r.missing
    (set_sent t b.core.ticks
    (set_owner t r.slot (set_place t r.place (set_next t r.next (set_kind t r.kind b)))))

-- 'takes the lowest-numbered free tag'
unfoldable pub opened : Pending → Bridge → Bridge
opened r b =
    core_in (with_free (clear_bit b.core.free (lowest tag_count b.core.free)) b.core)
    (waiting (lowest tag_count b.core.free) r b)

-- n bytes more have come for a tag
unfoldable pub counted : ℕ → ℕ → Bridge → Bridge
counted t n b =
    set_missing t (missing_of b t - n) (set_place t (place_of b t + n) (set_next t (lower_address (next_address b t + n)) b))

-- a tag is no longer open
unfoldable pub shut : ℕ → Bridge → Bridge
shut t b = set_missing t 0 b

-- a tag is free
unfoldable pub freed : ℕ → Bridge → Bridge
freed t b = core_in (with_free (set_bit tag_count b.core.free t) b.core) b

-- ---- slots

-- 'the lowest free slot', 8 where none is free
abbrev pub free_slot : Bridge → ℕ
free_slot b = free_slot_from b.state 0 slot_count

-- ---- answers

-- 'Each event hands back the bridge with its answer'
pub record Answered : Type 0 where
  pub bridge : Bridge
  pub answer : Answer

abbrev pub answered : Bridge → Answer → Answered
answered b a = record { bridge = b; answer = a }

unfoldable pub refused : ℕ → Bridge → Answered
refused n b = answered (core_in (refusal_change n b.core) b) (refusal n)

-- ---- a fresh bridge

-- '8 free read slots'; no tag is open
unfoldable pub fresh_bridge : Settings → Bridge
fresh_bridge s =
    record {
      settings = s;
      core = fresh_core;
      missing = replicate tag_count 0;
      sent = replicate tag_count 0;
      owner = replicate tag_count 0;
      place = replicate tag_count 0;
      next = replicate tag_count 0;
      kind = replicate tag_count 0;
      state = replicate slot_count 0;
      size = replicate slot_count 0;
      pieces = replicate slot_count 0;
      fault = replicate slot_count 0;
      cause = replicate slot_count 0;
      session = replicate slot_count 0;
    }

-- row 1: 'no bridge'; the fresh bridge of the worked examples, window 0 only, stands in its place
unfoldable pub new_bridge : Settings → Answered
new_bridge s =
    cond (eqb (settings_number s) 0) (answered (fresh_bridge s) (accepted Nothing 0 0 0))
    (refused setting (fresh_bridge example_settings))

-- ---- what can be read

abbrev pub registers_of : Bridge → Registers
registers_of b = b.core.registers

-- the interrupt line
abbrev pub line_of : Bridge → Bool
line_of b = line b.core.registers
