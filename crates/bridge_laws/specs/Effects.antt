-- What each step of the machine changes, by rows and core, and that nothing else changes. A step is unfolded in the proofs of these
-- laws and of what it leaves in tables of any length (proofs/Verbs, Steps, Serving, Dropping, and Turns for what takes turns);
-- every other law, and demand 3, goes by them.
use Rattle.std.specs.Prelude.{ℕ, ◌+◌, ◌*◌, ◌^◌, ◌-◌, ◌<◌, ◌≤◌, ◌≡◌, ◌≢◌, List, false}
use Rattle.std.proofs.Math.Seq.{paste}
use Rattle.common.specs.Decode.{link_down_bit, cfg_timeout}
use Rattle.bits.specs.Bits.{is_set}
use Rattle.tags.specs.Tags.{lowest, available}
use Rattle.burst.specs.declared.Burst.{Burst}
use Rattle.parts.specs.Cores.{Core}
use Rattle.parts.specs.declared.Pending.{Pending}
use Rattle.verdict.specs.declared.Cause.{Cause}
use Rattle.verdict.specs.declared.Cause.TheVariants.{Poison, Timeout}
use Rattle.verdict.specs.declared.Verdict.{Verdict}
use Rattle.verdict.specs.declared.Verdict.TheVariants.{Good, Poisoned, Failed}
use Rattle.machine.specs.State.{Bridge, Tag, Slot, with_free, tag_at, slot_at, missing_of, place_of, owner_of, tag_count, slot_count, slot_size, slverr, with_config, open_config, figures_now, free_config, raised_core, core_in, opened, counted, shut, freed}
use Rattle.machine.specs.Verdict.{cause_response, cause_bit}
use Rattle.machine.specs.Memory.{claimed}
use Rattle.machine.specs.Config.{Access, routed_bridge, word_pending}
use Rattle.machine.specs.Completions.{Held, held, useful_bytes, failed, piece_closed, memory_completed, config_completed, config_answer, config_done, is_unexpected}
use Rattle.machine.specs.Ticks.{timed_out, drop_slots, link_lost, link_in, drop_config}
use Rattle.machine.specs.Take.{slot_freed}
use Rattle.bridge_laws.specs.MemoryLaws.{Tables}
use Rattle.bridge_laws.specs.Rows.{Resting, counted_tag, shut_tag, pending_tag, faulted_slot, closed_slot, claimed_slot, dropped_slot, freed_slot, freed_core, taken_core, closed_store, dropped_to}

-- ---- an effect

-- the row of tag t becomes f of it, that of slot k g of it, and the core c of it; every other row stays, the settings
-- and the tables' lengths. A k of 8 or more is no read slot
pub record Acts (t k : ℕ) (f : Tag → Tag) (g : Slot → Slot) (c : Core → Core) (b x : Bridge) : Type 0 where
  pub settings : x.settings ≡ b.settings
  pub tables : Tables x
  pub core : x.core ≡ c b.core
  pub tag : tag_at x t ≡ f (tag_at b t)
  pub tags : (u : ℕ) → u ≢ t → tag_at x u ≡ tag_at b u
  pub slot : slot_at x k ≡ g (slot_at b k)
  pub slots : (j : ℕ) → j ≢ k → slot_at x j ≡ slot_at b j

abbrev pub same : {A : Type 0} → A → A
same x = x

-- ---- the verbs on a tag

abbrev pub CountedActs : Type 0
CountedActs =
    (t k n : ℕ) (b : Bridge) → Tables b → t < tag_count → Acts t k (counted_tag n) same same b (counted t n b)

abbrev pub ShutActs : Type 0
ShutActs = (t k : ℕ) (b : Bridge) → Tables b → t < tag_count → Acts t k shut_tag same same b (shut t b)

abbrev pub FreedActs : Type 0
FreedActs = (t k : ℕ) (b : Bridge) → Tables b → Acts t k same same (freed_core t) b (freed t b)

abbrev pub OpenedActs : Type 0
OpenedActs =
    (k : ℕ) (r : Pending) (b : Bridge) → Tables b → 0 < available tag_count b.core.free
    → Acts (lowest tag_count b.core.free) k (λ o. pending_tag b.core.ticks r) same taken_core b (opened r b)

-- ---- the verbs on a slot

abbrev pub FailedActs : Type 0
FailedActs =
    (t k place : ℕ) (why : Cause) (b : Bridge) → Tables b → k < slot_count
    → Acts t k same (faulted_slot place (cause_response why)) (raised_core (cause_bit why)) b (failed k place why b)

abbrev pub ClaimedActs : Type 0
ClaimedActs =
    (t k : ℕ) (q : Burst) (b : Bridge) → Tables b → k < slot_count
    → Acts t k same (λ s. claimed_slot b q) same b (claimed k q b)

-- a piece is closed: the slot, and the store
pub record Closed (t k : ℕ) (h x : Held) : Type 0 where
  pub acts : Acts t k same closed_slot same h.bridge x.bridge
  pub store : x.store ≡ closed_store k (slot_at h.bridge k) h.store

abbrev pub PieceClosed : Type 0
PieceClosed = (t k : ℕ) (h : Held) → Tables h.bridge → k < slot_count → Closed t k h (piece_closed k h)

abbrev pub ReleasedActs : Type 0
ReleasedActs =
    (t k : ℕ) (b : Bridge) → Tables b
    → (k < slot_count → Acts t k same freed_slot same b (slot_freed k b))
    × (slot_count ≤ k → Acts t k same same (with_config free_config) b (slot_freed k b))

-- another core
abbrev pub CoreActs : Type 0
CoreActs = (t k : ℕ) (c : Core → Core) (b : Bridge) → Tables b → Acts t k same same c b (core_in (c b.core) b)

-- ---- a completion or a timeout for tag t

-- for a memory read in slot k: bytes come, good or poisoned, the last perhaps; or the piece fails
pub data Serves (t k skip : ℕ) (payload : List ℕ) (h x : Held) : Verdict → Type 0 where
  good_part : (n : ℕ) → n < missing_of h.bridge t
      → Acts t k (counted_tag n) same same h.bridge x.bridge
      → x.store ≡ paste h.store (slot_size * k + place_of h.bridge t) (useful_bytes skip n payload) n
      → Serves t k skip payload h x (Good n)
  good_last : (n : ℕ) → missing_of h.bridge t ≤ n
      → Acts t k (λ r. shut_tag (counted_tag n r)) closed_slot (freed_core t) h.bridge x.bridge
      → x.store
      ≡ closed_store k (slot_at h.bridge k) (paste h.store (slot_size * k + place_of h.bridge t) (useful_bytes skip n payload) n)
      → Serves t k skip payload h x (Good n)
  poison_part : (n : ℕ) → n < missing_of h.bridge t
      → Acts t k (counted_tag n) (faulted_slot (place_of h.bridge t) (cause_response Poison)) (raised_core (cause_bit Poison)) h.bridge x.bridge
      → x.store ≡ h.store
      → Serves t k skip payload h x (Poisoned n)
  poison_last : (n : ℕ) → missing_of h.bridge t ≤ n
      → Acts t k (λ r. shut_tag (counted_tag n r)) (λ s. closed_slot (faulted_slot (place_of h.bridge t) (cause_response Poison) s))
      (λ c. freed_core t (raised_core (cause_bit Poison) c)) h.bridge x.bridge
      → x.store ≡ closed_store k (faulted_slot (place_of h.bridge t) (cause_response Poison) (slot_at h.bridge k)) h.store
      → Serves t k skip payload h x (Poisoned n)
  fails : (why : Cause)
      → Acts t k shut_tag (λ s. closed_slot (faulted_slot (place_of h.bridge t) (cause_response why) s))
      (λ c. freed_core t (raised_core (cause_bit why) c)) h.bridge x.bridge
      → x.store ≡ closed_store k (faulted_slot (place_of h.bridge t) (cause_response why) (slot_at h.bridge k)) h.store
      → Serves t k skip payload h x (Failed why)

abbrev pub MemoryServes : Type 0
MemoryServes =
    (h : Held) (t k skip : ℕ) (payload : List ℕ) (v : Verdict)
    → Tables h.bridge → t < tag_count → k < slot_count → is_unexpected v ≡ false
    → Serves t k skip payload h (memory_completed h t k skip payload v) v

-- for the configuration access
abbrev pub ConfigServes : Type 0
ConfigServes =
    (b : Bridge) (t k : ℕ) (payload : List ℕ) (v : Verdict) → Tables b → t < tag_count
    → Acts t k shut_tag same (λ c. freed_core t (with_config (config_answer c.config payload v) c)) b (config_completed b t payload v)

-- by time: the tag rests, it is not free
pub data Expires (t : ℕ) (h x : Held) : Type 0 where
  memory : owner_of h.bridge t < slot_count
      → Acts t (owner_of h.bridge t) shut_tag (λ s. closed_slot (faulted_slot (place_of h.bridge t) (cause_response Timeout) s))
      (raised_core (cause_bit Timeout)) h.bridge x.bridge
      → x.store
      ≡ closed_store (owner_of h.bridge t)
      (faulted_slot (place_of h.bridge t) (cause_response Timeout) (slot_at h.bridge (owner_of h.bridge t))) h.store
      → Expires t h x
  config : slot_count ≤ owner_of h.bridge t
      → ((k : ℕ) → Acts t k shut_tag same (λ c. raised_core cfg_timeout (with_config (config_done c.config slverr 0) c)) h.bridge x.bridge)
      → x.store ≡ h.store
      → Expires t h x

abbrev pub TimedOutExpires : Type 0
TimedOutExpires = (h : Held) (t : ℕ) → Tables h.bridge → t < tag_count → Expires t h (timed_out t h)

-- 'At timeout it closes and its tag rests'
abbrev pub TimeoutRests : Type 0
TimeoutRests =
    (h : Held) (t : ℕ) → Tables h.bridge → t < tag_count → is_set h.bridge.core.free t ≡ false → Resting (timed_out t h).bridge t

-- ---- a routed access

abbrev pub RoutedActs : Type 0
RoutedActs =
    (b : Bridge) (a : Access) (k : ℕ) → Tables b → 0 < available tag_count b.core.free
    → Acts (lowest tag_count b.core.free) k (λ o. pending_tag b.core.ticks (word_pending a.write)) same
    (λ c. taken_core (with_config (open_config a.write (figures_now c)) c)) b (routed_bridge b a)

-- ---- the link goes down

pub record Lost (h x : Held) : Type 0 where
  pub settings : x.bridge.settings ≡ h.bridge.settings
  pub tables : Tables x.bridge
  pub core :
      x.bridge.core
      ≡ raised_core link_down_bit
      (link_in false (with_free (2 ^ tag_count - 1) (with_config (drop_config h.bridge.core.config) h.bridge.core)))
  pub tag : (t : ℕ) → tag_at x.bridge t ≡ shut_tag (tag_at h.bridge t)
  pub slot : (k : ℕ) → k < slot_count → slot_at x.bridge k ≡ dropped_slot (slot_at h.bridge k)
  pub store : x.store ≡ dropped_to (slot_at h.bridge) h.store slot_count

abbrev pub DropLoses : Type 0
DropLoses = (h : Held) → Tables h.bridge → Lost h (drop_slots (held (link_lost h.bridge) h.store) slot_count)
