-- Two bridges alike: all that an event can look at is the same in both. Counters may differ, of ticks and of sessions, and with
-- them the session numbers of answers; and so may what is kept of a tag that is not open and of a slot that is free.
use Prim.Native.Nat.{ℕ, ◌^◌, ◌<◌}
use mathlib.Core.Path.{◌≡◌, refl, sym, ap, ◌∙◌, subst}
use mathlib.Core.Logic.{◌≢◌}
use mathlib.Core.Bool.{Bool, true, false, cond}
use native.Mathlib.Omega.{arith}
use native.Mathlib.Decide.{ℕ_discrete}
use lib.Dec.{ltb, leb, eqb}
use Rattle.bits.specs.Bits.{set_bit, clear_bit}
use Rattle.tags.specs.Tags.{lowest}
use Rattle.ecam.specs.Registers.{Registers}
use Rattle.ecam.specs.Registers.{local_read, messaged}
use mathlib.Core.List.{List}
use Rattle.parts.specs.declared.ConfigSlot.{ConfigSlot}
use Rattle.parts.specs.Cores.{Core, with_session}
use Rattle.parts.specs.declared.Pending.{Pending}
use Rattle.machine.specs.State.{Bridge, Tag, Slot, tag_at, slot_at, Open, tag_count, slot_count, slot_open, slverr, with_registers, with_free, with_config, done_config, no_figures, okay, raised_core, refusal_change}
use Rattle.verdict.specs.declared.Cause.TheVariants.{Timeout, UnsupportedRequest, RequestRetry, CompleterAbort, Poison}
use Rattle.verdict.specs.declared.Verdict.{Verdict}
use Rattle.verdict.specs.declared.Verdict.TheVariants.{Unexpected, Good, Poisoned, Failed}
use Rattle.machine.specs.Completions.{config_answer, config_done}
use Rattle.machine.specs.Config.{Access, local_core}
use Rattle.machine.specs.Ticks.{next_tick, age_of, with_link, link_in, drop_config}
use Rattle.bridge_laws.specs.MemoryLaws.{Tables}
use Rattle.bridge_laws.specs.Rows.{pending_tag, noted_slot, faulted_slot, finished_slot, fewer_slot, closed_slot, lost_slot, dropped_slot, freed_core, taken_core}
use Rattle.bridge_laws.specs.Effects.{Acts}
use Rattle.bridge_laws.proofs.Parts.{same_missing, same_sent, same_owner, same_place, same_next, same_kind}
use Rattle.trace.specs.Claims.{figures_apart}
use Rattle.bridge_laws.proofs.Cores.{Registered, raised_core_lem, refusal_core, local_core_lem, raised_same, refusal_same, local_same}

-- ---- the relation

-- two rows are the same, or neither is in use, where a number of theirs is not 0
pub data Like {A : Type 0} (n : A → ℕ) (r s : A) : Type 0 where
  equal : r ≡ s → Like n r s
  unused : n r ≡ 0 → n s ≡ 0 → Like n r s

pub like_number : {A : Type 0} {n : A → ℕ} {r s : A} → Like n r s → n r ≡ n s
like_number {n = n} (equal e) = ap n e
like_number (unused e f) = e ∙ sym f

pub like_equal : {A : Type 0} {n : A → ℕ} {r s : A} → Like n r s → n r ≢ 0 → r ≡ s
like_equal (equal e) m = e
like_equal (unused e f) m = absurd (m e)

pub like_of : {A : Type 0} {n : A → ℕ} {r s r' s' : A} → r' ≡ r → s' ≡ s → Like n r s → Like n r' s'
like_of e f p = rw (e, f) p

-- a tag's row with its age in place of the tick of sending
abbrev pub aged : ℕ → Tag → Tag
aged now r =
    record { missing = r.missing; sent = age_of now r.sent; owner = r.owner; place = r.place; next = r.next; kind = r.kind }

-- on the counters n and m
abbrev pub TagsLike : ℕ → ℕ → Tag → Tag → Type 0
TagsLike n m r s = Like (λ (x : Tag). x.missing) (aged n r) (aged m s)

-- a slot, and the configuration slot, apart from the session number
abbrev pub bare_slot : Slot → Slot
bare_slot s = record { state = s.state; size = s.size; pieces = s.pieces; fault = s.fault; cause = s.cause; session = 0 }

abbrev pub bare_config : ConfigSlot → ConfigSlot
bare_config c =
    record { state = c.state; write = c.write; response = c.response; word = c.word; figures = figures_apart c.figures }

abbrev pub SlotsLike : Slot → Slot → Type 0
SlotsLike r s = Like (λ (x : Slot). x.state) (bare_slot r) (bare_slot s)

abbrev pub ConfigsLike : ConfigSlot → ConfigSlot → Type 0
ConfigsLike c d = Like (λ (x : ConfigSlot). x.state) (bare_config c) (bare_config d)

-- cores whose counters are n and m
pub record Cores (n m : ℕ) (c d : Core) : Type 0 where
  pub early : c.ticks ≡ n
  pub late : d.ticks ≡ m
  pub registers : c.registers ≡ d.registers
  pub free : c.free ≡ d.free
  pub config : ConfigsLike c.config d.config

pub record Twin (x y : Bridge) : Type 0 where
  pub settings : x.settings ≡ y.settings
  pub core : Cores x.core.ticks y.core.ticks x.core y.core
  pub tags : (t : ℕ) → TagsLike x.core.ticks y.core.ticks (tag_at x t) (tag_at y t)
  pub slots : (k : ℕ) → k < slot_count → SlotsLike (slot_at x k) (slot_at y k)
  pub early : Tables x
  pub late : Tables y
  pub early_clock : x.core.ticks < 2 ^ 32
  pub late_clock : y.core.ticks < 2 ^ 32

-- ---- what a step makes of a slot, apart from its session number, it makes of the slot without one

through : {A B : Type 0} (f : A → B) (z : Bool) (x y : A) → f (cond z x y) ≡ cond z (f x) (f y)
through f true x y = refl
through f false x y = refl

pub bare_closed : (s : Slot) → bare_slot (closed_slot s) ≡ closed_slot (bare_slot s)
bare_closed s = through bare_slot (leb s.pieces 1) (finished_slot s) (fewer_slot s)

pub bare_faulted : (place code : ℕ) (s : Slot) → bare_slot (faulted_slot place code s) ≡ faulted_slot place code (bare_slot s)
bare_faulted place code s = through bare_slot (ltb place s.fault) (noted_slot place code s) s

pub bare_dropped : (s : Slot) → bare_slot (dropped_slot s) ≡ dropped_slot (bare_slot s)
bare_dropped s = through bare_slot (eqb s.state slot_open) (lost_slot s) s

pub bare_lost : (c : ConfigSlot) → bare_config (drop_config c) ≡ drop_config (bare_config c)
bare_lost c = through bare_config (eqb c.state slot_open) (config_done c slverr 0) c

pub bare_answer : (c : ConfigSlot) (payload : List ℕ) (v : Verdict) → bare_config (config_answer c payload v) ≡ config_answer (bare_config c) payload v
unfolding config_answer
bare_answer c payload Unexpected = refl
bare_answer c payload (Good n) = refl
bare_answer c payload (Poisoned n) = refl
bare_answer c payload (Failed UnsupportedRequest) = through bare_config c.write (config_done c slverr 0) (config_done c okay 0xFFFFFFFF)
bare_answer c payload (Failed RequestRetry) = refl
bare_answer c payload (Failed CompleterAbort) = refl
bare_answer c payload (Failed Poison) = refl
bare_answer c payload (Failed Timeout) = refl

module _ {x y : Bridge} (p : Twin x y) where
  pub tag_same : (t : ℕ) → Open x t → aged x.core.ticks (tag_at x t) ≡ aged y.core.ticks (tag_at y t)
  tag_same t m = like_equal (p.tags t) m

  -- what is looked at of an open tag alone is the same in both
  pub look_same : {A : Type 0} (f : Tag → A) (z : A) → ((r : Tag) → r.missing ≡ 0 → f r ≡ z)
      → (t : ℕ) → f (aged x.core.ticks (tag_at x t)) ≡ f (aged y.core.ticks (tag_at y t))
  look_same f z closed t = by (p.tags t)
    where
      by : TagsLike x.core.ticks y.core.ticks (tag_at x t) (tag_at y t) → f (aged x.core.ticks (tag_at x t)) ≡ f (aged y.core.ticks (tag_at y t))
      by (equal e) = ap f e
      by (unused d e) = closed _ d ∙ sym (closed _ e)

-- ---- cores

module _ {n m : ℕ} {c d : Core} (p : Cores n m c d) where
  pub config_cores : {a b : ConfigSlot} → ConfigsLike a b → Cores n m (with_config a c) (with_config b d)
  config_cores e = record { early = p.early; late = p.late; registers = p.registers; free = p.free; config = e }

  pub free_cores : (f : ℕ → ℕ) → Cores n m (with_free (f c.free) c) (with_free (f d.free) d)
  free_cores f = record { early = p.early; late = p.late; registers = p.registers; free = ap f p.free; config = p.config }

  pub freed_cores : (t : ℕ) → Cores n m (freed_core t c) (freed_core t d)
  freed_cores t = free_cores (λ w. set_bit tag_count w t)

  pub taken_cores : Cores n m (taken_core c) (taken_core d)
  taken_cores = free_cores (λ w. clear_bit w (lowest tag_count w))

  -- whatever the session counters are
  pub session_cores : (i j : ℕ) → Cores n m (with_session i c) (with_session j d)
  session_cores i j = record { early = p.early; late = p.late; registers = p.registers; free = p.free; config = p.config }

  pub link_cores : (up : Bool) → Cores n m (link_in up c) (link_in up d)
  link_cores up = record { early = p.early; late = p.late; registers = ap (λ (r : Registers). with_link r up) p.registers; free = p.free; config = p.config }

  -- registers alone
  registered_cores : {c' d' : Core} → Registered c c' → Registered d d' → c'.registers ≡ d'.registers → Cores n m c' d'
  registered_cores a b e =
      record {
        early = a.ticks ∙ p.early;
        late = b.ticks ∙ p.late;
        registers = e;
        free = a.free ∙ (p.free ∙ sym b.free);
        config = like_of (ap bare_config a.config) (ap bare_config b.config) p.config;
      }

  pub raised_cores : (i : ℕ) → Cores n m (raised_core i c) (raised_core i d)
  raised_cores i = registered_cores (raised_core_lem i c) (raised_core_lem i d) (raised_same i c d p.registers)

  pub refused_cores : (i : ℕ) → Cores n m (refusal_change i c) (refusal_change i d)
  refused_cores i = registered_cores (refusal_core i c) (refusal_core i d) (refusal_same i c d p.registers)

  pub local_cores : (a : Access) (w : ℕ) → Cores n m (local_core c a w) (local_core d a w)
  local_cores a w =
      let e = local_core_lem c a w in
      let f = local_core_lem d a w in
      record {
        early = e.ticks ∙ p.early;
        late = f.ticks ∙ p.late;
        registers = local_same a w c d p.registers;
        free = e.free ∙ (p.free ∙ sym f.free);
        config = equal (ap bare_config e.config ∙ (ap (λ (r : Registers). done_config a.write okay (cond a.write 0 (local_read r w)) no_figures) p.registers ∙ sym (ap bare_config f.config)));
      }

  pub message_cores : (s : List ℕ) → Cores n m (with_registers (messaged c.registers s) c) (with_registers (messaged d.registers s) d)
  message_cores s =
      record {
        early = p.early;
        late = p.late;
        registers = ap (λ (r : Registers). messaged r s) p.registers;
        free = p.free;
        config = p.config;
      }

-- ---- steps

-- by the settings, the core and every row, on the counters of before
pub twin_of : {b y x z : Bridge} {c d : Core} → Twin b y → x.settings ≡ b.settings → z.settings ≡ y.settings → x.core ≡ c → z.core ≡ d
    → Cores b.core.ticks y.core.ticks c d → ((t : ℕ) → TagsLike b.core.ticks y.core.ticks (tag_at x t) (tag_at z t))
    → ((k : ℕ) → k < slot_count → SlotsLike (slot_at x k) (slot_at z k)) → Tables x → Tables z → Twin x z
twin_of {b} {y} {x} {z} p e f i j core tags slots u v =
    let m : x.core.ticks ≡ b.core.ticks = ap (λ (a : Core). a.ticks) i ∙ core.early in
    let n : z.core.ticks ≡ y.core.ticks = ap (λ (a : Core). a.ticks) j ∙ core.late in
    record {
      settings = e ∙ (p.settings ∙ sym f);
      core = record {
        early = refl;
        late = refl;
        registers = rw (i, j) core.registers;
        free = rw (i, j) core.free;
        config = rw (i, j) core.config;
      };
      tags = λ t. rw (m, n) (tags t);
      slots = slots;
      early = u;
      late = v;
      early_clock = rw m p.early_clock;
      late_clock = rw n p.late_clock;
    }

-- on one tag, one slot and the core
module _ {t k : ℕ} {f f' : Tag → Tag} {g g' : Slot → Slot} {c c' : Core → Core} {b y x z : Bridge} (p : Twin b y)
    (m : Acts t k f g c b x) (n : Acts t k f' g' c' y z)
    (core : Cores b.core.ticks y.core.ticks (c b.core) (c' y.core))
    (tag : TagsLike b.core.ticks y.core.ticks (f (tag_at b t)) (f' (tag_at y t)))
    (slot : k < slot_count → SlotsLike (g (slot_at b k)) (g' (slot_at y k))) where
  tag_of : (u : ℕ) → Dec (u ≡ t) → TagsLike b.core.ticks y.core.ticks (tag_at x u) (tag_at z u)
  tag_of u (yes e) =
      subst (λ i. TagsLike b.core.ticks y.core.ticks (tag_at x i) (tag_at z i)) (sym e)
      (like_of (ap (aged b.core.ticks) m.tag) (ap (aged y.core.ticks) n.tag) tag)
  tag_of u (no d) = like_of (ap (aged b.core.ticks) (m.tags u d)) (ap (aged y.core.ticks) (n.tags u d)) (p.tags u)

  slot_of : (j : ℕ) → j < slot_count → Dec (j ≡ k) → SlotsLike (slot_at x j) (slot_at z j)
  slot_of j l (yes e) = subst (λ i. SlotsLike (slot_at x i) (slot_at z i)) (sym e) (like_of (ap bare_slot m.slot) (ap bare_slot n.slot) (slot (rw e at l)))
  slot_of j l (no d) = like_of (ap bare_slot (m.slots j d)) (ap bare_slot (n.slots j d)) (p.slots j l)

  pub act_twin : Twin x z
  act_twin =
      twin_of p m.settings n.settings m.core n.core core (λ u. tag_of u (ℕ_discrete u t)) (λ j l. slot_of j l (ℕ_discrete j k))
      m.tables n.tables

-- ---- ages

-- a tag opened now has the age 0, on any counter
pub pending_like : (n m : ℕ) (r : Pending) → n < 2 ^ 32 → m < 2 ^ 32 → TagsLike n m (pending_tag n r) (pending_tag m r)
pending_like n m r a b =
    let e : age_of n n ≡ age_of m m = omega arith in
    equal (rw e)

-- a tick adds one to every age
pub next_like : (n m : ℕ) (r s : Tag) → TagsLike n m r s → TagsLike (next_tick n) (next_tick m) r s
next_like n m r s (equal e) =
    let a : age_of (next_tick n) r.sent ≡ age_of (next_tick m) s.sent = omega (arith, same_sent e) in
    equal (λ i. record { missing = same_missing e i; sent = a i; owner = same_owner e i; place = same_place e i; next = same_next e i; kind = same_kind e i })
next_like n m r s (unused e f) = unused e f
