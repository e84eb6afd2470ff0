-- The pieces of a read, opened in turn: each takes the lowest free tag, in the list's order, and waits there.
use Prim.Native.Nat.{ℕ, suc, ◌+◌, ◌≤◌, ◌<◌}
use mathlib.Core.Path.{◌≡◌, sym, ap, ◌∙◌}
use mathlib.Core.Bool.{false}
use mathlib.Core.Logic.{◌≢◌}
use native.Mathlib.Decide.{ℕ_discrete}
use native.Mathlib.Omega.{arith}
use Rattle.bits.specs.Bits.{is_set, clear_bit}
use Rattle.bits.proofs.Bits.{clear_clears}
use Rattle.tags.specs.Tags.{lowest, available, without, lowest_few}
use Rattle.tags.proofs.Tags.{lowest_is, rising, turn_takes, take_one_by_one}
use Rattle.burst.specs.declared.Burst.{Burst}
use Rattle.parts.specs.Cores.{Core}
use Rattle.parts.specs.declared.Pending.{Pending}
use Rattle.machine.specs.State.{Bridge, tag_at, slot_at, tag_count, opened}
use Rattle.machine.specs.Memory.{piece_of, piece_pending, read_to}
use Rattle.machine.proofs.Judging.{never}
use Rattle.machine.proofs.Reading.{one_less}
use Rattle.bridge_laws.specs.MemoryLaws.{tag_of, Tables}
use Rattle.bridge_laws.specs.Rows.{pending_tag}
use Rattle.bridge_laws.proofs.Verbs.{Takes, opened_acts, opened_takes}
use Rattle.bridge_laws.proofs.Turns.{each_piece}

-- a tag that is not free is not the lowest free one
other : (w t : ℕ) → 0 < available tag_count w → is_set w t ≡ false → t ≢ lowest tag_count w
other w t h e f = never (sym (lowest_is tag_count w h).tag.free ∙ (ap (is_set w) (sym f) ∙ e))

none : {A : Type 0} (k : ℕ) → k < 0 → A
none k l = absurd (omega arith)

module _ (slot : ℕ) (q : Burst) (b : Bridge) where
  abbrev free : ℕ
  free = b.core.free

  abbrev pending : ℕ → Pending
  pending k = piece_pending slot b.settings q (piece_of b.settings.reads q k)

  -- i pieces are open in x
  pub record Opens (i : ℕ) (x : Bridge) : Type 0 where
    -- i tags are taken, the lowest ones
    pub left : available tag_count x.core.free + i ≡ available tag_count free
    pub word : x.core.free ≡ without free (lowest_few tag_count free i)
    pub settings : x.settings ≡ b.settings
    pub registers : x.core.registers ≡ b.core.registers
    pub ticks : x.core.ticks ≡ b.core.ticks
    pub session : x.core.session ≡ b.core.session
    pub config : x.core.config ≡ b.core.config
    pub slots : (j : ℕ) → slot_at x j ≡ slot_at b j
    -- tags that are not free stay
    pub used : (t : ℕ) → is_set free t ≡ false → is_set x.core.free t ≡ false
    pub tags : (t : ℕ) → is_set free t ≡ false → tag_at x t ≡ tag_at b t
    -- each piece waits at its tag
    pub tables : Tables b → Tables x
    pub rows : Tables b → (k : ℕ) → k < i → tag_at x (tag_of b k) ≡ pending_tag b.core.ticks (pending k)

  opens_none : Opens 0 b
  unfolding without
  opens_none = search (arith, none)

  opens_one : (i : ℕ) (x : Bridge) → 0 < available tag_count x.core.free → x.settings ≡ b.settings → Opens i x → Opens (suc i) (opened (pending i) x)
  opens_one i x m e p = record {
    left = omega (arith, one_less w m, p.left, ap (available tag_count) taken);
    word = taken ∙ (ap (λ v. clear_bit v (lowest tag_count v)) p.word ∙ sym (take_one_by_one tag_count free i some));
    settings = a.settings ∙ p.settings;
    registers = ap (λ (c : Core). c.registers) a.core ∙ p.registers;
    ticks = ap (λ (c : Core). c.ticks) a.core ∙ p.ticks;
    session = ap (λ (c : Core). c.session) a.core ∙ p.session;
    config = ap (λ (c : Core). c.config) a.core ∙ p.config;
    slots = λ j. a.slots j ∙ p.slots j;
    used = λ t f. ap (λ v. is_set v t) taken ∙ ((clear_clears w (lowest tag_count w)).others t (other w t m (p.used t f)) ∙ p.used t f);
    tags = λ t f. a.tags t (other w t m (p.used t f)) ∙ p.tags t f;
    tables = λ v. (opened_acts slot (pending i) x (p.tables v) m).tables;
    rows = λ v k l. row v k l (ℕ_discrete k i);
  }
    where
      w : ℕ
      w = x.core.free

      a : Takes x (opened (pending i) x)
      a = opened_takes (pending i) x

      taken : (opened (pending i) x).core.free ≡ clear_bit w (lowest tag_count w)
      taken = ap (λ (c : Core). c.free) a.core

      some : i < available tag_count free
      some = omega (arith, p.left)

      here : lowest tag_count w ≡ tag_of b i
      here = ap (lowest tag_count) p.word ∙ turn_takes tag_count free i some

      row : Tables b → (k : ℕ) → k < suc i → Dec (k ≡ i) → tag_at (opened (pending i) x) (tag_of b k) ≡ pending_tag b.core.ticks (pending k)
      row v k l (yes f) =
          rw (f, ← here, ← p.ticks) (opened_acts slot (pending i) x (p.tables v) m).tag
      row v k l (no d) =
          a.tags (tag_of b k) (λ f. omega (arith, f ∙ here, rising tag_count free k i (omega arith) some)) ∙ p.rows v k (omega arith)

  pub opens_all : (k : ℕ) → k ≤ available tag_count free → Opens k (read_to slot q b k)
  opens_all = each_piece slot q b Opens opens_none opens_one

-- the tag of turn k
pub turn_tag : (slot : ℕ) (q : Burst) (b : Bridge) (k : ℕ) → k < available tag_count b.core.free → lowest tag_count (read_to slot q b k).core.free ≡ tag_of b k
turn_tag slot q b k l = ap (lowest tag_count) (opens_all slot q b k (omega arith)).word ∙ turn_takes tag_count b.core.free k l

-- the slots' rows
pub opens_slot : {slot : ℕ} {q : Burst} {b : Bridge} {i : ℕ} {x : Bridge} → Opens slot q b i x → (j : ℕ) → slot_at x j ≡ slot_at b j
opens_slot o j = o.slots j
