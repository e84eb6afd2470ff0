-- The verbs on a tag and on a slot: the effect of each by rows and core, and what it leaves as it is, whatever the lengths of
-- the tables.
use Prim.Native.Nat.{ℕ, ◌≤◌, ◌<◌}
use mathlib.Core.Path.{◌≡◌, refl, sym, ap, subst, ◌∙◌}
use mathlib.Core.Logic.{◌≢◌}
use native.Mathlib.Omega.{arith}
use lib.ListN.{length}
use lib.Dec.{ltb, leb}
use borrow.Author.Tests.{lt-ltb, le-ltb}
use Rattle.tags.specs.Tags.{lowest}
use Rattle.tags.proofs.Tags.{lowest_is}
use Rattle.address.specs.declared.Settings.{Settings}
use Rattle.parts.specs.Cores.{Core}
use Rattle.parts.specs.declared.Pending.{Pending}
use Rattle.verdict.specs.declared.Cause.{Cause}
use Rattle.burst.specs.declared.Burst.{Burst}
use Rattle.machine.specs.State.{Bridge, Tag, Slot, tag_at, slot_at, fault_of, open_pieces, tag_count, slot_count, slot_free, with_config, free_config, raised_core, raise, core_in, set_state, opened, counted, shut, freed}
use Rattle.machine.specs.Verdict.{cause_response, cause_bit}
use Rattle.machine.specs.Memory.{claimed}
use Rattle.machine.specs.Completions.{Held, faulted, failed, finished, piece_closed}
use Rattle.machine.specs.Take.{slot_freed}
use Rattle.bridge_laws.specs.MemoryLaws.{Tables}
use Rattle.bridge_laws.specs.CompletionLaws.{OnlyHere, Counts}
use Rattle.bridge_laws.specs.RowLaws.{SlotAlone}
use Rattle.bridge_laws.specs.Rows.{shut_tag, faulted_slot, closed_slot, freed_slot, freed_core, taken_core, closed_store}
use Rattle.bridge_laws.specs.Effects.{Acts, same, CountedActs, ShutActs, FreedActs, OpenedActs, FailedActs, ClaimedActs, PieceClosed, ReleasedActs, CoreActs}
use Rattle.bridge_laws.proofs.Rows.{either, columns, set_zero}
use Rattle.bridge_laws.proofs.Cores.{raised_core_lem}

-- ---- one after the other

pub then : {t k : ℕ} {f f' : Tag → Tag} {g g' : Slot → Slot} {c c' : Core → Core} {b x y : Bridge}
    → Acts t k f g c b x → Acts t k f' g' c' x y → Acts t k (λ r. f' (f r)) (λ s. g' (g s)) (λ z. c' (c z)) b y
then {f' = f'} {g' = g'} {c' = c'} p q = record {
  settings = q.settings ∙ p.settings;
  tables = q.tables;
  core = q.core ∙ ap c' p.core;
  tag = q.tag ∙ ap f' p.tag;
  tags = λ u d. q.tags u d ∙ p.tags u d;
  slot = q.slot ∙ ap g' p.slot;
  slots = λ j d. q.slots j d ∙ p.slots j d;
}

pub after : {t k : ℕ} {f f' : Tag → Tag} {g g' : Slot → Slot} {c c' : Core → Core} {b x y : Bridge}
    → Acts t k f g c b x → (Tables x → Acts t k f' g' c' x y) → Acts t k (λ r. f' (f r)) (λ s. g' (g s)) (λ z. c' (c z)) b y
after p q = then p (q p.tables)

-- ---- the verbs on a tag

pub core_acts : CoreActs
core_acts t k c b v = search arith

pub counted_acts : CountedActs
unfolding counted
counted_acts t k n b v l = search (columns, arith)

pub shut_acts : ShutActs
unfolding shut
shut_acts t k b v l = search (columns, arith)

pub freed_acts : FreedActs
unfolding freed
freed_acts t k b v = core_acts t k (freed_core t) b v

pub opened_acts : OpenedActs
unfolding opened
opened_acts k r b v a = let l = (lowest_is tag_count b.core.free a).tag.below in search (columns, arith)

-- ---- the verbs on a slot

faulted_acts : (t k place code : ℕ) (b : Bridge) → Tables b → k < slot_count → Acts t k same (faulted_slot place code) same b (faulted k place code b)
unfolding faulted
faulted_acts t k place code b v l =
    either (Acts t k same (faulted_slot place code) same b) (ltb place (fault_of b k)) _ _ (λ e. search (columns, arith, e)) (λ e. search (arith, e))

pub failed_acts : FailedActs
unfolding failed
failed_acts t k place why b v l =
    after (faulted_acts t k place (cause_response why) b v l) (core_acts t k (raised_core (cause_bit why)) (faulted k place (cause_response why) b))

pub claimed_acts : ClaimedActs
unfolding claimed
claimed_acts t k q b v l = search (columns, arith)

-- a piece is closed, the last perhaps
pub piece_store : (k : ℕ) (h : Held) → (piece_closed k h).store ≡ closed_store k (slot_at h.bridge k) h.store
unfolding piece_closed finished
piece_store k h =
    either (λ (x : Held). x.store ≡ closed_store k (slot_at h.bridge k) h.store) (leb (open_pieces h.bridge k) 1) _ _ (λ e. rw e) (λ e. rw e)

pub piece_closed_lem : PieceClosed
unfolding piece_closed finished
piece_closed_lem t k h v l =
    record {
      acts = either (λ (x : Held). Acts t k same closed_slot same h.bridge x.bridge) (leb (open_pieces h.bridge k) 1) _ _
          (λ e. search (columns, arith, e)) (λ e. search (columns, arith, e));
      store = piece_store k h;
    }

released_low : (t k : ℕ) (b : Bridge) → Tables b → k < slot_count → Acts t k same freed_slot same b (set_state k 0 b)
released_low t k b v l = search (columns, arith)

-- a read slot, or the configuration slot
pub freed_read : (k : ℕ) (b : Bridge) → k < slot_count → slot_freed k b ≡ set_state k slot_free b
unfolding slot_freed
freed_read k b l = rw (lt-ltb k slot_count l)

pub freed_config : (k : ℕ) (b : Bridge) → slot_count ≤ k → slot_freed k b ≡ core_in (with_config free_config b.core) b
unfolding slot_freed
freed_config k b l = rw (le-ltb k slot_count l)

pub released_acts : ReleasedActs
released_acts t k b v = (
  λ l. subst (Acts t k same freed_slot same b) (sym (freed_read k b l)) (released_low t k b v l),
  λ l. subst (Acts t k same same (with_config free_config) b) (sym (freed_config k b l)) (core_acts t k (with_config free_config) b v),
)

-- ---- what they leave as it is, whatever the tables' lengths

pub only_then : {k t : ℕ} {b x y : Bridge} → OnlyHere k t b x → OnlyHere k t x y → OnlyHere k t b y
only_then p q = search (◌∙◌, q.tags, p.tags, q.slots, p.slots, q.config, p.config)

-- the core alone
pub core_only : (k t : ℕ) (b : Bridge) (c : Core) → c.ticks ≡ b.core.ticks → c.session ≡ b.core.session
    → (k < slot_count → c.config ≡ b.core.config) → OnlyHere k t b (core_in c b)
core_only k t b c x y z = search

pub raise_only : (k t : ℕ) (b : Bridge) (i : ℕ) → OnlyHere k t b (raise i b)
raise_only k t b i = let r = raised_core_lem i b.core in core_only k t b (raised_core i b.core) r.ticks r.session (λ l. r.config)

pub freed_only : (k t : ℕ) (b : Bridge) → OnlyHere k t b (freed t b)
unfolding freed
freed_only k t b = search

pub freed_tag : (t u : ℕ) (b : Bridge) → tag_at (freed t b) u ≡ tag_at b u
unfolding freed
freed_tag t u b = refl

-- a tag
pub counted_only : (k t n : ℕ) (b : Bridge) → OnlyHere k t b (counted t n b)
unfolding counted
counted_only k t n b = search columns

-- n bytes more, of what another bridge has in its place
pub counted_counts : (t n : ℕ) (b x : Bridge) → x.missing ≡ b.missing → x.place ≡ b.place → x.next ≡ b.next
    → t < length b.missing → t < length b.place → Counts t n b (counted t n x)
unfolding counted
counted_counts t n b x e f g l m = search (columns, e, f, g)

pub shut_only : (k t : ℕ) (b : Bridge) → OnlyHere k t b (shut t b)
unfolding shut
shut_only k t b = search columns

pub shut_tag_lem : (t : ℕ) (b : Bridge) → tag_at (shut t b) t ≡ shut_tag (tag_at b t)
unfolding shut
shut_tag_lem t b = rw (set_zero b.missing t)

-- a request takes the lowest free tag: every slot stays
pub record Takes (b x : Bridge) : Type 0 where
  pub settings : x.settings ≡ b.settings
  pub core : x.core ≡ taken_core b.core
  pub tags : (u : ℕ) → u ≢ lowest tag_count b.core.free → tag_at x u ≡ tag_at b u
  pub slots : (j : ℕ) → slot_at x j ≡ slot_at b j

pub opened_takes : (r : Pending) (b : Bridge) → Takes b (opened r b)
unfolding opened
opened_takes r b = search columns

-- a slot: every tag stays
pub claimed_alone : (k : ℕ) (q : Burst) (b : Bridge) → SlotAlone k b (claimed k q b)
unfolding claimed
claimed_alone k q b = search columns

-- what holds of the settings and the core that it leaves holds of the first ones
pub as_claimed : (k : ℕ) (q : Burst) (b : Bridge) (P : Settings → Core → Type 0) → P (claimed k q b).settings (claimed k q b).core → P b.settings b.core
unfolding claimed
as_claimed k q b P h = h

-- the slot alone, and no column of tags
pub record Slotted (k : ℕ) (b x : Bridge) : Type 0 where
  pub only : (t : ℕ) → OnlyHere k t b x
  pub tag : (t : ℕ) → tag_at x t ≡ tag_at b t
  pub missing : x.missing ≡ b.missing
  pub place : x.place ≡ b.place
  pub next : x.next ≡ b.next

faulted_leaves : (k place code : ℕ) (b : Bridge) → Slotted k b (faulted k place code b)
unfolding faulted
faulted_leaves k place code b = either (Slotted k b) (ltb place (fault_of b k)) _ _ (λ e. search columns) (λ e. search)

pub failed_leaves : (k place : ℕ) (why : Cause) (b : Bridge) → Slotted k b (failed k place why b)
unfolding failed
failed_leaves k place why b =
    let p = faulted_leaves k place (cause_response why) b in
    let x = faulted k place (cause_response why) b in
    record { only = λ t. only_then (p.only t) (raise_only k t x (cause_bit why)); tag = p.tag; missing = p.missing; place = p.place; next = p.next }

pub piece_leaves : (k : ℕ) (h : Held) → Slotted k h.bridge (piece_closed k h).bridge
unfolding piece_closed finished
piece_leaves k h = either (λ (x : Held). Slotted k h.bridge x.bridge) (leb (open_pieces h.bridge k) 1) _ _ (λ e. search columns) (λ e. search columns)
