-- An effect on one tag and one slot keeps what holds of every state, by what it does to the two.
use Prim.Native.Nat.{ℕ, ◌+◌, ◌<◌}
use mathlib.Core.Path.{◌≡◌, refl, sym, ap, ◌∙◌, subst}
use mathlib.Core.Logic.{◌≢◌}
use mathlib.Core.Bool.{false}
use native.Mathlib.Omega.{arith}
use lib.ListN.{get_or}
use lib.Dec.{eqb}
use Rattle.bits.specs.Bits.{is_set}
use Rattle.address.specs.Settings.{settings_number}
use Rattle.parts.specs.declared.ConfigSlot.{ConfigSlot}
use Rattle.parts.specs.Cores.{Core}
use Rattle.machine.specs.State.{Bridge, Tag, Slot, tag_at, slot_at, tag_count, missing_of, sent_of, owner_of, place_of, Open, with_config, registers_of}
use Rattle.machine.specs.Take.{state_of}
use Rattle.bridge_laws.specs.Effects.{Acts, same}
use Rattle.bridge_laws.proofs.Parts.{same_missing, same_sent, same_owner, same_size}
use Rattle.trace.specs.Sound.{named, pieces_in}
use Rattle.trace.proofs.Soundness.Cases.{at_each}
use Rattle.trace.proofs.Soundness.Counts.{weight, named_same, no_weight, open_change}
use Rattle.trace.proofs.Soundness.Fine.{TagFits, SlotFits, Idle, FineAs, FineTo, pieces_same, owner_open}

-- the core after it: the same clock and link, and but for tag t the same tags are free
pub record Steady (t : ℕ) (c d : Core) : Type 0 where
  pub ticks : d.ticks ≡ c.ticks
  pub link : d.registers.link ≡ c.registers.link
  pub free : (u : ℕ) → u ≢ t → is_set d.free u ≡ is_set c.free u

-- what is to be shown of tag t and slot k: what they are after it, and that t adds to the counts what it should
pub record Local (t k : ℕ) (n m over : ℕ → ℕ) (b x : Bridge) : Type 0 where
  pub low : t < tag_count
  pub core : Steady t b.core x.core
  pub tag : Open x t → TagFits (over t) x t
  pub slot : k < 8 → SlotFits (slot_at x k)
  pub size : (u : ℕ) → Open b u → owner_of b u ≡ k → get_or x.size k 0 ≡ get_or b.size k 0
  pub count : (j : ℕ) → m j + weight b j t ≡ n j + weight x j t
  pub down : (registers_of b).link ≡ false → Idle x

module _ {t k : ℕ} {f : Tag → Tag} {g : Slot → Slot} {c : Core → Core} {b x : Bridge} (a : Acts t k f g c b x) where
  -- a tag that waits for the same bytes
  pub tag_kept : {over : ℕ} (u : ℕ) → x.core.ticks ≡ b.core.ticks → is_set x.core.free u ≡ is_set b.core.free u
      → place_of x u + missing_of x u ≡ place_of b u + missing_of b u → owner_of x u ≡ owner_of b u → sent_of x u ≡ sent_of b u
      → get_or x.size (owner_of b u) 0 ≡ get_or b.size (owner_of b u) 0 → TagFits over b u → TagFits over x u
  tag_kept u e i p o n s w = record {
    used = i ∙ w.used;
    whole = rw p w.whole;
    inside = rw (p, o, s) w.inside;
    past = rw n w.past;
    young = rw (n, e, a.settings) w.young;
  }

  -- one with the same row
  pub row_kept : {over : ℕ} (u : ℕ) → Steady t b.core x.core → is_set x.core.free u ≡ is_set b.core.free u → tag_at x u ≡ tag_at b u
      → get_or x.size (owner_of b u) 0 ≡ get_or b.size (owner_of b u) 0 → TagFits over b u → TagFits over x u
  row_kept u d i e s w = tag_kept u d.ticks i (ap (λ (r : Tag). r.place + r.missing) e) (same_owner e) (same_sent e) s w

  -- a slot other than k says what it said
  pub pieces_there : (k ≢ 8 → x.core.config ≡ b.core.config) → (j : ℕ) → j ≢ k → pieces_in x j ≡ pieces_in b j
  pieces_there e j d = pieces_same b x j (λ z. ap (λ s. eqb s.state 1) (e (λ y. d (z ∙ sym y)))) (a.slots j d)

  module _ {n m over : ℕ → ℕ} (v : FineAs n over b) (l : Local t k n m over b x) where
    size_of : (u : ℕ) → Open b u → get_or x.size (owner_of b u) 0 ≡ get_or b.size (owner_of b u) 0
    size_of u o = at_each (λ j. owner_of b u ≡ j → get_or x.size j 0 ≡ get_or b.size j 0) k (l.size u o) (λ j d e. same_size (a.slots j d)) (owner_of b u) refl

    other_tag : (u : ℕ) → u ≢ t → Open x u → TagFits (over u) x u
    other_tag u d o =
        let p : Open b u = λ z. o (same_missing (a.tags u d) ∙ z) in
        row_kept u l.core (l.core.free u d) (a.tags u d) (size_of u p) (v.tags u p)

    others : (j u : ℕ) → u ≢ t → named x j u ≡ named b j u
    others j u d = named_same b x j u (same_missing (a.tags u d)) (same_owner (a.tags u d))

    pub acts_fine : FineAs m over x
    acts_fine = record {
      right = ap settings_number a.settings ∙ v.right;
      sizes = a.tables;
      clock = rw l.core.ticks v.clock;
      tags = at_each (λ u. Open x u → TagFits (over u) x u) t l.tag other_tag;
      count = λ j. omega (arith, open_change b x j t (others j) tag_count l.low, v.count j, l.count j);
      slots = at_each (λ j. j < 8 → SlotFits (slot_at x j)) k l.slot (λ j d h. subst SlotFits (sym (a.slots j d)) (v.slots j h));
      down = λ e. l.down (sym l.core.link ∙ e);
    }

-- a tag that is open for slot k at most, before and after: the counts of k are to be compared, and the others are the same
pub count_at : (n m : ℕ → ℕ) (t k : ℕ) (b x : Bridge) → (Open b t → owner_of b t ≡ k) → (Open x t → owner_of x t ≡ k)
    → ((j : ℕ) → j ≢ k → m j ≡ n j) → m k + weight b k t ≡ n k + weight x k t → (j : ℕ) → m j + weight b j t ≡ n j + weight x j t
count_at n m t k b x o q e h =
    at_each (λ j. m j + weight b j t ≡ n j + weight x j t) k h (λ j d. omega (arith, e j d, no_weight b t k j o d, no_weight x t k j q d))

-- ---- on a slot alone, which no open tag names

-- a slot that is not open is named by no open tag
pub unowned : {over : ℕ → ℕ} (b : Bridge) (k : ℕ) → FineTo over b → state_of b k ≢ 1 → (u : ℕ) → Open b u → owner_of b u ≢ k
unowned b k v n u o e = n (subst (λ i. state_of b i ≡ 1) e (owner_open b u v o))

-- the configuration slot may change with it
module _ {t k : ℕ} {g : Slot → Slot} {c : Core → Core} {b x : Bridge} {n over : ℕ → ℕ} (w : ConfigSlot) (a : Acts t k same g c b x) (v : FineAs n over b)
    (low : t < tag_count) (d : x.core ≡ with_config w b.core) where
  steady : Steady t b.core x.core
  steady = record { ticks = ap (λ z. z.ticks) d; link = ap (λ z. z.registers.link) d; free = λ u n. ap (λ z. is_set z.free u) d }

  pub slot_fine : ((u : ℕ) → Open b u → owner_of b u ≢ k) → (k < 8 → SlotFits (g (slot_at b k))) → FineAs n over x
  slot_fine o f =
      acts_fine a v
      (record {
        low = low;
        core = steady;
        tag = λ m.
            let p : Open b t = λ z. m (same_missing a.tag ∙ z) in
            row_kept a t steady (ap (λ z. is_set z.free t) d) a.tag (same_size (a.slots (owner_of b t) (o t p))) (v.tags t p);
        slot = λ l. subst SlotFits (sym a.slot) (f l);
        size = λ u p e. absurd (o u p e);
        count = λ j. rw (named_same b x j t (same_missing a.tag) (same_owner a.tag));
        down = λ e. let i = v.down e in (ap (λ z. z.free) d ∙ i.0, λ u. same_missing (at_each (λ j. tag_at x j ≡ tag_at b j) t a.tag a.tags u) ∙ i.1 u);
      })
