-- An access that is open in slot k, and an event: the access goes on or is finished (`Goes`), or is left alone (`Spares`).
use Prim.Native.Nat.{ℕ, ◌+◌, ◌%◌, ◌^◌, ◌<◌}
use mathlib.Core.Path.{◌≡◌, refl, sym, ap, ◌∙◌, subst}
use mathlib.Core.Logic.{◌⊎◌, ◌≢◌}
use mathlib.Core.Bool.{Bool, true, false, cond}
use native.Mathlib.Omega.{arith}
use native.Mathlib.Decide.{ℕ_discrete}
use lib.Dec.{eqb, ltb}
use borrow.Author.Tests.{eqb-true, ltb-true}
use Rattle.parts.specs.Cores.{Core}
use Rattle.parts.specs.declared.ConfigSlot.{ConfigSlot}
use Rattle.machine.specs.State.{Bridge, Tag, Slot, tag_at, slot_at, slot_state, sent_of, core_in}
use Rattle.machine.specs.Take.{state_in, state_of}
use Rattle.bridge_laws.specs.Effects.{Acts}
use Rattle.bridge_laws.proofs.Parts.{same_sent, same_state}

-- the row of a tag that is open for slot k
abbrev pub OpenRow : ℕ → Tag → Type 0
OpenRow k r = (r.missing ≢ 0) × (r.owner ≡ k)

abbrev pub OpenFor : Bridge → ℕ → ℕ → Type 0
OpenFor b k t = OpenRow k (tag_at b t)

-- open or finished
abbrev pub Busy : ℕ → Type 0
Busy n = (n ≡ 1) ⊎ (n ≡ 2)

-- after n ticks the slot is still open or finished, and its open tags were open for it, sent when they were
pub record Goes (n k : ℕ) (b x : Bridge) : Type 0 where
  pub settings : x.settings ≡ b.settings
  pub ticks : x.core.ticks ≡ (b.core.ticks + n) % 2 ^ 32
  pub busy : Busy (state_of b k) → Busy (state_of x k)
  pub tags : (t : ℕ) → OpenFor x k t → OpenFor b k t × (sent_of x t ≡ sent_of b t)

-- the slot and its open tags are as they were
pub record Spares (n k : ℕ) (b x : Bridge) : Type 0 where
  pub settings : x.settings ≡ b.settings
  pub ticks : x.core.ticks ≡ (b.core.ticks + n) % 2 ^ 32
  pub slot : slot_at x k ≡ slot_at b k
  pub config : k ≡ 8 → x.core.config ≡ b.core.config
  pub tags : (t : ℕ) → OpenFor x k t → tag_at x t ≡ tag_at b t

-- what holds of the states in a slot's row, or of the configuration slot's, holds of the slot's states
pub state_by : (R : ℕ → ℕ → Type 0) (k : ℕ) (b x : Bridge) → R 0 0 → (k ≡ 8 → R b.core.config.state x.core.config.state)
    → (k < 8 → R (slot_state b k) (slot_state x k)) → R (state_of b k) (state_of x k)
unfolding state_in
state_by R k b x n c s = by (eqb k 8) refl (ltb k 8) refl
  where
    by : (y : Bool) → eqb k 8 ≡ y → (z : Bool) → ltb k 8 ≡ z
        → R (cond y b.core.config.state (cond z (slot_state b k) 0)) (cond y x.core.config.state (cond z (slot_state x k) 0))
    by true e z f = c (eqb-true k 8 e)
    by false e true f = s (ltb-true k 8 f)
    by false e false f = n

pub state_same : (k : ℕ) (b x : Bridge) → (k ≡ 8 → x.core.config ≡ b.core.config) → slot_at x k ≡ slot_at b k → state_of x k ≡ state_of b k
state_same k b x c s = state_by (λ m n. n ≡ m) k b x refl (λ z. ap (λ (y : ConfigSlot). y.state) (c z)) (λ l. same_state s)

pub spares_goes : {n k : ℕ} {b x : Bridge} → Spares n k b x → Goes n k b x
spares_goes {n} {k} {b} {x} p = record {
  settings = p.settings;
  ticks = p.ticks;
  busy = subst Busy (sym (state_same k b x p.config p.slot));
  tags = λ t o. (subst (OpenRow k) (p.tags t o) o, same_sent (p.tags t o));
}

-- one after the other
pub goes_then : {n k : ℕ} {b x y : Bridge} → Goes n k b x → Goes 0 k x y → Goes n k b y
goes_then p q = record {
  settings = q.settings ∙ p.settings;
  ticks = omega (arith, p.ticks, q.ticks);
  busy = λ h. q.busy (p.busy h);
  tags = λ t o. let r = q.tags t o in let s = p.tags t r.0 in (s.0, r.1 ∙ s.1);
}

pub spares_then : {n k : ℕ} {b x y : Bridge} → Spares n k b x → Spares 0 k x y → Spares n k b y
spares_then {k = k} p q = record {
  settings = q.settings ∙ p.settings;
  ticks = omega (arith, p.ticks, q.ticks);
  slot = q.slot ∙ p.slot;
  config = λ z. q.config z ∙ p.config z;
  tags = λ t o. let r = q.tags t o in r ∙ p.tags t (subst (OpenRow k) r o);
}

-- the counter is below its range
pub still : (b x : Bridge) → b.core.ticks < 2 ^ 32 → x.core.ticks ≡ b.core.ticks → x.core.ticks ≡ (b.core.ticks + 0) % 2 ^ 32
still b x l e = omega arith

-- another core, with the same counter and configuration slot
pub core_spares : (k : ℕ) (b : Bridge) (c : Core) → b.core.ticks < 2 ^ 32 → c.ticks ≡ b.core.ticks → (k ≡ 8 → c.config ≡ b.core.config) → Spares 0 k b (core_in c b)
core_spares k b c l e f = record { settings = refl; ticks = still b (core_in c b) l e; slot = refl; config = f; tags = λ t o. refl }

-- an effect on another slot, or on the core, with a tag that is as it was if it is open for this one
pub acts_spares : {t j : ℕ} {f : Tag → Tag} {g : Slot → Slot} {c : Core → Core} {b x : Bridge} (k : ℕ) → Acts t j f g c b x → b.core.ticks < 2 ^ 32
    → (c b.core).ticks ≡ b.core.ticks → (j ≢ 8 → (c b.core).config ≡ b.core.config) → k ≢ j → (OpenFor x k t → tag_at x t ≡ tag_at b t) → Spares 0 k b x
acts_spares {t} {b = b} {x = x} k a l e f d g = record {
  settings = a.settings;
  ticks = still b x l (ap (λ (y : Core). y.ticks) a.core ∙ e);
  slot = a.slots k d;
  config = λ z. ap (λ (y : Core). y.config) a.core ∙ f (λ n. d (z ∙ sym n));
  tags = λ u o. by u o (ℕ_discrete u t);
}
  where
    by : (u : ℕ) → OpenFor x k u → Dec (u ≡ t) → tag_at x u ≡ tag_at b u
    by u o (yes z) = subst (λ i. OpenFor x k i → tag_at x i ≡ tag_at b i) (sym z) g o
    by u o (no n) = a.tags u n
