-- A tick: it keeps what holds of every state, and after it no open tag is as old as the time limit.
use Prim.Native.Nat.{ℕ, suc, ◌+◌, ◌-◌, ◌^◌, ◌≤◌, ◌<◌, min}
use mathlib.Core.Path.{◌≡◌, refl, ap, ◌∙◌}
use mathlib.Core.Logic.{◌≢◌}
use mathlib.Core.Bool.{true, false, not}
use native.Mathlib.Omega.{arith}
use lib.ListN.{length}
use lib.Dec.{leb, eqb}
use borrow.Author.Tests.{eqb-false, ne_eqb, le-leb, not-true}
use Rattle.common.proofs.Tests.{and_left}
use Rattle.verdict.specs.declared.Cause.TheVariants.{Timeout}
use Rattle.machine.specs.State.{Bridge, slot_at, tag_count, with_ticks, core_in, missing_of, sent_of, owner_of, place_of, is_open, Open}
use Rattle.machine.specs.Verdict.{cause_response}
use Rattle.machine.specs.Completions.{store_size, Held, held}
use Rattle.machine.specs.Ticks.{next_tick, age_of, is_old, timed_out, expire_to}
use Rattle.bridge_laws.specs.Rows.{faulted_slot}
use Rattle.bridge_laws.specs.Effects.{Expires, memory, config}
use Rattle.bridge_laws.proofs.Effects.{timed_out_expires}
use Rattle.bridge_laws.proofs.Turns.{each_tag}
use Rattle.bridge_laws.proofs.Parts.{same_missing}
use Rattle.trace.proofs.Soundness.Cases.{at_each}
use Rattle.trace.proofs.Soundness.Fine.{TagFits, FineTo, reage, tag_below}
use Rattle.trace.proofs.Soundness.Serving.{expired_fine}
use Rattle.trace.proofs.Soundness.Cores.{core_fine}
use Rattle.trace.proofs.Soundness.Opening.{limited}
use Rattle.trace.proofs.Soundness.Rooms.{closed_room}

-- ---- open tags, and old ones

pub test_open : (m p : ℕ) → is_open m p ≡ true → m ≢ 0
test_open m p e = eqb-false m 0 (not-true (eqb m 0) (and_left (not (eqb m 0)) (leb (p + m) 4096) e))

pub old_open : (b : Bridge) (t : ℕ) → is_old b t ≡ true → Open b t
old_open b t e = test_open (missing_of b t) (place_of b t) (and_left (is_open (missing_of b t) (place_of b t)) _ e)

-- an open tag that is not old has another age
not_old : {over : ℕ} (b : Bridge) (t : ℕ) → TagFits over b t → is_old b t ≡ false → Open b t → age_of b.core.ticks (sent_of b t) ≢ b.settings.limit
not_old b t w e m = eqb-false _ _ (rw (ne_eqb _ _ m, le-leb _ _ w.whole) at e)

-- a timeout closes its tag
pub record Expired (t : ℕ) (h x : Held) : Type 0 where
  pub gone : missing_of x.bridge t ≡ 0
  pub room : length x.store ≡ length h.store

pub expired : {t : ℕ} {h x : Held} → store_size ≤ length h.store → Expires t h x → Expired t h x
expired {t = t} {h = h} r (memory l a s) =
    let k = owner_of h.bridge t in
    let row = faulted_slot (place_of h.bridge t) (cause_response Timeout) (slot_at h.bridge k) in
    record { gone = same_missing a.tag; room = ap length s ∙ closed_room k row h.store l r }
expired r (config l a s) = record { gone = same_missing (a 0).tag; room = ap length s }

-- ---- the tags in turn

-- the tags below n have been looked at: they are younger than the limit, the others at most as old
abbrev pub over_from : ℕ → ℕ → ℕ
over_from n t = min 1 (suc t - n)

pub record Looked (n : ℕ) (h : Held) : Type 0 where
  pub aged : FineTo (over_from n) h.bridge
  pub room : store_size ≤ length h.store

pub looked_young : (n : ℕ) (x : Held) → is_old x.bridge n ≡ false → Looked n x → Looked (suc n) x
looked_young n x e w =
    let b = x.bridge in
    let younger : (t : ℕ) → Open b t → age_of b.core.ticks (sent_of b t) < b.settings.limit + over_from (suc n) t =
    at_each (λ t. Open b t → age_of b.core.ticks (sent_of b t) < b.settings.limit + over_from (suc n) t) n
    (λ m. let f = w.aged.tags n m in let d = not_old b n f e m in omega (arith, f.young)) (λ t d m. omega (arith, (w.aged.tags t m).young)) in
    record { aged = reage younger w.aged; room = w.room }

pub looked_old : (n : ℕ) (x y : Held) → is_old x.bridge n ≡ true → Expires n x y → Looked n x → Looked (suc n) y
looked_old n x y e p w =
    let v = expired_fine w.aged (old_open x.bridge n e) p in
    let g = expired w.room p in
    record {
      aged = reage (λ t m. let d : t ≢ n = λ z. m (ap (missing_of y.bridge) z ∙ g.gone) in omega (arith, (v.tags t m).young)) v;
      room = rw g.room w.room;
    }

pub all_looked : (h : Held) → Looked 0 h → Looked tag_count (expire_to h tag_count)
all_looked h w =
    each_tag Looked h w (λ n x l e f. looked_young n x e f) (λ n x l e f. looked_old n x (timed_out n x) e (timed_out_expires x n f.aged.sizes l) f)

-- after all of them each open tag is younger than the limit
pub ticked_fine : {h : Held} → Looked tag_count h → FineTo (λ t. 0) h.bridge
ticked_fine {h = h} w = reage (λ t m. omega (arith, (w.aged.tags t m).young, tag_below h.bridge t w.aged.sizes m)) w.aged

-- ---- the clock

-- 'it steps, then closes'
abbrev pub clocked : Held → Held
clocked h = held (core_in (with_ticks (next_tick h.bridge.core.ticks) h.bridge.core) h.bridge) h.store

-- a tick makes a tag older by one
pub age_next : (x s : ℕ) → x < 2 ^ 32 → s < 2 ^ 32 → suc (age_of x s) < 2 ^ 32 → age_of (next_tick x) s ≡ suc (age_of x s)
age_next x s l m h = omega arith

pub clock_fine : (h : Held) → store_size ≤ length h.store → FineTo (λ t. 0) h.bridge → Looked 0 (clocked h)
clock_fine h r v =
    let b = h.bridge in
    let c = with_ticks (next_tick b.core.ticks) b.core in
    let g = limited b.settings v.right in
    record {
      aged = core_fine b c v refl refl (omega arith) (λ e. e)
          (λ t m.
          let w = v.tags t m in
          let a = age_next b.core.ticks (sent_of b t) v.clock w.past (omega (arith, w.young, g.most)) in
          omega (arith, a, w.young));
      room = r;
    }
