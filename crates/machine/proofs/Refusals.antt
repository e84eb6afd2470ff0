-- What an accepted or refused memory call tells, and what it answers.
use mathlib.Core.Path.{◌≡◌, refl}
use mathlib.Core.Bool.{Bool, true, false, cond, not, ◌&&◌}
use mathlib.Core.List.{List}
use Prim.Native.Nat.{ℕ, suc, ◌≤◌, ◌<◌}
use native.Mathlib.Omega.{arith}
use borrow.Author.Tests.{eq-eqb, ne_eqb, ltb-false, leb-false, eqb-true, not-false}
use lib.ListN.{length}
use lib.Dec.{eqb}
use Rattle.refusals.specs.declared.Refusal.{Refusal}
use Rattle.refusals.specs.declared.Refusal.TheVariants.{Setting, NoWindow, WrongBurst, LinkDown, ConfigBusy, SlotsUsed, FewTags, TooShort, OffsetOver, NotRouted, WrongDevice, Malformed, NotExpected, NotFinished, WrongData}
use Rattle.refusals.specs.Refusals.{number_of}
use Rattle.tags.specs.Tags.{available}
use Rattle.address.specs.Windows.{found_number}
use Rattle.address.specs.declared.Settings.{Settings}
use Rattle.address.specs.Settings.{settings_right, settings_number}
use Rattle.burst.specs.declared.Burst.{Burst}
use Rattle.burst.specs.Bursts.{burst_right, burst_number, length_of, data_number}
use Rattle.machine.specs.Bridge.{Bridge}
use Rattle.refusals.specs.declared.Response.TheVariants.{Nothing, Okay}
use Rattle.machine.specs.State.{tag_count, free_slot, accepted, answered, refused}
use Rattle.machine.specs.Memory.{filled, window_for, pieces_of, read_refusal, claimed, read_to, read_sent, read_step, read_area, write_refusal, write_bytes, write_step, write_area}

-- a refusal's number is not 0
pub not_zero : (r : Refusal) → number_of r ≡ 0 → ⊥
not_zero Setting e = omega (arith, e)
not_zero NoWindow e = omega (arith, e)
not_zero WrongBurst e = omega (arith, e)
not_zero LinkDown e = omega (arith, e)
not_zero ConfigBusy e = omega (arith, e)
not_zero SlotsUsed e = omega (arith, e)
not_zero FewTags e = omega (arith, e)
not_zero TooShort e = omega (arith, e)
not_zero OffsetOver e = omega (arith, e)
not_zero NotRouted e = omega (arith, e)
not_zero WrongDevice e = omega (arith, e)
not_zero Malformed e = omega (arith, e)
not_zero NotExpected e = omega (arith, e)
not_zero NotFinished e = omega (arith, e)
not_zero WrongData e = omega (arith, e)

-- where no number is given, the first test failed, and the rest gives none
none_given : (t : Bool) (n r : ℕ) → cond t (suc n) r ≡ 0 → (t ≡ false) × (r ≡ 0)
none_given true n r e = let z : ⊥ = omega arith in absurd z
none_given false n r e = (refl, e)

is_zero : (n : ℕ) → not (eqb n 0) ≡ false → n ≡ 0
is_zero n e = eqb-true n 0 (not-false (eqb n 0) e)

pub record ReadOk (b : Bridge) (q : Burst) (room : ℕ) : Type 0 where
  pub area : 4608 ≤ room
  pub burst : burst_number q ≡ 0
  pub window : found_number (window_for b.settings.windows q) ≡ 0
  pub link : b.core.registers.link ≡ true
  pub config : eqb b.core.config.state 1 && not b.core.config.write ≡ false
  pub slot : free_slot b < 8
  pub tags : pieces_of b.settings.reads q ≤ available tag_count b.core.free

pub read_ok : (b : Bridge) (q : Burst) (room : ℕ) → read_refusal b q room ≡ 0 → ReadOk b q room
unfolding read_refusal
read_ok b q room e =
    let a = none_given _ _ _ e in
    let c = none_given _ _ _ a.1 in
    let d = none_given _ _ _ c.1 in
    let f = none_given _ _ _ d.1 in
    let g = none_given _ _ _ f.1 in
    let h = none_given _ _ _ g.1 in
    let i = none_given _ _ _ h.1 in
    record {
      area = ltb-false _ _ a.0;
      burst = is_zero _ c.0;
      window = is_zero _ d.0;
      link = not-false _ f.0;
      config = g.0;
      slot = leb-false _ _ h.0;
      tags = ltb-false _ _ i.0;
    }

pub record WriteOk (b : Bridge) (q : Burst) (len room : ℕ) : Type 0 where
  pub area : 4608 ≤ room
  pub burst : burst_number q ≡ 0
  pub window : found_number (window_for b.settings.windows q) ≡ 0
  pub bytes : data_number q len ≡ 0
  pub link : b.core.registers.link ≡ true

pub write_ok : (b : Bridge) (q : Burst) (len room : ℕ) → write_refusal b q len room ≡ 0 → WriteOk b q len room
unfolding write_refusal
write_ok b q len room e =
    let a = none_given _ _ _ e in
    let c = none_given _ _ _ a.1 in
    let d = none_given _ _ _ c.1 in
    let f = none_given _ _ _ d.1 in
    let g = none_given _ _ _ f.1 in
    record {
      area = ltb-false _ _ a.0;
      burst = is_zero _ c.0;
      window = is_zero _ d.0;
      bytes = is_zero _ f.0;
      link = not-false _ g.0;
    }

data_by_lem : (x : Bool) → ◌≡◌ {A = ℕ} (cond x 0 15) 0 → x ≡ true
data_by_lem true e = refl
data_by_lem false e = let z : ◌≡◌ {A = ℕ} 0 1 = omega arith in cc

-- the number that a refused check has
zero_or : (x : Bool) (n k : ℕ) → (k ≡ 0 → ⊥) → k ≡ cond x 0 n → cond x 0 n ≡ n
zero_or true n k f e = absurd (f e)
zero_or false n k f e = refl

pub wrong_burst_is : (q : Burst) (r : Refusal) → number_of r ≡ burst_number q → burst_number q ≡ 3
unfolding burst_number
wrong_burst_is q r e = zero_or (burst_right q) 3 (number_of r) (not_zero r) e

pub wrong_data_is : (q : Burst) (len : ℕ) (r : Refusal) → number_of r ≡ data_number q len → data_number q len ≡ 15
unfolding data_number
wrong_data_is q len r e = zero_or (eqb len (length_of q)) 15 (number_of r) (not_zero r) e

pub wrong_setting_is : (s : Settings) (r : Refusal) → number_of r ≡ settings_number s → settings_number s ≡ 1
unfolding settings_number
wrong_setting_is s r e = zero_or (settings_right s) 1 (number_of r) (not_zero r) e

-- accepted data has the burst's length
pub data_length : (q : Burst) (len : ℕ) → data_number q len ≡ 0 → len ≡ length_of q
unfolding data_number
data_length q len e = eqb-true len (length_of q) (data_by_lem (eqb len (length_of q)) e)

-- ---- reads

pub read_refused_lem : (b : Bridge) (q : Burst) (area : List ℕ) (n : ℕ) → n ≡ read_refusal b q (length area) → (n ≡ 0 → ⊥)
    → (refused n b ≡ read_step b q (length area)) × (area ≡ read_area b q area)
unfolding read_step read_area
read_refused_lem b q area n e h = (rw (← e, ne_eqb _ _ h), rw (← e, ne_eqb _ _ h))

pub read_done : (b b₁ b₂ : Bridge) (q : Burst) (slot at : ℕ) (area after : List ℕ) → slot ≡ free_slot b → read_refusal b q (length area) ≡ 0
    → b₁ ≡ claimed slot q b → b₂ ≡ read_to slot q b₁ (pieces_of b.settings.reads q)
    → at ≡ length (read_sent slot q b₁ (pieces_of b.settings.reads q))
    → after ≡ filled (read_sent slot q b₁ (pieces_of b.settings.reads q)) area
    → (answered b₂ (accepted Nothing slot at 0) ≡ read_step b q (length area)) × (after ≡ read_area b q area)
unfolding read_step read_area
read_done b b₁ b₂ q slot at area after es er ec eo ea ef =
    (rw (eq-eqb _ _ er, ← es, ← ec, ← eo, ← ea), rw (eq-eqb _ _ er, ← es, ← ec) ef)

-- ---- writes

pub write_refused : (b : Bridge) (q : Burst) (bytes area : List ℕ) (n : ℕ) → n ≡ write_refusal b q (length bytes) (length area) → (n ≡ 0 → ⊥)
    → (refused n b ≡ write_step b q bytes (length area)) × (area ≡ write_area b q bytes area)
unfolding write_step write_area
write_refused b q bytes area n e h = (rw (← e, ne_eqb _ _ h), rw (← e, ne_eqb _ _ h))

pub write_done : (b : Bridge) (q : Burst) (bytes area after : List ℕ) (at : ℕ) → write_refusal b q (length bytes) (length area) ≡ 0
    → at ≡ length (write_bytes b.settings q bytes (length area)) → after ≡ filled (write_bytes b.settings q bytes (length area)) area
    → (answered b (accepted Okay 0 at 0) ≡ write_step b q bytes (length area)) × (after ≡ write_area b q bytes area)
unfolding write_step write_area
write_done b q bytes area after at er ea ef = (rw (eq-eqb _ _ er, ← ea), rw (eq-eqb _ _ er) ef)
