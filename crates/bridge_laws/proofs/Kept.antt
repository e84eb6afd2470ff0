-- What calls leave as it was.
use mathlib.Core.Path.{◌≡◌, refl, ap, ◌∙◌}
use mathlib.Core.Bool.{Bool, true, false, cond}
use mathlib.Core.Logic.{◌≢◌}
use Prim.Native.Nat.{ℕ}
use borrow.Author.Tests.{ne_eqb, eqb-true, eqb-false}
use lib.ListN.{length}
use lib.Dec.{eqb}
use Rattle.burst.specs.declared.Burst.{Burst}
use Rattle.refusals.specs.Table.{Change}
use Rattle.parts.specs.Cores.{Core}
use Rattle.parts.specs.Answers.{changed}
use Rattle.machine.specs.Bridge.{Bridge}
use Rattle.machine.specs.State.{core_in, raise, free_slot, refusal_change, refusal, refused}
use Rattle.machine.specs.Memory.{pieces_of, read_refusal, claimed, read_step, read_area, write_refusal, write_step, write_area}
use Rattle.machine.proofs.Refusals.{read_ok}
use Rattle.bridge_laws.specs.MemoryLaws.{AcceptedReadKeeps, RefusedRead, RefusedWrite}
use Rattle.bridge_laws.proofs.Changes.{other_keeps}
use Rattle.bridge_laws.proofs.Verbs.{claimed_alone}
use Rattle.bridge_laws.proofs.Pieces.{opens_all, opens_slot}

-- ---- refusals

-- the rows of a memory call do not give 13
off : (t : Bool) (n r : ℕ) → n ≢ 13 → r ≢ 13 → cond t n r ≢ 13
off true n r h g = h
off false n r h g = g

small : (n : ℕ) → eqb n 13 ≡ false → n ≢ 13
small n e = eqb-false n 13 e

read_not_13 : (b : Bridge) (q : Burst) (room : ℕ) → read_refusal b q room ≢ 13
unfolding read_refusal
read_not_13 b q room = search (off, small) depth 12

write_not_13 : (b : Bridge) (q : Burst) (len room : ℕ) → write_refusal b q len room ≢ 13
unfolding write_refusal
write_not_13 b q len room = search (off, small) depth 12

change_by : (x : Bool) (n : ℕ) (b : Bridge) → (n ≡ 13 → ⊥) → eqb n 3 ≡ x → core_in (refusal_change n b.core) b ≡ cond x (raise 25 b) b
unfolding refusal_change
change_by true n b h e = ap (λ (x : ℕ). core_in (refusal_change x b.core) b) (eqb-true n 3 e)
change_by false n b h e = ap (λ (x : Change). core_in (changed x b.core) b) (other_keeps n e (ne_eqb n 13 h))

refused_keeps : (n : ℕ) (b : Bridge) → (n ≡ 13 → ⊥) → ((refused n b).bridge ≡ cond (eqb n 3) (raise 25 b) b) × ((refused n b).answer ≡ refusal n)
unfolding refused
refused_keeps n b h = (change_by (eqb n 3) n b h refl, refl)

pub refused_read : RefusedRead
unfolding read_step read_area
refused_read b q area h =
    let k = refused_keeps (read_refusal b q (length area)) b (read_not_13 b q (length area)) in
    (rw (ne_eqb _ _ h) k.0, rw (ne_eqb _ _ h) k.1, rw (ne_eqb _ _ h))

pub refused_write : RefusedWrite
unfolding write_step write_area
refused_write b q bytes area h =
    let k = refused_keeps (write_refusal b q (length bytes) (length area)) b (write_not_13 b q (length bytes) (length area)) in
    (rw (ne_eqb _ _ h) k.0, rw (ne_eqb _ _ h) k.1, rw (ne_eqb _ _ h))

-- ---- an accepted read

pub accepted_read_keeps : AcceptedReadKeeps
accepted_read_keeps b q room e =
    let a = claimed_alone (free_slot b) q b in
    let o = opens_all (free_slot b) q (claimed (free_slot b) q b) (pieces_of b.settings.reads q) (rw a.core (read_ok b q room e).tags) in
    record {
      settings = o.settings ∙ a.settings;
      registers = o.registers ∙ ap (λ (c : Core). c.registers) a.core;
      ticks = o.ticks ∙ ap (λ (c : Core). c.ticks) a.core;
      counter = o.session ∙ ap (λ (c : Core). c.session) a.core;
      config = o.config ∙ ap (λ (c : Core). c.config) a.core;
      slots = λ k d. opens_slot o k ∙ a.slots k d;
      free = λ t f. o.used t (rw a.core f);
      tags = λ t f. o.tags t (rw a.core f) ∙ a.tags t;
    }
