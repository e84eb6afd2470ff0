-- The methods are `step` at their events.
use Prim.Native.Nat.{ℕ}
use mathlib.Core.Path.{◌≡◌, refl, sym}
use mathlib.Core.List.{List, []}
use mathlib.Core.Bool.{Bool, true, false, cond}
use lib.ListN.{length}
use lib.Dec.{eqb}
use borrow.Author.Tests.{eqb-true}
use Rattle.machine.specs.State.{accepted, refusal}
use Rattle.machine.specs.Memory.{filled, read_refusal, read_bytes, read_area, write_refusal, write_bytes, write_area}
use Rattle.machine.specs.Config.{access_of, config_refusal, config_bytes, config_area}
use Rattle.machine.specs.Completions.{plain}
use Rattle.machine.specs.Take.{take_refusal}
use Rattle.trace.specs.Methods.{Methods}

area_by : (z : Bool) (bytes area : List ℕ) → cond z (filled bytes area) area ≡ filled (cond z bytes []) area
area_by true bytes area = refl
area_by false bytes area = refl

plain_by : (n : ℕ) (z : Bool) → eqb n 0 ≡ z → (plain n).number ≡ n
unfolding accepted refusal
plain_by n true e = rw e (sym (eqb-true _ _ e))
plain_by n false e = rw e

pub methods : Methods
unfolding read_area write_area config_area
methods = record {
  read = λ b store q area.
      record { bridge = refl; answer = refl; store_after = refl; area_after = area_by (eqb (read_refusal b q (length area)) 0) (read_bytes b q) area };
  write = λ b store q bytes area.
      record {
        bridge = refl;
        answer = refl;
        store_after = refl;
        area_after = area_by (eqb (write_refusal b q (length bytes) (length area)) 0) (write_bytes b.settings q bytes (length area)) area;
      };
  config = λ b store offset w strobes word area.
      let a = access_of offset w strobes word in
      record { bridge = refl; answer = refl; store_after = refl; area_after = area_by (eqb (config_refusal b a (length area)) 0) (config_bytes b a) area };
  complete = λ b store i s. record { bridge = refl; answer = refl; store_after = refl; area_after = refl };
  tick = λ b store. record { bridge = refl; answer = refl; store_after = refl; area_after = refl };
  link = λ b store up. record { bridge = refl; answer = refl; store_after = refl; area_after = refl };
  release = λ b store k. record { bridge = refl; answer = refl; store_after = refl; area_after = refl };
  message = λ b store m. record { bridge = refl; answer = refl; store_after = refl; area_after = refl };
  look = λ b store k. (refl, refl, plain_by (take_refusal b (length store) k) (eqb (take_refusal b (length store) k) 0) refl);
}
