-- The change column of the refusal table: only 3 and 13 change anything.
use Rattle.std.proofs.Common.{◌≡◌, ℕ, Bool, true, false, cond, eqb, refl}
use Rattle.refusals.specs.declared.Refusal.{Refusal}
use Rattle.refusals.specs.declared.Refusal.TheVariants.{Setting, NoWindow, WrongBurst, LinkDown, ConfigBusy, SlotsUsed, FewTags, TooShort, OffsetOver, NotRouted, WrongDevice, Malformed, NotExpected, NotFinished, WrongData}
use Rattle.refusals.specs.Refusals.{number_of}
use Rattle.refusals.specs.Table.{Row, keeps, change_of}

either : (x : Bool) (r s : Row) → r.change ≡ keeps → s.change ≡ keeps → (cond x r s).change ≡ keeps
either true r s e f = e
either false r s e f = f

passed : (x : Bool) (r s : Row) → x ≡ false → s.change ≡ keeps → (cond x r s).change ≡ keeps
passed true r s e f = cc
passed false r s e f = f

-- of any number, which need not stand in the table
pub other_number_keeps : (n : ℕ) → eqb n 3 ≡ false → eqb n 13 ≡ false → change_of n ≡ keeps
other_number_keeps n a b =
    either (eqb n 1) _ _ refl (either (eqb n 2) _ _ refl (passed _ _ _ a (either (eqb n 4) _ _ refl (either (eqb n 5) _ _ refl (either (eqb n 6) _ _ refl (either (eqb n 7) _ _ refl (either (eqb n 8) _ _ refl (either (eqb n 9) _ _ refl (either (eqb n 10) _ _ refl (either (eqb n 11) _ _ refl (either (eqb n 12) _ _ refl (passed _ _ _ b (either (eqb n 14) _ _ refl (either (eqb n 15) _ _ refl (refl)))))))))))))))

-- of a refusal
pub other_keeps : (r : Refusal) → (r ≡ WrongBurst → ⊥) → (r ≡ NotExpected → ⊥) → change_of (number_of r) ≡ keeps
other_keeps Setting a b = refl
other_keeps NoWindow a b = refl
other_keeps WrongBurst a b = absurd (a refl)
other_keeps LinkDown a b = refl
other_keeps ConfigBusy a b = refl
other_keeps SlotsUsed a b = refl
other_keeps FewTags a b = refl
other_keeps TooShort a b = refl
other_keeps OffsetOver a b = refl
other_keeps NotRouted a b = refl
other_keeps WrongDevice a b = refl
other_keeps Malformed a b = refl
other_keeps NotExpected a b = absurd (b refl)
other_keeps NotFinished a b = refl
other_keeps WrongData a b = refl
