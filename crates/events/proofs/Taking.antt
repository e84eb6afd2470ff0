-- A refusal's number is none of an accepted call, and what an accepted look or release has passed.
use Rattle.std.proofs.Common.{◌≡◌, ℕ, ◌≤◌, Bool, true, false, cond, eqb, ltb, refl, arith, ltb-false}
use Rattle.refusals.specs.declared.Refusal.{Refusal}
use Rattle.refusals.specs.declared.Refusal.TheVariants.{Setting, NoWindow, WrongBurst, LinkDown, ConfigBusy, SlotsUsed, FewTags, TooShort, OffsetOver, NotRouted, WrongDevice, Malformed, NotExpected, NotFinished, WrongData}
use Rattle.refusals.specs.Refusals.{number_of}
use Rattle.parts.specs.Sizes.{store_size}
use Rattle.parts.specs.Numbers.{take_number}

pub is_refused : (r : Refusal) → eqb (number_of r) 0 ≡ false
is_refused Setting = refl
is_refused NoWindow = refl
is_refused WrongBurst = refl
is_refused LinkDown = refl
is_refused ConfigBusy = refl
is_refused SlotsUsed = refl
is_refused FewTags = refl
is_refused TooShort = refl
is_refused OffsetOver = refl
is_refused NotRouted = refl
is_refused WrongDevice = refl
is_refused Malformed = refl
is_refused NotExpected = refl
is_refused NotFinished = refl
is_refused WrongData = refl

long_by : (t : Bool) (n : ℕ) → cond t 8 n ≡ 0 → t ≡ false
long_by true n e = let z : ◌≡◌ {A = ℕ} 8 0 = e in absurd (omega (arith, z))
long_by false n e = refl

-- the store is long enough
pub long_store : (room found : ℕ) → take_number room found ≡ 0 → store_size ≤ room
unfolding take_number
long_store room found e = ltb-false _ _ (long_by (ltb room store_size) _ e)
