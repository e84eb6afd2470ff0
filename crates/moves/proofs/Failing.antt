-- A failure is noted in its slot and its decode bit alone: what is kept by tag stays.
use Rattle.std.proofs.Common.{◌≡◌, ℕ, Bool, true, false, cond, ltb, refl}
use Rattle.verdict.specs.declared.Cause.{Cause}
use Rattle.machine.specs.Bridge.{Bridge, set_fault, set_cause, fault_of}
use Rattle.machine.specs.Completions.{failed, faulted}

missing_by : (t : Bool) (k place code : ℕ) (b : Bridge) → (cond t (set_fault k place (set_cause k code b)) b).missing ≡ b.missing
missing_by true k place code b = refl
missing_by false k place code b = refl

place_by : (t : Bool) (k place code : ℕ) (b : Bridge) → (cond t (set_fault k place (set_cause k code b)) b).place ≡ b.place
place_by true k place code b = refl
place_by false k place code b = refl

pub missing_stays : (k place : ℕ) (why : Cause) (b : Bridge) → (failed k place why b).missing ≡ b.missing
unfolding failed faulted
missing_stays k place why b = missing_by (ltb place (fault_of b k)) k place _ b

pub place_stays : (k place : ℕ) (why : Cause) (b : Bridge) → (failed k place why b).place ≡ b.place
unfolding failed faulted
place_stays k place why b = place_by (ltb place (fault_of b k)) k place _ b
