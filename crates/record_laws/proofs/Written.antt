-- C5, one record: what is written for an event or an end is read as it.
use mathlib.Core.Path.{◌≡◌, refl, sym, ap, ◌∙◌}
use mathlib.Core.Bool.{Bool, true, false, cond}
use mathlib.Core.List.{List, [], ◌∷◌, ◌++◌}
use Prim.Native.Nat.{ℕ, ◌+◌, ◌-◌, ◌^◌, ◌<◌}
use native.Mathlib.Omega.{arith}
use lib.Dec.{leb, eqb, lit<}
use borrow.Author.Tests.{lt-ltb, leb-true, eq-eqb, ne_eqb}
use Rattle.common.proofs.Tests.{and_left, and_right}
use Rattle.burst.specs.declared.Burst.{Burst}
use Rattle.tlp.specs.Bytes.{flag}
use Rattle.records.specs.declared.Fault.TheVariants.{Count}
use Rattle.records.specs.Events.{Captured, read, write, config_read, config_write, completion, link, tick, take, kind_of, values_of, plain_of, burst_values, burst_of, event_of}
use Rattle.records.specs.Writing.{some_beats, fits_kind, holds, record_of, end_record}
use Rattle.records.specs.Reading.{bad, end, next}
use Rattle.record_laws.specs.Codec.{ReadsBack, EndsReadBack}
use Rattle.record_laws.proofs.Records.{whole_there, record_there}

-- ---- an event is the event of its kind, values and plain bytes

burst_back : (q : Burst) → leb 1 q.beats ≡ true → burst_of (burst_values q) ≡ q
burst_back q b =
    let h = leb-true 1 q.beats b in
    let e : q.beats - 1 + 1 ≡ q.beats = omega arith in
    rw e

flag_back : (up : Bool) → eqb (flag up) 1 ≡ up
flag_back false = refl
flag_back true = refl

event_back : (e : Captured) → some_beats e ≡ true → event_of (kind_of e) (values_of e) (plain_of e) ≡ e
event_back (read q) b = ap read (burst_back q b)
event_back (write q d) b = ap (λ (x : Burst). write x d) (burst_back q b)
event_back (config_read offset) b = refl
event_back (config_write offset strobes word) b = refl
event_back (completion packet) b = refl
event_back (link up) b = ap link (flag_back up)
event_back tick b = refl
event_back (take slot) b = refl

-- an event's kind is one of the seven
pub kind_some : (e : Captured) → (eqb (kind_of e) 0 ≡ false) × (kind_of e < 8)
kind_some (read q) = (refl, lit< tt)
kind_some (write q d) = (refl, lit< tt)
kind_some (config_read offset) = (refl, lit< tt)
kind_some (config_write offset strobes word) = (refl, lit< tt)
kind_some (completion packet) = (refl, lit< tt)
kind_some (link up) = (refl, lit< tt)
kind_some tick = (refl, lit< tt)
kind_some (take slot) = (refl, lit< tt)

-- ---- read back

pub reads_back : ReadsBack
unfolding holds record_of
reads_back e h n z =
    let k = kind_of e in
    let v = values_of e in
    let p = plain_of e in
    let f = and_right (some_beats e) (fits_kind k v p) h in
    record_there k v p z f n (kind_some e).1
    ∙ (whole_there k v p z f n ∙ rw ((kind_some e).0, event_back e (and_left (some_beats e) (fits_kind k v p) h)))

pub end_fits : (n : ℕ) → n < 2 ^ 32 → fits_kind 0 (n ∷ []) [] ≡ true
end_fits n h = rw (lt-ltb n (2 ^ 32) h)

module _ (n : ℕ) (h : n < 2 ^ 32) where
  end_there : (m : ℕ) (z : List ℕ) → next m (end_record n ++ z) ≡ cond (eqb n m) end (bad Count)
  unfolding end_record
  end_there m z = record_there 0 (n ∷ []) [] z (end_fits n h) m (lit< tt) ∙ whole_there 0 (n ∷ []) [] z (end_fits n h) m

pub ends_read_back : EndsReadBack
ends_read_back n h =
    record {
      right = λ z. end_there n h n z ∙ rw (eq-eqb n n refl);
      wrong = λ m z d. end_there n h m z ∙ rw (ne_eqb n m (λ e. d (sym e)));
    }
