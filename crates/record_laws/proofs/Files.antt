-- C5, whole files: records one behind the other are read as their events.
use mathlib.Core.Path.{◌≡◌, refl, sym, ap, subst, ◌∙◌}
use mathlib.Core.Bool.{true}
use mathlib.Core.List.{List, [], ◌∷◌, ◌++◌, append_assoc, append-nil, flat_map}
use Prim.Native.Nat.{ℕ, zero, suc, ◌+◌, ◌^◌, ◌≤◌, ◌<◌}
use native.Mathlib.Omega.{arith}
use lib.ListN.{length, drop, length-append}
use lib.Seq.{drop-append_seam}
use Rattle.records.specs.Events.{Captured, kind_of, values_of, plain_of}
use Rattle.records.specs.Writing.{holds, record_of, end_record}
use Rattle.records.specs.Reading.{next}
use Rattle.records.specs.File.{Verdict, ended, cut, File, no_events, with_event, file_by, file_from, file}
use Rattle.record_laws.specs.Codec.{AllHold, records_of, FilesReadBack}
use Rattle.record_laws.proofs.Records.{length_record}
use Rattle.record_laws.proofs.Written.{reads_back, ends_read_back}

record_long : (e : Captured) → 3 ≤ length (record_of e)
unfolding record_of
record_long e = omega (arith, length_record (kind_of e) (values_of e) (plain_of e))

end_long : (n : ℕ) → 3 ≤ length (end_record n)
unfolding end_record
end_long n = omega (arith, length_record 0 (n ∷ []) [])

-- as many turns as there are bytes are enough, and more give the same
abbrev FromTurns : List ℕ → ℕ → File → Type 0
FromTurns s n f = (turns at : ℕ) → length s ≤ turns → file_from turns n at s ≡ f

-- a record, and the file behind it
record_then : (e : Captured) (rest : List ℕ) (n : ℕ) (f : File) → holds e ≡ true
    → FromTurns rest (n + 1) f
    → FromTurns (record_of e ++ rest) n (with_event e f)
record_then e rest n f h k zero at t = absurd (omega (arith, record_long e, length-append (record_of e) rest))
record_then e rest n f h k (suc turns) at t =
    let size = length (record_of e) in
    let l : length rest ≤ turns = omega (arith, record_long e, length-append (record_of e) rest) in
    ap (file_by n at (λ (x : ℕ). file_from turns (n + 1) (at + x) (drop x (record_of e ++ rest)))) (reads_back e h n rest)
    ∙ ap (with_event e) (rw (drop-append_seam (record_of e) rest) (k turns (at + size) l))

-- records, and what the bytes behind them give after so many events
records_then : (tail : List ℕ) (v : Verdict) (es : List Captured) (n m : ℕ) → AllHold es → n + length es ≡ m
    → FromTurns tail m (no_events v)
    → FromTurns (records_of es ++ tail) n (record { events = es; verdict = v })
unfolding flat_map
records_then tail v [] n m a c h =
    let e : m ≡ n = omega arith in
    subst (λ (x : ℕ). FromTurns tail x (no_events v)) e h
records_then tail v (e ∷ es) n m a c h =
    let k = records_then tail v es (n + 1) m a.1 (omega arith) h in
    rw (append_assoc (record_of e) (records_of es) tail) (record_then e (records_of es ++ tail) n (record { events = es; verdict = v }) a.0 k)

end_tail : (n : ℕ) (z : List ℕ) → n < 2 ^ 32 → FromTurns (end_record n ++ z) n (no_events (ended n))
end_tail n z h zero at t = absurd (omega (arith, end_long n, length-append (end_record n) z))
end_tail n z h (suc turns) at t =
    ap (file_by n at (λ (x : ℕ). file_from turns (n + 1) (at + x) (drop x (end_record n ++ z)))) ((ends_read_back n h).right z)

no_tail : (n : ℕ) → FromTurns [] n (no_events (cut n))
unfolding next
no_tail n zero at t = refl
no_tail n (suc turns) at t = refl

file_of_lem : (tail : List ℕ) (v : Verdict) (es : List Captured) → AllHold es
    → FromTurns tail (length es) (no_events v)
    → file (records_of es ++ tail) ≡ record { events = es; verdict = v }
file_of_lem tail v es a h = records_then tail v es 0 (length es) a (omega arith) h (length (records_of es ++ tail)) 0 (omega arith)

pub files_read_back : FilesReadBack
files_read_back es a =
    let n = length es in
    record {
      whole = λ h z. ap file (append_assoc (records_of es) (end_record n) z) ∙ file_of_lem (end_record n ++ z) (ended n) es a (end_tail n z h);
      unended = ap file (sym (append-nil (records_of es))) ∙ file_of_lem [] (cut n) es a (no_tail n);
    }
