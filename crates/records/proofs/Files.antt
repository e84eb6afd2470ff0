-- A file, one record after the other.
use mathlib.Core.Path.{◌≡◌, refl, sym, ap, ◌∙◌}
use mathlib.Core.List.{List, [], ◌∷◌}
use Prim.Native.Nat.{ℕ, zero, suc, ◌+◌, ◌-◌, ◌≤◌, zero-le}
use native.Mathlib.Nat.{add-zero}
use native.Mathlib.Omega.{arith}
use lib.ListN.{length, take, drop, length-drop}
use lib.Seq.{take_all, drop-drop}
use Rattle.records.specs.declared.Event.{Event}
use Rattle.records.specs.declared.Found.{Found}
use Rattle.records.specs.declared.Found.TheVariants.{More, Bad, End, Whole}
use Rattle.records.specs.declared.Fault.{Fault}
use Rattle.records.specs.Events.{Captured}
use Rattle.records.specs.Reading.{Next, more, bad, end, event, next}
use Rattle.records.specs.File as file
use Rattle.records.specs.File.{Verdict, File, no_events, with_event, ended, cut, file_by, file_from}
use Rattle.records.specs.Code.Meaning.{meant, captured}
use Rattle.records.proofs.Known.{whole_is_there}

no_bytes : (n : ℕ) → next n [] ≡ more
unfolding next
no_bytes n = refl

-- what follows a record matters only where there is one
same_by : (n at : ℕ) (s : List ℕ) (a b : ℕ → File)
    → ((e : Captured) (size : ℕ) → next n s ≡ event e size → a size ≡ b size)
    → (x : Next) → next n s ≡ x → file_by n at a x ≡ file_by n at b x
same_by n at s a b h more e = refl
same_by n at s a b h (bad f) e = refl
same_by n at s a b h end e = refl
same_by n at s a b h (event c size) e = ap (with_event c) (h c size e)

-- the rest behind a record is shorter
shorter : (n : ℕ) (s : List ℕ) (e : Captured) (size t : ℕ) → next n s ≡ event e size → length s ≤ suc t → length (drop size s) ≤ t
shorter n s e size t h l = omega (arith, whole_is_there n s e size h, length-drop size s, l)

-- turns to spare change nothing
enough : (t u n at : ℕ) (s : List ℕ) → length s ≤ t → length s ≤ u → file_from t n at s ≡ file_from u n at s
enough zero zero n at s h k = refl
enough zero (suc u) n at [] h k =
    sym (ap (file_by n at (λ (size : ℕ). file_from u (n + 1) (at + size) (drop size []))) (no_bytes n))
enough zero (suc u) n at (b ∷ s) h k = absurd (omega (arith, h))
enough (suc t) zero n at [] h k =
    ap (file_by n at (λ (size : ℕ). file_from t (n + 1) (at + size) (drop size []))) (no_bytes n)
enough (suc t) zero n at (b ∷ s) h k = absurd (omega (arith, k))
enough (suc t) (suc u) n at s h k =
    same_by n at s (λ (size : ℕ). file_from t (n + 1) (at + size) (drop size s)) (λ (size : ℕ). file_from u (n + 1) (at + size) (drop size s))
    (λ e size q. enough t u (n + 1) (at + size) (drop size s) (shorter n s e size t q h) (shorter n s e size u q k))
    (next n s) refl

-- the file that these bytes are, after n events and `at` bytes
abbrev pub file_at : ℕ → ℕ → List ℕ → File
file_at n at s = file_from (length s) n at s

file_next : (n at : ℕ) (s : List ℕ) → file_at n at s ≡ file_by n at (λ (size : ℕ). file_at (n + 1) (at + size) (drop size s)) (next n s)
file_next n at [] = sym (ap (file_by n at (λ (size : ℕ). file_at (n + 1) (at + size) (drop size []))) (no_bytes n))
file_next n at (b ∷ t) =
    let s = b ∷ t in
    same_by n at s (λ (size : ℕ). file_from (length t) (n + 1) (at + size) (drop size s)) (λ (size : ℕ). file_at (n + 1) (at + size) (drop size s))
    (λ e size q. enough (length t) (length (drop size s)) (n + 1) (at + size) (drop size s) (shorter n s e size (length t) q (omega arith)) (omega arith))
    (next n s) refl

-- ---- as the code goes through it: n events and `at` bytes of s are read

pub record Far (s : List ℕ) (n at : ℕ) : Type 0 where
  pub there : at ≤ length s
  pub few : n ≤ at
  pub verdict : (file.file s).verdict ≡ (file_at n at (drop at s)).verdict
  pub events : length (file.file s).events ≡ n + length (file_at n at (drop at s)).events

pub start : (s : List ℕ) → Far s 0 0
start s = record { there = zero-le; few = zero-le; verdict = refl; events = omega arith }

-- a part up to the end
pub part_all : (s : List ℕ) (at : ℕ) → take (length s - at) (drop at s) ≡ drop at s
part_all s at = take_all (length s - at) (drop at s) (omega (arith, length-drop at s))

module _ (s : List ℕ) (n at : ℕ) (far : Far s n at) (p : List ℕ) (part : p ≡ drop at s) (f : Found) (m : meant p f ≡ next n p) where
  here : (x : Found) → f ≡ x → next n (drop at s) ≡ meant p x
  here x e = ap (next n) (sym part) ∙ (sym m ∙ ap (meant p) e)

  stops : (v : Verdict) → file_at n at (drop at s) ≡ no_events v → (v ≡ (file.file s).verdict) × (n ≡ length (file.file s).events)
  stops v e = (
    sym (far.verdict ∙ ap (λ (x : File). x.verdict) e),
    sym (far.events ∙ (ap (λ (x : File). n + length x.events) e ∙ add-zero n)),
  )

  abbrev rest : ℕ → File
  rest size = file_at (n + 1) (at + size) (drop size (drop at s))

  pub stops_more : f ≡ More → (cut n ≡ (file.file s).verdict) × (n ≡ length (file.file s).events)
  stops_more e = stops (cut n) (file_next n at (drop at s) ∙ ap (file_by n at rest) (here More e))

  pub stops_bad : (x : Fault) → f ≡ Bad x → (file.bad x at ≡ (file.file s).verdict) × (n ≡ length (file.file s).events)
  stops_bad x e = stops (file.bad x at) (file_next n at (drop at s) ∙ ap (file_by n at rest) (here (Bad x) e))

  pub stops_end : f ≡ End → (ended n ≡ (file.file s).verdict) × (n ≡ length (file.file s).events)
  stops_end e = stops (ended n) (file_next n at (drop at s) ∙ ap (file_by n at rest) (here End e))

  module _ (c : Event) (size : ℕ) (e : f ≡ Whole c size) where
    abbrev x : Captured
    x = captured c (take size p)

    pub sized : (3 ≤ size) × (at + size ≤ length s)
    sized =
        let h = whole_is_there n (drop at s) x size (here (Whole c size) e) in
        (h.0, omega (arith, h.1, length-drop at s, far.there))

    pub goes : Far s (n + 1) (at + size)
    goes =
        let w : file_at n at (drop at s) ≡ with_event x (file_at (n + 1) (at + size) (drop (at + size) s)) =
        file_next n at (drop at s)
        ∙ (ap (file_by n at rest) (here (Whole c size) e)
        ∙ ap (λ (t : List ℕ). with_event x (file_at (n + 1) (at + size) t)) (drop-drop size at s)) in
        record {
          there = sized.1;
          few = omega (arith, sized, far.few);
          verdict = far.verdict ∙ ap (λ (y : File). y.verdict) w;
          events = omega (arith, far.events, ap (λ (y : File). length y.events) w);
        }
