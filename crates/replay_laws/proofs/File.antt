-- C2: the streaming reader is the file's reader.
use Prim.Native.Nat.{ℕ, zero, suc, ◌+◌, ◌≤◌, ◌<◌, ◌^◌}
use mathlib.Core.Path.{◌≡◌, refl, sym, ap, ap₂, ◌∙◌, subst₂}
use mathlib.Core.List.{List, [], ◌∷◌, ◌++◌, append-nil, append_assoc}
use mathlib.Core.Option.{none, some}
use mathlib.Core.Bool.{false}
use native.Mathlib.Nat.{min-eq_left, suc-ne-zero, not-suc-le-zero}
use native.Mathlib.Omega.{arith}
use lib.ListN.{length, drop, length-append}
use lib.Seq.{drop-append_seam}
use Rattle.records.specs.declared.Phase.TheVariants.{Reading, Ended, Bad}
use Rattle.records.specs.Events.{Captured}
use Rattle.records.specs.Reading.{Next, more, bad, end, event, next}
use Rattle.records.specs.File.{File, with_event, file_by, file_from}
use Rattle.records.specs.Stream.{Reader, reader, is_reading, capped, Pushed, pushed, pushed_by, push, Fed, fed, listed, feed}
use Rattle.records.proofs.Judged.{judged_stays}
use Rattle.records.proofs.Known.{whole_is_there}
use Rattle.replay_laws.specs.Stream.{Says, StreamIsFile}
use Rattle.replay_laws.proofs.Cuts.{feed_nothing}
use Rattle.replay_laws.proofs.Sizes.{just_whole}

no_path : {A : Type 0} → ◌≡◌ {A = ℕ} 0 1 → A
no_path e = absurd (suc-ne-zero 0 (sym e))

-- what a reader gave is what a file holds
record Gives (x : Fed) (f : File) : Type 0 where
  events : x.events ≡ f.events
  verdict : Says x.reader f.verdict

-- ---- a byte

abbrev onto : List ℕ → Pushed → Fed
onto s x = fed (feed x.reader s).reader (listed x.event ++ (feed x.reader s).events)

-- while it reads
push_by : (at n : ℕ) (h : List ℕ) (b : ℕ) (x : Next) → next n (h ++ b ∷ []) ≡ x
    → push (reader at n h Reading) b ≡ pushed_by (reader at n h Reading) (h ++ b ∷ []) x
unfolding push
push_by at n h b x e = ap (pushed_by (reader at n h Reading) (h ++ b ∷ [])) e

feed_by : (at n : ℕ) (h : List ℕ) (b : ℕ) (s : List ℕ) (x : Next) → next n (h ++ b ∷ []) ≡ x
    → feed (reader at n h Reading) (b ∷ s) ≡ onto s (pushed_by (reader at n h Reading) (h ++ b ∷ []) x)
feed_by at n h b s x e = ap (onto s) (push_by at n h b x e)

-- ---- the file's side

-- what is judged with the byte is judged so with all that follows
judged : (n : ℕ) (h : List ℕ) (b : ℕ) (s : List ℕ) (x : Next) → next n (h ++ b ∷ []) ≡ x → (x ≡ more → ⊥)
    → next n (h ++ b ∷ s) ≡ x
judged n h b s x e no_more =
    ap (next n) (sym (append_assoc h (b ∷ []) s)) ∙ judged_stays n (h ++ b ∷ []) s (λ m. no_more (sym e ∙ m)) ∙ e

abbrev behind : ℕ → ℕ → ℕ → List ℕ → ℕ → File
behind turns n at s size = file_from turns (n + 1) (at + size) (drop size s)

file_by_lem : (turns n at : ℕ) (s : List ℕ) (x : Next) → next n s ≡ x → file_from (suc turns) n at s ≡ file_by n at (behind turns n at s) x
file_by_lem turns n at s x e = ap (file_by n at (behind turns n at s)) e

-- ---- both

gives : {x y : Fed} {f g : File} → x ≡ y → f ≡ g → Gives y g → Gives x f
gives e i p = subst₂ Gives (sym e) (sym i) p

-- a reader with the bytes h of a record that is not yet judged, n events before it and its offset
abbrev From : List ℕ → Type 0
From s =
    (turns n at : ℕ) (h : List ℕ) → next n h ≡ more → n ≤ at → at + (length h + length s) < 2 ^ 64 → length h + length s ≤ turns
    → Gives (feed (reader at n h Reading) s) (file_from turns n at (h ++ s))

-- it has stopped
stops : (r : Reader) (s : List ℕ) → is_reading r.phase ≡ false → onto s (pushed r none) ≡ fed r []
stops r s e = feed_nothing r s e

within : (x : ℕ) → x < 2 ^ 64 → capped x ≡ x
within x l = min-eq_left (omega arith)

module _ (b : ℕ) (s : List ℕ) (rest : From s) (turns n at : ℕ) (h : List ℕ)
    (m : next n h ≡ more) (few : n ≤ at) (short : at + (length h + suc (length s)) < 2 ^ 64) (enough : length h + suc (length s) ≤ suc turns) where
  longer : length (h ++ b ∷ []) ≡ length h + 1
  longer = length-append h (b ∷ [])

  event_by_lem : (e : Captured) (size : ℕ) → next n (h ++ b ∷ []) ≡ event e size
      → Gives (onto s (pushed_by (reader at n h Reading) (h ++ b ∷ []) (event e size)))
      (with_event e (behind turns n at (h ++ b ∷ s) size))
  unfolding next
  event_by_lem e size i =
      let z : size ≡ length (h ++ b ∷ []) = just_whole n h b e size m i in
      let head = (whole_is_there n (h ++ b ∷ []) e size i).0 in
      let x = rest turns (n + 1) (at + size) [] refl (omega (arith, head)) (omega (arith, z, longer)) (omega arith) in
      let left : drop size (h ++ b ∷ s) ≡ s =
      ap₂ drop z (sym (append_assoc h (b ∷ []) s)) ∙ drop-append_seam (h ++ b ∷ []) s in
      gives
      (ap₂ (λ (i j : ℕ). onto s (pushed (reader i j [] Reading) (some e))) (within (at + size) (omega (arith, z, longer))) (within (n + 1) (omega (arith, head, z, longer))))
      (ap (λ (l : List ℕ). with_event e (file_from turns (n + 1) (at + size) l)) left)
      (record { events = ap (λ (l : List Captured). e ∷ l) x.events; verdict = x.verdict })

  step_by : (x : Next) → next n (h ++ b ∷ []) ≡ x → Gives (feed (reader at n h Reading) (b ∷ s)) (file_from (suc turns) n at (h ++ b ∷ s))
  step_by more e =
      gives (feed_by at n h b s more e) (ap (file_from (suc turns) n at) (sym (append_assoc h (b ∷ []) s)))
      (rest (suc turns) n at (h ++ b ∷ []) e few (omega (arith, longer)) (omega (arith, longer)))
  step_by (bad f) e =
      gives (feed_by at n h b s (bad f) e ∙ stops (reader at n [] (Bad f)) s refl)
      (file_by_lem turns n at (h ++ b ∷ s) (bad f) (judged n h b s (bad f) e (λ (i : bad f ≡ more). no_path (cc))))
      (record { events = refl; verdict = (refl, refl) })
  step_by end e =
      gives (feed_by at n h b s end e ∙ stops (reader at n [] Ended) s refl)
      (file_by_lem turns n at (h ++ b ∷ s) end (judged n h b s end e (λ (i : end ≡ more). no_path (cc))))
      (record { events = refl; verdict = (refl, refl) })
  step_by (event e size) i =
      gives (feed_by at n h b s (event e size) i)
      (file_by_lem turns n at (h ++ b ∷ s) (event e size) (judged n h b s (event e size) i (λ (z : event e size ≡ more). no_path (cc))))
      (event_by_lem e size i)

from : (s : List ℕ) → From s
from [] zero n at h m few short enough = record { events = refl; verdict = (refl, refl) }
from [] (suc turns) n at h m few short enough =
    gives refl (file_by_lem turns n at (h ++ []) more (ap (next n) (append-nil h) ∙ m)) (record { events = refl; verdict = (refl, refl) })
from (b ∷ s) zero n at h m few short enough = absurd (not-suc-le-zero {n = 0} (omega arith))
from (b ∷ s) (suc turns) n at h m few short enough =
    step_by b s (from s) turns n at h m few short enough (next n (h ++ b ∷ [])) refl

pub stream_is_file : StreamIsFile
unfolding next
stream_is_file s l =
    let x = from s (length s) 0 0 [] refl (omega arith) (omega arith) (omega arith) in
    record { events = x.events; verdict = x.verdict }
