-- One byte on the buffer is one byte of the definition.
use mathlib.Core.Path.{◌≡◌, refl, sym, ap, ◌∙◌, subst}
use mathlib.Core.List.{List, [], ◌∷◌, ◌++◌}
use mathlib.Core.Option.{none, some}
use mathlib.Core.Bool.{true}
use Prim.Native.Nat.{ℕ, ◌+◌, ◌≤◌, ◌<◌, min}
use native.Mathlib.Numerals.{add-one}
use native.Mathlib.Omega.{arith}
use lib.ListN.{length, take, set, length-append}
use lib.Seq.{take-suc-set, take-take, length-take-le}
use Rattle.records.specs.declared.Found.{Found}
use Rattle.records.specs.declared.Found.TheVariants as found
use Rattle.records.specs.declared.Reader.{Reader}
use Rattle.records.specs.declared.Phase.TheVariants.{Reading}
use Rattle.records.specs.Reading.{Next, next}
use Rattle.records.specs.Stream as stream
use Rattle.records.specs.Stream.{is_reading, pushed, pushed_by, push}
use Rattle.records.specs.Code.Meaning.{meant, captured, reader_of}
use Rattle.records.specs.Code.Steps.{event_of, moved_on, settled}
use Rattle.records.proofs.Judged.{more_is_short}
use Rattle.records.proofs.Known.{whole_is_there}

-- a reader that reads goes by what the bytes begin with
pub push_reading : (r : stream.Reader) (b : ℕ) → is_reading r.phase ≡ true → push r b ≡ pushed_by r (r.held ++ b ∷ []) (next r.events (r.held ++ b ∷ []))
unfolding push
push_reading r b e = rw e

-- s the record with its new byte, in a buffer that begins with it
settles : (r : Reader) (bytes before s buffer : List ℕ) (f : Found) → take (length s) buffer ≡ s → next r.events s ≡ meant s f → pushed (reader_of (settled r (length s) f).reader buffer) (event_of bytes buffer (settled r (length s) f).got) ≡ pushed_by (reader_of r before) s (meant s f)
settles r bytes before s buffer found.More t e =
    let m : min (length s) 4114 ≡ length s = omega (arith, more_is_short r.events s e) in
    ap (λ (x : List ℕ). pushed (stream.reader r.at r.events x Reading) none) (ap (λ (x : ℕ). take x buffer) m ∙ t)
settles r bytes before s buffer (found.Bad f) t e = refl
settles r bytes before s buffer found.End t e = refl
settles r bytes before s buffer (found.Whole c size) t e =
    let h = (whole_is_there r.events s (captured c (take size s)) size e).1 in
    ap (λ (x : List ℕ). pushed (reader_of (moved_on r size) buffer) (some (captured c x)))
    (sym (take-take size (length s) buffer h) ∙ ap (λ (x : List ℕ). take size x) t)

-- a byte stored behind those that have come
pub pushes : (r : Reader) (bytes buffer : List ℕ) (b have : ℕ) (f : Found) → 4115 ≤ length buffer → is_reading r.phase ≡ true → have ≡ min r.have 4114 → meant (take (have + 1) (set buffer have b)) f ≡ next r.events (take (have + 1) (set buffer have b)) → pushed (reader_of (settled r (have + 1) f).reader (set buffer have b)) (event_of bytes (set buffer have b) (settled r (have + 1) f).got) ≡ push (reader_of r buffer) b
pushes r bytes buffer b have f long p h e =
    let k : have < length buffer = omega (arith, long, h) in
    let s = take have buffer ++ b ∷ [] in
    let t : take (have + 1) (set buffer have b) ≡ s = rw (add-one have) (take-suc-set buffer have b k) in
    let n : length s ≡ have + 1 = length-append (take have buffer) (b ∷ []) ∙ ap (λ (x : ℕ). x + 1) (length-take-le have buffer (omega (arith, k))) in
    let e' : next r.events s ≡ meant s f = subst (λ (x : List ℕ). next r.events x ≡ meant x f) t (sym e) in
    subst
    (λ (x : ℕ). pushed (reader_of (settled r x f).reader (set buffer have b)) (event_of bytes (set buffer have b) (settled r x f).got) ≡ pushed_by (reader_of r buffer) s (meant s f))
    n (settles r bytes buffer s (set buffer have b) f (ap (λ (x : ℕ). take x (set buffer have b)) n ∙ t) e')
    ∙ ap (λ (x : Next). pushed_by (reader_of r buffer) s x) (sym e')
    ∙ ap (λ (x : ℕ). pushed_by (reader_of r buffer) (take x buffer ++ b ∷ []) (next r.events (take x buffer ++ b ∷ []))) h
    ∙ sym (push_reading (reader_of r buffer) b p)

pub settled_one : (r : Reader) (have : ℕ) (f : Found) → (settled r have f).used ≡ 1
settled_one r have found.More = refl
settled_one r have (found.Bad f) = refl
settled_one r have found.End = refl
settled_one r have (found.Whole c size) = refl
