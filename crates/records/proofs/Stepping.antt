-- A record that is all in the input, read in place, is its bytes one by one.
use mathlib.Core.Path.{◌≡◌, refl, sym, ap, ◌∙◌, subst}
use mathlib.Core.List.{List, [], ◌∷◌, ◌++◌, append_assoc}
use mathlib.Core.Option.{Option, some}
use mathlib.Core.Bool.{true}
use Prim.Native.Nat.{ℕ, ◌+◌, ◌<◌, ◌≤◌, min}
use native.Mathlib.Omega.{arith}
use lib.ListN.{length, get_or, take, length-append}
use lib.Seq.{take-append_seam, take-take, length-take-le}
use Rattle.records.specs.declared.Event.{Event}
use Rattle.records.specs.declared.Found.{Found}
use Rattle.records.specs.declared.Found.TheVariants.{Whole}
use Rattle.records.specs.declared.Phase.{Phase}
use Rattle.records.specs.declared.Phase.TheVariants.{Reading, Ended, Bad}
use Rattle.records.specs.declared.Reader as code
use Rattle.records.specs.Events.{Captured}
use Rattle.records.specs.Reading.{Next, more, event, next}
use Rattle.records.specs.Stream.{Reader, reader, is_reading, capped, pushed, pushed_by, push}
use Rattle.records.specs.Code.Meaning.{meant, captured, reader_of}
use Rattle.records.specs.Code.Steps.{Steps, last, then, moved_on}
use Rattle.records.proofs.Known.{whole_is_there, event_known}
use Rattle.records.proofs.Pushing.{push_reading}

-- the reader behind a record of so many bytes
abbrev behind : ℕ → ℕ → ℕ → Reader
behind at n size = reader (capped (at + size)) (capped (n + 1)) [] Reading

push_by : (at n : ℕ) (h : List ℕ) (b : ℕ) (x : Next) → next n (h ++ b ∷ []) ≡ x → push (reader at n h Reading) b ≡ pushed_by (reader at n h Reading) (h ++ b ∷ []) x
push_by at n h b x e =
    push_reading (reader at n h Reading) b refl ∙ ap (λ (y : Next). pushed_by (reader at n h Reading) (h ++ b ∷ []) y) e

-- h the bytes so far, t the others
steps_from : (at n : ℕ) (s : List ℕ) (e : Captured) (size : ℕ) → next n s ≡ event e size → (h : List ℕ) (b : ℕ) (t : List ℕ) → h ++ b ∷ t ≡ take size s → Steps (reader at n h Reading) (b ∷ t) (behind at n size) (some e)
steps_from at n s e size f h b [] w =
    last refl (push_by at n h b (event e size) (ap (λ (x : List ℕ). next n x) w ∙ (event_known n s e size f).alone ∙ f))
steps_from at n s e size f h b (d ∷ t) w =
    let i = h ++ b ∷ [] in
    let w' : i ++ d ∷ t ≡ take size s = append_assoc h (b ∷ []) (d ∷ t) ∙ w in
    let m : length i + length (d ∷ t) ≡ size =
    sym (length-append i (d ∷ t)) ∙ ap length w' ∙ length-take-le size s (whole_is_there n s e size f).1
    in
    let j : length i < size = omega (arith, m) in
    let p : i ≡ take (length i) s =
    sym (take-append_seam i (d ∷ t)) ∙ ap (λ (x : List ℕ). take (length i) x) w' ∙ take-take (length i) size s (omega (arith, j))
    in
    then refl (push_by at n h b more (ap (λ (x : List ℕ). next n x) p ∙ (event_known n s e size f).part (length i) j))
    (steps_from at n s e size f i d t w')

pub whole_steps : (at n : ℕ) (s : List ℕ) (e : Captured) (size : ℕ) → next n s ≡ event e size → Steps (reader at n [] Reading) (take size s) (behind at n size) (some e)
whole_steps at n s e size f = go (take size s) refl
  where
    go : (t : List ℕ) → t ≡ take size s → Steps (reader at n [] Reading) t (behind at n size) (some e)
    go [] w =
        let h = whole_is_there n s e size f in
        absurd (omega (arith, h, length-take-le size s h.1, ap length w))
    go (b ∷ t) w = steps_from at n s e size f [] b t w

-- one byte pushed is a step
pub byte_step : (r q : Reader) (e : Option Captured) (s : List ℕ) → is_reading r.phase ≡ true → 0 < length s → pushed q e ≡ push r (get_or s 0 0) → Steps r (take 1 s) q e
byte_step r q e [] p h w = absurd (omega (arith, h))
byte_step r q e (b ∷ s) p h w = last p (sym w)

reading_phase : (p : Phase) → is_reading p ≡ true → p ≡ Reading
reading_phase Reading e = refl
reading_phase Ended e = cc
reading_phase (Bad f) e = cc

-- what `next` found, as an event
found_event : (n : ℕ) (input : List ℕ) (f : Found) (e : Event) (size : ℕ) → f ≡ Whole e size → meant input f ≡ next n input → next n input ≡ event (captured e (take size input)) size
found_event n input f e size w m = sym m ∙ ap (meant input) w

-- a reader that holds nothing finds a whole record in the input, all of it. In two lemmas, as the search takes them
pub in_place_size : (r : code.Reader) (input : List ℕ) (f : Found) (e : Event) (size : ℕ) → f ≡ Whole e size → meant input f ≡ next r.events input → size ≤ length input
in_place_size r input f e size w m =
    (whole_is_there r.events input (captured e (take size input)) size (found_event r.events input f e size w m)).1

pub in_place_steps : (r q : code.Reader) (buffer input : List ℕ) (f : Found) (e : Event) (size : ℕ) → r.have ≡ 0 → is_reading r.phase ≡ true → f ≡ Whole e size → meant input f ≡ next r.events input → q ≡ moved_on r size → Steps (reader_of r buffer) (take size input) (reader_of q buffer) (some (captured e (take size input)))
in_place_steps r q buffer input f e size h p w m k =
    let t : reader r.at r.events [] Reading ≡ reader_of r buffer =
    ap (λ (x : Phase). reader r.at r.events [] x) (sym (reading_phase r.phase p))
    ∙ ap (λ (x : ℕ). reader r.at r.events (take (min x 4114) buffer) r.phase) (sym h)
    in
    rw k
    (subst (λ (x : Reader). Steps x (take size input) (reader_of (moved_on r size) buffer) (some (captured e (take size input)))) t
    (whole_steps r.at r.events input (captured e (take size input)) size (found_event r.events input f e size w m)))
