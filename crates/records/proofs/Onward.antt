-- From step to step, up to an event: what the streaming reader's loop and its first step come to.
use mathlib.Core.Path.{◌≡◌, refl, sym, ap, ◌∙◌}
use mathlib.Core.List.{List, [], ◌∷◌, ◌++◌}
use mathlib.Core.Option.{Option, none, some}
use mathlib.Core.Bool.{true, false}
use Rattle.std.specs.Prelude.{None, Some, is_some, Ok, Err}
use Rattle.std.specs.Prelude as code
use Rattle.refusals.specs.declared.Refusal.TheVariants.{TooShort}
use Prim.Native.Nat.{ℕ, suc, ◌+◌, ◌≤◌, ◌<◌}
use native.Mathlib.Nat.{add-zero}
use native.Mathlib.Numerals.{add-one}
use native.Mathlib.Omega.{arith}
use borrow.Author.Tests.{lt-ltb, le-ltb}
use lib.ListN.{length, get_or, take, drop, take-append-drop}
use lib.Seq.{drop-cons, length-take-le}
use Rattle.records.specs.declared.Reader as reader
use Rattle.records.specs.declared.stream.Got.{Got}
use Rattle.records.specs.declared.stream.Got.TheVariants.{Here, Kept}
use Rattle.records.specs.declared.stream.Came as answer
use Rattle.records.specs.Events.{Captured}
use Rattle.records.specs.Stream.{Reader, is_reading, Pushed, pushed, push, Came, came, one_more, event_by, next_event}
use Rattle.records.specs.Code.Meaning.{captured, reader_of}
use Rattle.records.specs.Code.Steps.{event_of, came_of, Steps, last, then, later, ReadOn}

-- ---- one byte

-- what a byte that was read comes to, by what it gave
pushed_on : (r : Reader) (b : ℕ) (s : List ℕ) (p : Pushed) → is_reading r.phase ≡ true → push r b ≡ p
    → next_event r (b ∷ s) ≡ one_more (event_by p.reader (next_event p.reader s) p.event)
pushed_on r b s p h e = rw (h, ← e)

pub stopped : (r : Reader) (s : List ℕ) → is_reading r.phase ≡ false → next_event r s ≡ came r none 0
stopped r [] h = refl
stopped r (b ∷ s) h = rw h

pub no_input : (r : Reader) (s : List ℕ) → length s < 1 → next_event r s ≡ came r none 0
no_input r [] h = refl
no_input r (b ∷ s) h = absurd (omega (arith, h))

later_one : (n : ℕ) (c : Came) → later n (one_more c) ≡ later (n + 1) c
later_one n c = ap (λ (u : ℕ). came c.reader c.event u) (omega arith)

one_later : (n : ℕ) (c : Came) → one_more (later n c) ≡ later (suc n) c
one_later n c = ap (λ (u : ℕ). came c.reader c.event u) (omega arith)

-- ---- the loop: so many bytes of the input are read

at_byte : (n : ℕ) (r : Reader) (input : List ℕ) (p : Pushed) → n < length input → is_reading r.phase ≡ true
    → p ≡ push r (get_or input n 0)
    → later n (next_event r (drop n input)) ≡ later (n + 1) (event_by p.reader (next_event p.reader (drop (n + 1) input)) p.event)
at_byte n r input p l h e =
    let s = drop (n + 1) input in
    let d : drop n input ≡ get_or input n 0 ∷ s = drop-cons input n 0 l ∙ ap (λ (k : ℕ). get_or input n 0 ∷ drop k input) (sym (add-one n)) in
    ap (λ (t : List ℕ). later n (next_event r t)) d
    ∙ (ap (later n) (pushed_on r (get_or input n 0) s p h (sym e)) ∙ later_one n (event_by p.reader (next_event p.reader s) p.event))

pub no_event : (n : ℕ) (r q : Reader) (input bytes buffer : List ℕ) (g : code.Option Got) → n < length input → is_reading r.phase ≡ true
    → is_some g ≡ false
    → pushed q (event_of bytes buffer g) ≡ push r (get_or input n 0)
    → later n (next_event r (drop n input)) ≡ later (n + 1) (next_event q (drop (n + 1) input))
no_event n r q input bytes buffer None l h g e = at_byte n r input (pushed q none) l h e
no_event n r q input bytes buffer (Some (Here x)) l h g e = cc
no_event n r q input bytes buffer (Some (Kept x size)) l h g e = cc

pub halts : (n : ℕ) (r : Reader) (s : List ℕ) → next_event r s ≡ came r none 0 → came r none n ≡ later n (next_event r s)
halts n r s e = sym (ap (later n) e ∙ ap (λ (u : ℕ). came r none u) (add-zero n))

-- ---- the first step

steps_none : {r q : Reader} {s : List ℕ} {e : Option Captured} → Steps r s q e → e ≡ none → (t : List ℕ)
    → next_event r (s ++ t) ≡ later (length s) (next_event q t)
steps_none {r} {q} (last {b = b} h p) e t = pushed_on r b t (pushed q none) h (p ∙ ap (pushed q) e)
steps_none {r} {q} (then {p = m} {b = b} {s = s} h p k) e t =
    pushed_on r b (s ++ t) (pushed m none) h p ∙ (ap one_more (steps_none k e t) ∙ one_later (length s) (next_event q t))

steps_some : {r q : Reader} {s : List ℕ} {e : Option Captured} (x : Captured) → Steps r s q e → e ≡ some x → (t : List ℕ)
    → next_event r (s ++ t) ≡ came q (some x) (length s)
steps_some {r} {q} x (last {b = b} h p) e t = pushed_on r b t (pushed q (some x)) h (p ∙ ap (pushed q) e)
steps_some {r} {q} x (then {p = m} {b = b} {s = s} h p k) e t =
    pushed_on r b (s ++ t) (pushed m none) h p ∙ (ap one_more (steps_some x k e t) ∙ ap (λ (u : ℕ). came q (some x) u) (omega arith))

module _ (r q : Reader) (input bytes buffer : List ℕ) (g : code.Option Got) (u : ℕ) (k : Steps r (take u input) q (event_of bytes buffer g)) (l : u ≤ length input) where
  whole : next_event r (take u input ++ drop u input) ≡ next_event r input
  whole = ap (next_event r) (take-append-drop u input)

  pub none_first : is_some g ≡ false → next_event r input ≡ later u (next_event q (drop u input))
  none_first h =
      sym whole
      ∙ (steps_none k (is_none g h) (drop u input) ∙ ap (λ (n : ℕ). later n (next_event q (drop u input))) (length-take-le u input l))
    where
      is_none : (x : code.Option Got) → is_some x ≡ false → event_of bytes buffer x ≡ none
      is_none None e = refl
      is_none (Some (Here c)) e = cc
      is_none (Some (Kept c size)) e = cc

  pub event_first : is_some g ≡ true → came q (event_of bytes buffer g) u ≡ next_event r input
  event_first h = go g refl h
    where
      found : (c : Captured) → event_of bytes buffer g ≡ some c → came q (some c) u ≡ next_event r input
      found c e =
          sym
          (sym whole ∙ (steps_some c k e (drop u input) ∙ ap (λ (n : ℕ). came q (some c) n) (length-take-le u input l)))

      go : (x : code.Option Got) → x ≡ g → is_some x ≡ true → came q (event_of bytes buffer x) u ≡ next_event r input
      go None e i = cc
      go (Some (Here c)) e i = found (captured c bytes) (ap (event_of bytes buffer) (sym e))
      go (Some (Kept c size)) e i = found (captured c (take size buffer)) (ap (event_of bytes buffer) (sym e))

-- ---- the call

module _ (r : reader.Reader) (before input after : List ℕ) where
  pub short_buffer : length before < 4115 → after ≡ before → ReadOn r before input after (Err TooShort)
  short_buffer h a =
      record {
        number = rw (lt-ltb (length before) 4115 h);
        refused = λ l. (refl, a);
        read = λ l. absurd (omega (arith, h, l));
      }

  pub read_by : (c : answer.Came) → 4115 ≤ length before → came_of input after c ≡ next_event (reader_of r before) input
      → ReadOn r before input after (Ok c)
  read_by c h e =
      record {
        number = rw (le-ltb (length before) 4115 h);
        refused = λ l. absurd (omega (arith, h, l));
        read = λ l. e;
      }
