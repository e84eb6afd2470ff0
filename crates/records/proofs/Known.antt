-- The laws of `next` on fewer bytes.
use mathlib.Core.Path.{◌≡◌, refl, sym, ap, ◌∙◌, subst}
use mathlib.Core.List.{List, []}
use mathlib.Core.Bool.{Bool, true, false, cond}
use Prim.Native.Nat.{ℕ, ◌<◌, ◌≤◌, zero-le}
use native.Mathlib.Nat.{not-suc-le-zero}
use native.Mathlib.Decide.{dec_lt}
use native.Mathlib.Omega.{arith}
use lib.Dec.{eqb}
use lib.ListN.{length, get_or, take, drop, take-append-drop}
use lib.Seq.{get_or-take, length-take-le}
use Rattle.records.specs.declared.Fault.TheVariants.{Kind, Length, Padding, Count}
use Rattle.records.specs.Layout.{length_fits}
use Rattle.records.specs.Events.{Captured, event_of}
use Rattle.records.specs.Reading.{Next, more, bad, end, event, kind_in, body_in, size_in, layout_in, values_in, plain_in, is_padded, whole, next}
use Rattle.records.specs.Laws.{WholeIsThere, known_at, Known, KnownThen}
use Rattle.records.proofs.Ways.{next_none, next_kind, next_head, next_length, next_part, next_whole, Way, none, kind, head, long, part, all, way}
use Rattle.records.proofs.Judged.{not_more, size_of, bad_not_more, bad_no_event, more_no_event, Same, kind_same, body_same, fits_same, judged_stays}

-- ---- the first j bytes

module _ (n : ℕ) (s : List ℕ) (j : ℕ) (there : j ≤ length s) where
  abbrev t : List ℕ
  t = take j s

  same : Same j t s
  same i k = get_or-take j s i 0 k

  sized : length t ≡ j
  sized = length-take-le j s there

  kind_first : 1 ≤ j → kind_in t ≡ kind_in s
  kind_first h = kind_same j t s same h

  body_first : 3 ≤ j → body_in t ≡ body_in s
  body_first h = body_same j t s same h

  fits_first : 3 ≤ j → length_fits (layout_in t) (body_in t) ≡ length_fits (layout_in s) (body_in s)
  fits_first h = fits_same j t s same h

  -- nothing is known yet
  none_yet : j < 1 → next n t ≡ more
  none_yet l = next_none n t (omega (arith, sized, l))

  head_yet : kind_in s < 8 → j < 3 → next n t ≡ more
  head_yet k l = go (dec_lt j 1)
    where
      go : Dec (j < 1) → next n t ≡ more
      go (yes m) = none_yet m
      go (no m) = next_head n t (omega (arith, sized, m)) (omega (arith, k, kind_first (omega (arith, m)))) (omega (arith, sized, l))

  part_yet : kind_in s < 8 → length_fits (layout_in s) (body_in s) ≡ true → j < size_in s → next n t ≡ more
  part_yet k f l = go (dec_lt j 3)
    where
      go : Dec (j < 3) → next n t ≡ more
      go (yes m) = head_yet k m
      go (no m) =
          let h : 3 ≤ j = omega (arith, m) in
          next_part n t (omega (arith, sized, h)) (omega (arith, k, kind_first (omega (arith, h)))) (fits_first h ∙ f)
          (omega (arith, sized, l, body_first h))

  -- what they tell stays so
  tell : (next n t ≡ more → ⊥) → next n t ≡ next n s
  tell d = sym (judged_stays n t (drop j s) d) ∙ ap (next n) (take-append-drop j s)

-- ---- by the way that it was found

module _ (n : ℕ) (s : List ℕ) where
  known_none : next n s ≡ more → Known n s 0
  known_none e = record {
    there = zero-le;
    alone = next_none n [] (omega arith) ∙ sym e;
    part = λ j l. absurd (not-suc-le-zero l);
  }

  known_kind : 1 ≤ length s → 8 ≤ kind_in s → Known n s 1
  known_kind h k =
      let is = next_kind n (take 1 s) (omega (arith, sized n s 1 h)) (omega (arith, k, kind_first n s 1 h (omega arith))) in
      record {
        there = h;
        alone = tell n s 1 h (λ m. bad_not_more Kind (sym is ∙ m));
        part = λ j l. none_yet n s j (omega (arith, h, l)) l;
      }

  known_length : 3 ≤ length s → kind_in s < 8 → length_fits (layout_in s) (body_in s) ≡ false → Known n s 3
  known_length h k f =
      let is =
      next_length n (take 3 s) (omega (arith, sized n s 3 h)) (omega (arith, k, kind_first n s 3 h (omega arith))) (fits_first n s 3 h (omega arith) ∙ f)
      in
      record {
        there = h;
        alone = tell n s 3 h (λ m. bad_not_more Length (sym is ∙ m));
        part = λ j l. head_yet n s j (omega (arith, h, l)) k l;
      }

  known_whole : kind_in s < 8 → length_fits (layout_in s) (body_in s) ≡ true → size_in s ≤ length s → Known n s (size_in s)
  known_whole k f h =
      let z = size_in s in
      let is =
      next_whole n (take z s) (omega (arith, sized n s z h)) (omega (arith, k, kind_first n s z h (omega arith)))
      (fits_first n s z h (omega arith) ∙ f)
      (omega (arith, sized n s z h, body_first n s z h (omega arith)))
      in
      record {
        there = h;
        alone = tell n s z h (λ m. not_more n (take z s) (sym is ∙ m));
        part = λ j l. part_yet n s j (omega (arith, h, l)) k f l;
      }

-- a whole record's bytes tell what it is
whole_by : (s : List ℕ) (a b c : Bool) (e : Captured)
    → known_at s (cond a (cond b (cond c end (bad Count)) (event e (size_in s))) (bad Padding)) ≡ size_in s
whole_by s false b c e = refl
whole_by s true true true e = refl
whole_by s true true false e = refl
whole_by s true false c e = refl

whole_at : (n : ℕ) (s : List ℕ) → known_at s (whole n s) ≡ size_in s
unfolding whole
whole_at n s = whole_by s (is_padded s) (eqb (kind_in s) 0) (eqb (get_or (values_in s) 0 0) n) (event_of (kind_in s) (values_in s) (plain_in s))

pub known_then : KnownThen
known_then n s = go (way n s)
  where
    found : (x : Next) → next n s ≡ x → Known n s (known_at s x) → Known n s (known_at s (next n s))
    found x e k = subst (λ (y : Next). Known n s (known_at s y)) (sym e) k

    go : Way n s → Known n s (known_at s (next n s))
    go (none h) = found more (next_none n s h) (known_none n s (next_none n s h))
    go (kind h k) = found (bad Kind) (next_kind n s h k) (known_kind n s h k)
    go (head h k l) = found more (next_head n s h k l) (known_none n s (next_head n s h k l))
    go (long h k f) = found (bad Length) (next_length n s h k f) (known_length n s h k f)
    go (part h k f l) = found more (next_part n s h k f l) (known_none n s (next_part n s h k f l))
    go (all h k f l) =
        found (whole n s) (next_whole n s h k f l) (subst (λ (m : ℕ). Known n s m) (sym (whole_at n s)) (known_whole n s k f l))

-- ---- an event

pub event_known : (n : ℕ) (s : List ℕ) (e : Captured) (size : ℕ) → next n s ≡ event e size → Known n s size
event_known n s e size h = subst (λ (x : Next). Known n s (known_at s x)) h (known_then n s)

event_size : (n : ℕ) (s : List ℕ) (e : Captured) (size : ℕ) → next n s ≡ event e size → size ≡ size_in s
event_size n s e size h = go (way n s)
  where
    go : Way n s → size ≡ size_in s
    go (none a) = absurd (more_no_event e size (sym (next_none n s a) ∙ h))
    go (kind a k) = absurd (bad_no_event Kind e size (sym (next_kind n s a k) ∙ h))
    go (head a k l) = absurd (more_no_event e size (sym (next_head n s a k l) ∙ h))
    go (long a k f) = absurd (bad_no_event Length e size (sym (next_length n s a k f) ∙ h))
    go (part a k f l) = absurd (more_no_event e size (sym (next_part n s a k f l) ∙ h))
    go (all a k f l) = size_of n s e size (sym (next_whole n s a k f l) ∙ h)

pub whole_is_there : WholeIsThere
whole_is_there n s e size h = (omega (arith, event_size n s e size h), (event_known n s e size h).there)
