-- The laws of `next` on more bytes.
use mathlib.Core.Path.{◌≡◌, refl, sym, ap, ◌∙◌, subst}
use mathlib.Core.List.{List, ◌++◌}
use mathlib.Core.Bool.{Bool, true, false, cond, ◌&&◌}
use Prim.Native.Nat.{ℕ, zero, suc, ◌+◌, ◌*◌, ◌/◌, ◌%◌, ◌^◌, ◌<◌, ◌≤◌}
use native.Mathlib.Omega.{arith}
use lib.ListN.{length, get_or, take, drop, length-append, get_or-append}
use lib.Seq.{take-append-le}
use lib.Dec.{eqb}
use Rattle.tlp.specs.Bytes.{byte, number}
use Rattle.records.specs.declared.Fault.{Fault}
use Rattle.records.specs.declared.Fault.TheVariants.{Kind, Length, Padding, Count}
use Rattle.records.specs.Layout.{layout_of, unpacked, field_bytes, spare_bits, length_fits}
use Rattle.records.specs.Events.{Captured, event_of}
use Rattle.records.specs.Reading.{Next, more, bad, end, event, kind_in, body_in, size_in, layout_in, fields_in, values_in, plain_in, is_padded, whole, next}
use Rattle.records.specs.Laws.{MoreIsShort, JudgedStays}
use Rattle.records.proofs.Table.{fine, body_least, body_most}
use Rattle.records.proofs.Ways.{next_none, next_kind, next_head, next_length, next_part, next_whole, Way, none, kind, head, long, part, all, way}

-- ---- what is whole

-- a whole record in its parts
abbrev whole_by_lem : ℕ → ℕ → ℕ → ℕ → List ℕ → Next
whole_by_lem n first body fields plain =
    cond (eqb (first % 16) 0 && eqb (fields % 2 ^ spare_bits (layout_of (first / 16))) 0)
    (cond (eqb (first / 16) 0)
    (cond (eqb (get_or (unpacked (layout_of (first / 16)).fields (fields / 2 ^ spare_bits (layout_of (first / 16)))) 0 0) n) end (bad Count))
    (event (event_of (first / 16) (unpacked (layout_of (first / 16)).fields (fields / 2 ^ spare_bits (layout_of (first / 16)))) plain) (3 + body)))
    (bad Padding)

parts : (n : ℕ) (s : List ℕ) → whole n s ≡ whole_by_lem n (byte s 0) (body_in s) (fields_in s) (plain_in s)
unfolding whole
parts n s = refl

whole_same : (n : ℕ) (s t : List ℕ) → byte s 0 ≡ byte t 0 → body_in s ≡ body_in t → fields_in s ≡ fields_in t → plain_in s ≡ plain_in t → whole n s ≡ whole n t
whole_same n s t a b c d =
    parts n s
    ∙ ap (λ (x : ℕ). whole_by_lem n x (body_in s) (fields_in s) (plain_in s)) a
    ∙ ap (λ (x : ℕ). whole_by_lem n (byte t 0) x (fields_in s) (plain_in s)) b
    ∙ ap (λ (x : ℕ). whole_by_lem n (byte t 0) (body_in t) x (plain_in s)) c
    ∙ ap (λ (x : List ℕ). whole_by_lem n (byte t 0) (body_in t) (fields_in t) x) d
    ∙ sym (parts n t)

-- it is judged, and an event's size is the record's
abbrev Sized : ℕ → Next → Type 0
Sized size more = ⊥
Sized size (bad f) = Unit
Sized size end = Unit
Sized size (event e n) = n ≡ size

sized_by : (a b c : Bool) (e : Captured) (size : ℕ) → Sized size (cond a (cond b (cond c end (bad Count)) (event e size)) (bad Padding))
sized_by false b c e size = tt
sized_by true true true e size = tt
sized_by true true false e size = tt
sized_by true false c e size = refl

sized : (n : ℕ) (s : List ℕ) → Sized (size_in s) (whole n s)
unfolding whole
sized n s = sized_by (is_padded s) (eqb (kind_in s) 0) (eqb (get_or (values_in s) 0 0) n) (event_of (kind_in s) (values_in s) (plain_in s)) (size_in s)

pub not_more : (n : ℕ) (s : List ℕ) → whole n s ≡ more → ⊥
not_more n s e = subst (λ (x : Next). Sized (size_in s) x) e (sized n s)

pub size_of : (n : ℕ) (s : List ℕ) (e : Captured) (size : ℕ) → whole n s ≡ event e size → size ≡ size_in s
size_of n s e size h = subst (λ (x : Next). Sized (size_in s) x) h (sized n s)

-- ---- what is short

abbrev IsBad : Next → Type 0
IsBad more = ⊥
IsBad (bad f) = Unit
IsBad end = ⊥
IsBad (event e n) = ⊥

abbrev IsMore : Next → Type 0
IsMore more = Unit
IsMore (bad f) = ⊥
IsMore end = ⊥
IsMore (event e n) = ⊥

pub bad_not_more : (f : Fault) → bad f ≡ more → ⊥
bad_not_more f e = subst IsBad e tt

pub bad_no_event : (f : Fault) (e : Captured) (n : ℕ) → bad f ≡ event e n → ⊥
bad_no_event f e n h = subst IsBad h tt

pub more_no_event : (e : Captured) (n : ℕ) → more ≡ event e n → ⊥
more_no_event e n h = subst IsMore h tt

pub more_is_short : MoreIsShort
more_is_short n s e = go (way n s)
  where
    go : Way n s → length s ≤ 4114
    go (none h) = omega (arith, h)
    go (kind h k) = absurd (bad_not_more Kind (sym (next_kind n s h k) ∙ e))
    go (head h k l) = omega (arith, l)
    go (long h k f) = absurd (bad_not_more Length (sym (next_length n s h k f) ∙ e))
    go (part h k f l) = omega (arith, l, body_most (layout_in s) (body_in s) f, (fine (kind_in s)).most)
    go (all h k f l) = absurd (not_more n s (sym (next_whole n s h k f l) ∙ e))

-- ---- lists with the same first bytes

abbrev pub Same : ℕ → List ℕ → List ℕ → Type 0
Same m t s = (i : ℕ) → i < m → byte t i ≡ byte s i

number_same : (m : ℕ) (t s : List ℕ) (at n : ℕ) → Same m t s → at + n ≤ m → number t at n ≡ number s at n
number_same m t s at zero a h = refl
number_same m t s at (suc n) a h =
    ap (λ (x : ℕ). x * 256 ^ n + number t (suc at) n) (a at (omega (arith, h)))
    ∙ ap (λ (x : ℕ). byte s at * 256 ^ n + x) (number_same m t s (suc at) n a (omega (arith, h)))

pub kind_same : (m : ℕ) (t s : List ℕ) → Same m t s → 1 ≤ m → kind_in t ≡ kind_in s
kind_same m t s a h = ap (λ (x : ℕ). x / 16) (a 0 (omega (arith, h)))

pub body_same : (m : ℕ) (t s : List ℕ) → Same m t s → 3 ≤ m → body_in t ≡ body_in s
body_same m t s a h = number_same m t s 1 2 a (omega (arith, h))

pub fits_same : (m : ℕ) (t s : List ℕ) → Same m t s → 3 ≤ m → length_fits (layout_in t) (body_in t) ≡ length_fits (layout_in s) (body_in s)
fits_same m t s a h =
    ap (λ (x : ℕ). length_fits (layout_of x) (body_in t)) (kind_same m t s a (omega (arith, h)))
    ∙ ap (λ (x : ℕ). length_fits (layout_in s) x) (body_same m t s a h)

-- ---- more bytes

longer : (s z : List ℕ) → Same (length s) (s ++ z) s
longer s z i h = get_or-append s z 0 i h

whole_longer : (n : ℕ) (s z : List ℕ) → 3 ≤ length s → length_fits (layout_in s) (body_in s) ≡ true → size_in s ≤ length s → whole n (s ++ z) ≡ whole n s
whole_longer n s z h f l =
    let a = longer s z in
    let k : kind_in (s ++ z) ≡ kind_in s = kind_same (length s) (s ++ z) s a (omega (arith, h)) in
    let b : body_in (s ++ z) ≡ body_in s = body_same (length s) (s ++ z) s a h in
    let w : 3 + field_bytes (layout_in s) ≤ length s = omega (arith, l, body_least (layout_in s) (body_in s) f, (fine (kind_in s)).fields) in
    whole_same n (s ++ z) s (a 0 (omega (arith, h))) b
    (ap (λ (x : ℕ). number (s ++ z) 3 (field_bytes (layout_of x))) k ∙ number_same (length s) (s ++ z) s 3 (field_bytes (layout_in s)) a w)
    (ap (λ (x : ℕ). drop (3 + field_bytes (layout_of x)) (take (size_in (s ++ z)) (s ++ z))) k
    ∙ ap (λ (x : ℕ). drop (3 + field_bytes (layout_in s)) (take (3 + x) (s ++ z))) b
    ∙ ap (λ (x : List ℕ). drop (3 + field_bytes (layout_in s)) x) (take-append-le (size_in s) s z l))

pub judged_stays : JudgedStays
judged_stays n s z e = go (way n s)
  where
    a : Same (length s) (s ++ z) s
    a = longer s z

    more_length : (m : ℕ) → m ≤ length s → m ≤ length (s ++ z)
    more_length m h = omega (arith, h, length-append s z)

    go : Way n s → next n (s ++ z) ≡ next n s
    go (none h) = absurd (e (next_none n s h))
    go (kind h k) =
        next_kind n (s ++ z) (more_length 1 h) (omega (arith, k, kind_same (length s) (s ++ z) s a h)) ∙ sym (next_kind n s h k)
    go (head h k l) = absurd (e (next_head n s h k l))
    go (long h k f) =
        next_length n (s ++ z) (more_length 3 h) (omega (arith, k, kind_same (length s) (s ++ z) s a (omega (arith, h))))
        (fits_same (length s) (s ++ z) s a h ∙ f)
        ∙ sym (next_length n s h k f)
    go (part h k f l) = absurd (e (next_part n s h k f l))
    go (all h k f l) =
        next_whole n (s ++ z) (more_length 3 h) (omega (arith, k, kind_same (length s) (s ++ z) s a (omega (arith, h))))
        (fits_same (length s) (s ++ z) s a h ∙ f)
        (omega (arith, more_length (size_in s) l, body_same (length s) (s ++ z) s a h))
        ∙ whole_longer n s z h f l
        ∙ sym (next_whole n s h k f l)
