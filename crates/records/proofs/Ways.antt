-- What `next` finds, by the tests that led there.
use mathlib.Core.Path.{◌≡◌, refl}
use mathlib.Core.List.{List}
use mathlib.Core.Bool.{Bool, true, false}
use Prim.Native.Nat.{ℕ, ◌<◌, ◌≤◌}
use native.Mathlib.Decide.{dec_lt}
use native.Mathlib.Omega.{arith}
use borrow.Author.Tests.{lt-ltb, le-ltb, lt-leb, le-leb}
use lib.ListN.{length}
use Rattle.records.specs.declared.Fault.TheVariants.{Kind, Length}
use Rattle.records.specs.Layout.{length_fits}
use Rattle.records.specs.Reading.{more, bad, kind_in, body_in, size_in, layout_in, whole, next}

-- ---- each way through the tests

pub next_none : (n : ℕ) (s : List ℕ) → length s < 1 → next n s ≡ more
unfolding next
next_none n s h = rw (lt-ltb (length s) 1 h)

pub next_kind : (n : ℕ) (s : List ℕ) → 1 ≤ length s → 8 ≤ kind_in s → next n s ≡ bad Kind
unfolding next
next_kind n s h k = rw (le-ltb (length s) 1 h, le-leb 8 (kind_in s) k)

pub next_head : (n : ℕ) (s : List ℕ) → 1 ≤ length s → kind_in s < 8 → length s < 3 → next n s ≡ more
unfolding next
next_head n s h k l = rw (le-ltb (length s) 1 h, lt-leb 8 (kind_in s) k, lt-ltb (length s) 3 l)

pub next_length : (n : ℕ) (s : List ℕ) → 3 ≤ length s → kind_in s < 8 → length_fits (layout_in s) (body_in s) ≡ false → next n s ≡ bad Length
unfolding next
next_length n s h k f = rw (le-ltb (length s) 1 (omega (arith, h)), lt-leb 8 (kind_in s) k, le-ltb (length s) 3 h, f)

pub next_part : (n : ℕ) (s : List ℕ) → 3 ≤ length s → kind_in s < 8 → length_fits (layout_in s) (body_in s) ≡ true → length s < size_in s → next n s ≡ more
unfolding next
next_part n s h k f l =
    rw (le-ltb (length s) 1 (omega (arith, h)), lt-leb 8 (kind_in s) k, le-ltb (length s) 3 h, f, lt-ltb (length s) (size_in s) l)

pub next_whole : (n : ℕ) (s : List ℕ) → 3 ≤ length s → kind_in s < 8 → length_fits (layout_in s) (body_in s) ≡ true → size_in s ≤ length s → next n s ≡ whole n s
unfolding next
next_whole n s h k f l =
    rw (le-ltb (length s) 1 (omega (arith, h)), lt-leb 8 (kind_in s) k, le-ltb (length s) 3 h, f, le-ltb (length s) (size_in s) l)

-- and these are all
pub data Way (n : ℕ) (s : List ℕ) : Type 0 where
  none : length s < 1 → Way n s
  kind : 1 ≤ length s → 8 ≤ kind_in s → Way n s
  head : 1 ≤ length s → kind_in s < 8 → length s < 3 → Way n s
  long : 3 ≤ length s → kind_in s < 8 → length_fits (layout_in s) (body_in s) ≡ false → Way n s
  part : 3 ≤ length s → kind_in s < 8 → length_fits (layout_in s) (body_in s) ≡ true → length s < size_in s → Way n s
  all : 3 ≤ length s → kind_in s < 8 → length_fits (layout_in s) (body_in s) ≡ true → size_in s ≤ length s → Way n s

pub way : (n : ℕ) (s : List ℕ) → Way n s
way n s = first (dec_lt (length s) 1)
  where
    last : 3 ≤ length s → kind_in s < 8 → (f : Bool) → length_fits (layout_in s) (body_in s) ≡ f → Dec (length s < size_in s) → Way n s
    last h k false f d = long h k f
    last h k true f (yes l) = part h k f l
    last h k true f (no l) = all h k f (omega (arith, l))

    third : 1 ≤ length s → kind_in s < 8 → Dec (length s < 3) → Way n s
    third h k (yes l) = head h k l
    third h k (no l) = last (omega (arith, l)) k (length_fits (layout_in s) (body_in s)) refl (dec_lt (length s) (size_in s))

    second : 1 ≤ length s → Dec (kind_in s < 8) → Way n s
    second h (yes k) = third h k (dec_lt (length s) 3)
    second h (no k) = kind h (omega (arith, k))

    first : Dec (length s < 1) → Way n s
    first (yes h) = none h
    first (no h) = second (omega (arith, h)) (dec_lt (kind_in s) 8)
