-- Offsets and routes.
use mathlib.Core.Path.{◌≡◌, refl, sym, ap, subst, ◌∙◌}
use mathlib.Core.List.{[], ◌∷◌}
use mathlib.Core.Bool.{Bool, true, false, cond, not, ◌&&◌}
use Prim.Native.Nat.{ℕ, ◌+◌, ◌*◌, ◌/◌, ◌%◌, ◌^◌}
use native.Mathlib.Nat.{add_comm}
use native.Mathlib.Omega.{arith}
use lib.Dec.{leb, eqb}
use lib.Pow.{shr_lt, shr-shr, split}
use lib.Arith.{lt_of_le-ne}
use borrow.Author.Tests.{leb-true, leb-false, eqb-true, eqb-false, le-leb, lt-leb, eq-eqb, ne_eqb}
use Rattle.bits.proofs.Flags.{apart, and_left, and_right}
use Rattle.common.specs.Tests.{first_of}
use Rattle.ecam.specs.Fields.{Registers}
use Rattle.ecam.specs.Route.{Route, OutOfRange, Local, Type0, Type1, NotRouted, DeviceNotZero, out_of_range, is_local, is_routed, is_type0, route, number_of}
use Rattle.ecam.specs.Offset.{register, extended, function, device, bus, word}
use Rattle.ecam.specs.RouteLaws.{FieldsAreOffset, WordIsRegister, BusFits, NumberIsTable, NotLocal, Between, When, RouteExactly, PrimaryFirst, CrossedNotRouted}

-- what is above bit j, cut at k bits further
pub cut : (o j k : ℕ) → o / 2 ^ j ≡ o / 2 ^ (j + k) * 2 ^ k + o / 2 ^ j % 2 ^ k
cut o j k = sym (ap (λ (x : ℕ). x * 2 ^ k + o / 2 ^ j % 2 ^ k) (sym (shr-shr o j k)) ∙ split (o / 2 ^ j) k)

joined : (o low a reg b ext c fun d dev e : ℕ) → o ≡ a * 2 ^ 2 + low → a ≡ b * 2 ^ 6 + reg → b ≡ c * 2 ^ 4 + ext
    → c ≡ d * 2 ^ 3 + fun → d ≡ e * 2 ^ 5 + dev
    → e * 2 ^ 20 + dev * 2 ^ 15 + fun * 2 ^ 12 + ext * 2 ^ 8 + reg * 2 ^ 2 + low ≡ o
joined o low a reg b ext c fun d dev e p q s t u = omega arith

pub fields_are_offset : FieldsAreOffset
fields_are_offset o =
    joined o (o % 4) (o / 2 ^ 2) (register o) (o / 2 ^ 8) (extended o) (o / 2 ^ 12) (function o) (o / 2 ^ 15) (device o) (bus o)
    (sym (split o 2)) (cut o 2 6) (cut o 8 4) (cut o 12 3) (cut o 15 5)

pub word_is_register : WordIsRegister
word_is_register o = omega arith

pub bus_fits : BusFits
bus_fits n o h = shr_lt n 20 (rw (add_comm 20 n) at h)

-- the route that the tests choose; d and e: the secondary bus, device 0
abbrev picked : ℕ → Bool → Bool → Bool → Bool → Bool → Route
picked o a b c d e =
    cond a OutOfRange
    (cond b (Local (word o)) (cond (not c) NotRouted (cond (d && not e) DeviceNotZero (cond d Type0 Type1))))

pub number_is_table : NumberIsTable
unfolding route
number_is_table n r o = by (out_of_range n o) (is_local r o) (is_routed r o) (is_type0 r o) (eqb (device o) 0)
  where
    by : (a b c d e : Bool) → number_of (picked o a b c d e) ≡ first_of ((a, 9) ∷ (b, 0) ∷ (not c, 10) ∷ ((d && not e), 11) ∷ [])
    by true b c d e = refl
    by false true c d e = refl
    by false false false d e = refl
    by false false true true true = refl
    by false false true true false = refl
    by false false true false e = refl

module _ (n : ℕ) (r : Registers) (o : ℕ) where
  not_local : out_of_range n o ≡ false → is_local r o ≡ false → NotLocal n r o
  not_local a b = record { in_range = leb-false (2 ^ (20 + n)) o a; not_primary = eqb-false (bus o) r.primary b }

  between : is_routed r o ≡ true → Between r o
  between c =
      record {
        above = leb-true r.secondary (bus o) (and_left (leb r.secondary (bus o)) (leb (bus o) r.subordinate) c);
        below = leb-true (bus o) r.subordinate (and_right (leb r.secondary (bus o)) (leb (bus o) r.subordinate) c);
      }

  routed : Between r o → is_routed r o ≡ true
  routed w = rw (le-leb r.secondary (bus o) w.above, le-leb (bus o) r.subordinate w.below)

  not_routed_lem : (Between r o → ⊥) → is_routed r o ≡ false
  not_routed_lem h = by (is_routed r o) refl
    where
      by : (c : Bool) → is_routed r o ≡ c → c ≡ false
      by true e = absurd (h (between e))
      by false e = refl

  -- what holds of an access by its route
  says : When n r o (route n r o)
  unfolding route
  says = by (out_of_range n o) (is_local r o) (is_routed r o) (is_type0 r o) (eqb (device o) 0) refl refl refl refl refl
    where
      by : (a b c d e : Bool) → out_of_range n o ≡ a → is_local r o ≡ b → is_routed r o ≡ c → is_type0 r o ≡ d → eqb (device o) 0 ≡ e
          → When n r o (picked o a b c d e)
      by true b c d e p q s t u = leb-true (2 ^ (20 + n)) o p
      by false true c d e p q s t u = (leb-false (2 ^ (20 + n)) o p, eqb-true (bus o) r.primary q, refl)
      by false false false d e p q s t u = (not_local p q, λ w. apart (sym s ∙ routed w))
      by false false true true true p q s t u = (not_local p q, between s, eqb-true (bus o) r.secondary t, eqb-true (device o) 0 u)
      by false false true true false p q s t u = (not_local p q, between s, eqb-true (bus o) r.secondary t, eqb-false (device o) 0 u)
      by false false true false e p q s t u =
          (not_local p q, between s, lt_of_le-ne (between s).above (λ z. eqb-false (bus o) r.secondary t (sym z)))

  -- and what holds of it decides the route
  goes : (x : Route) → When n r o x → route n r o ≡ x
  unfolding route
  goes OutOfRange h = rw (le-leb (2 ^ (20 + n)) o h)
  goes (Local w) h = rw (lt-leb (2 ^ (20 + n)) o h.0, eq-eqb (bus o) r.primary h.1, h.2)
  goes NotRouted h =
      rw (lt-leb (2 ^ (20 + n)) o h.0.in_range, ne_eqb (bus o) r.primary h.0.not_primary, not_routed_lem h.1)
  goes DeviceNotZero h =
      rw (
        lt-leb (2 ^ (20 + n)) o h.0.in_range,
        ne_eqb (bus o) r.primary h.0.not_primary,
        routed h.1,
        eq-eqb (bus o) r.secondary h.2,
        ne_eqb (device o) 0 h.3,
      )
  goes Type0 h =
      rw (
        lt-leb (2 ^ (20 + n)) o h.0.in_range,
        ne_eqb (bus o) r.primary h.0.not_primary,
        routed h.1,
        eq-eqb (bus o) r.secondary h.2,
        eq-eqb (device o) 0 h.3,
      )
  goes Type1 h =
      rw (
        lt-leb (2 ^ (20 + n)) o h.0.in_range,
        ne_eqb (bus o) r.primary h.0.not_primary,
        routed h.1,
        ne_eqb (bus o) r.secondary (λ z. omega (arith, h.2, z)),
      )

pub route_exactly : RouteExactly
route_exactly n r o x = (λ e. subst (When n r o) e (says n r o), goes n r o x)

pub primary_first : PrimaryFirst
primary_first n r o h e f = goes n r o (Local (word o)) (h, f ∙ sym e, refl)

pub crossed_not_routed : CrossedNotRouted
crossed_not_routed n r o h l = goes n r o NotRouted (h, λ w. omega (arith, w.above, w.below, l))
