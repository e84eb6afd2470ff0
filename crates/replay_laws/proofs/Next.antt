-- Up to one event: what `next_event` reads is fed.
use Prim.Native.Nat.{ℕ, zero, suc, ◌+◌, ◌<◌, zero-le}
use mathlib.Core.Path.{◌≡◌, refl, sym, ap, ◌∙◌, subst}
use mathlib.Core.Logic.{◌⊎◌, inl, inr}
use mathlib.Core.List.{List, [], ◌∷◌, ◌++◌}
use mathlib.Core.Option.{Option, none, some}
use mathlib.Core.Bool.{Bool, true, false, cond}
use native.Mathlib.Nat.{suc-ne-zero, not-suc-le-zero}
use native.Mathlib.Omega.{arith}
use lib.ListN.{length, take}
use Rattle.records.specs.Events.{Captured}
use Rattle.records.specs.Stream.{Reader, is_reading, Pushed, pushed, push, Fed, fed, listed, feed, Came, came, one_more, event_by, next_event}
use Rattle.replay_laws.specs.Stream.{Feeds, NextIsFeed}

no_path : {A : Type 0} → ◌≡◌ {A = ℕ} 0 1 → A
no_path e = absurd (suc-ne-zero 0 (sym e))

-- nothing is read
none_read : (r : Reader) (s : List ℕ) → (0 ≡ length s) ⊎ (is_reading r.phase ≡ false) → Feeds r s (came r none 0)
none_read r s w = record { within = zero-le; read = refl; first = λ j l. absurd (not-suc-le-zero l); stops = λ e. w }

-- ---- a byte is read

abbrev onto : List ℕ → Pushed → Fed
onto s x = fed (feed x.reader s).reader (listed x.event ++ (feed x.reader s).events)

module _ (r : Reader) (b : ℕ) (s : List ℕ) (q : Reader) where
  one_more_lem : (c : Came) → push r b ≡ pushed q none → Feeds q s c → Feeds r (b ∷ s) (one_more c)
  one_more_lem c e h = record {
    within = omega (arith, h.within);
    read =
        let u : 1 + c.used ≡ suc c.used = omega arith in
        ap (λ (n : ℕ). feed r (take n (b ∷ s))) u ∙ ap (onto (take c.used s)) e ∙ h.read;
    first = before;
    stops = λ n. why (h.stops n);
  }
    where
      before : (j : ℕ) → j < 1 + c.used → (feed r (take j (b ∷ s))).events ≡ []
      before zero l = refl
      before (suc j) l = ap (λ (x : Pushed). (onto (take j s) x).events) e ∙ h.first j (omega (arith, l))

      why : (c.used ≡ length s) ⊎ (is_reading c.reader.phase ≡ false)
          → (1 + c.used ≡ suc (length s)) ⊎ (is_reading c.reader.phase ≡ false)
      why (inl x) = inl (omega (arith, x))
      why (inr x) = inr x

  byte_read : (e : Option Captured) → push r b ≡ pushed q e → Feeds q s (next_event q s)
      → Feeds r (b ∷ s) (one_more (event_by q (next_event q s) e))
  byte_read none i h = one_more_lem (next_event q s) i h
  byte_read (some x) i h = record {
    within = omega arith;
    read = ap (onto []) i;
    first = before;
    stops = λ n. no_path (cc);
  }
    where
      before : (j : ℕ) → j < 1 → (feed r (take j (b ∷ s))).events ≡ []
      before zero l = refl
      before (suc j) l = absurd (omega (arith, l))

-- what the first byte gives, while it reads and once it has stopped
abbrev given : Reader → ℕ → List ℕ → Bool → Came
given r b s t = cond t (one_more (event_by (push r b).reader (next_event (push r b).reader s) (push r b).event)) (came r none 0)

pub next_is_feed : NextIsFeed
next_is_feed r [] = none_read r [] (inl refl)
next_is_feed r (b ∷ s) = by (is_reading r.phase) refl (next_is_feed (push r b).reader s)
  where
    by : (t : Bool) → is_reading r.phase ≡ t → Feeds (push r b).reader s (next_event (push r b).reader s)
        → Feeds r (b ∷ s) (next_event r (b ∷ s))
    by true e h =
        subst (λ (t : Bool). Feeds r (b ∷ s) (given r b s t)) (sym e) (byte_read r b s (push r b).reader (push r b).event refl h)
    by false e h = subst (λ (t : Bool). Feeds r (b ∷ s) (given r b s t)) (sym e) (none_read r (b ∷ s) (inr e))
