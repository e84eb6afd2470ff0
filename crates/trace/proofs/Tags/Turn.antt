-- A list sent for a request, and the completions of it that come: which comes next, and what it carries.
use Prim.Native.Nat.{ℕ, ◌+◌, ◌-◌, ◌*◌, ◌%◌, ◌≤◌, ◌<◌}
use mathlib.Core.Path.{◌≡◌, refl, sym, ap, subst, ◌∙◌}
use mathlib.Core.List.{List, [], ◌∷◌, ◌++◌}
use mathlib.Core.Bool.{Bool, true, false, cond, not}
use native.Mathlib.Omega.{arith}
use lib.ListN.{length, drop, length-take, length-drop}
use lib.Dec.{eqb, ltb}
use borrow.Author.Tests.{not-true}
use Rattle.common.proofs.Tests.{row, and_left, and_right}
use Rattle.std.specs.Prelude.{Result, Ok, Err}
use Rattle.refusals.specs.declared.Refusal.{Refusal}
use Rattle.tlp.specs.declared.completion.Completion.{Completion}
use Rattle.tlp.specs.Completion.{valid_completion}
use Rattle.machine.specs.Verdict.{useful}
use Rattle.machine.specs.Completions.{completion_of, useful_bytes}
use Rattle.machine.specs.Code.Expected.{Whole}
use Rattle.machine.proofs.Judging.{some_word, read_whole}
use Rattle.trace.specs.FarSide.{carries, carried_by, carried, data_by, bytes_sent, When, fails, States, InTurn, Sends, Some, none, came, lost}
use Rattle.trace.specs.Claims.{is_good, good_by, good_bytes}

pub no_path : {A : Type 0} → ◌≡◌ {A = ℕ} 0 1 → A
no_path z = absurd (omega arith)

pub no_way : {A : Type 0} → ◌≡◌ {A = Bool} true false → A
no_way e = no_path (ap (λ (t : Bool). cond t 0 1) e)

-- ---- some of a list

pub some_all : {A : Type 0} (l : List A) → Some l l
some_all [] = none
some_all (x ∷ l) = came refl (some_all l)

pub some_then : {A : Type 0} {l m k : List A} → Some l m → Some m k → Some l k
some_then h none = h
some_then (came e h) (came f g) = came (e ∙ f) (some_then h g)
some_then (lost h) (came f g) = lost (some_then h g)
some_then h (lost g) = lost (some_then h g)

pub some_none : {A : Type 0} {l : List A} → Some l [] → l ≡ []
some_none none = refl

-- no more come than are sent
pub some_length : {A : Type 0} {l m : List A} → Some l m → length l ≤ length m
some_length none = omega arith
some_length (came e h) = omega (arith, some_length h)
some_length (lost h) = omega (arith, some_length h)

-- ---- what a completion carries

-- a completion that is read has its payload whole
pub whole : (s : List ℕ) (c : Completion) → completion_of s ≡ Ok c → (valid_completion c ≡ true) × (length s ≡ 12 + 4 * c.length)
whole s c e = subst (Whole s) e (read_whole s)

-- data is some bytes at least, where any are left
pub useful_some : (n : ℕ) (s : List ℕ) (c : Completion) → completion_of s ≡ Ok c → carries c ≡ true → 0 < n → 0 < useful c n
useful_some n s c e f p =
    omega (arith, some_word c (whole s c e).0 (and_right (eqb c.status 0) c.payload f))

-- and they stand in the payload
pub useful_length : (n : ℕ) (s : List ℕ) (c : Completion) → completion_of s ≡ Ok c → length (useful_bytes (c.lower % 4) (useful c n) (drop 12 s)) ≡ useful c n
useful_length n s c e =
    omega (arith, length-take (useful c n) (drop (c.lower % 4) (drop 12 s)), length-drop (c.lower % 4) (drop 12 s), length-drop 12 s, (whole s c e).1)

-- ---- what is stated, and what comes next

-- the first of a list states what is left, if it carries data
stated : {s y : List ℕ} (m : List (List ℕ)) (a n : ℕ) (c : Completion) → completion_of s ≡ Ok c → s ≡ y → carries c ≡ true → InTurn a n m (completion_of y) → States a n c
stated m a n c e q f i =
    subst (λ (z : Bool). When z (States a n c)) f (subst (InTurn a n m) (ap completion_of (sym q) ∙ e) i).0

-- no completion states more than is left
pub states_most : {s : List ℕ} {l r : List (List ℕ)} (a n : ℕ) (c : Completion) → completion_of s ≡ Ok c → carries c ≡ true → Sends a n r → Some (s ∷ l) r → c.count ≤ n
states_most a n c e f w (came {m = m} q h) = omega (arith, (stated m a n c e q f w.1).count)
states_most a n c e f w (lost {x = y} h) = omega (arith, states_most (a + carried n y) (n - carried n y) c e f w.2 h)

-- the next that comes, in a list sent for n bytes from a on, with what is left of that list
pub record Next (a n : ℕ) (c : Completion) (s : List ℕ) (l r : List (List ℕ)) : Type 0 where
  pub left : List (List ℕ)
  pub states : States a n c
  pub bytes : bytes_sent n r ≡ useful_bytes (c.lower % 4) (useful c n) (drop 12 s) ++ bytes_sent (n - useful c n) left
  pub sends : Sends (a + useful c n) (n - useful c n) left
  pub comes : Some l left

-- what carries no bytes has none
none_carried : (n : ℕ) (y : List ℕ) → 0 < n → carried n y ≡ 0 → (r : Result Completion Refusal) → completion_of y ≡ r → data_by n (drop 12 y) r ≡ []
none_carried n y p z (Err r) e = refl
none_carried n y p z (Ok d) e = by (carries d) refl
  where
    by : (b : Bool) → carries d ≡ b → cond b (useful_bytes (d.lower % 4) (useful d n) (drop 12 y)) [] ≡ []
    by true f = let u : carried n y ≡ useful d n = rw (e, f) in absurd (omega (arith, useful_some n y d e f p))
    by false f = refl

-- it may stand before the next
skips : {c : Completion} {s : List ℕ} {l m : List (List ℕ)} (a n : ℕ) (y : List ℕ) → 0 < n → carried n y ≡ 0 → Next a n c s l m → Next a n c s l (y ∷ m)
skips a n y p z x =
    let u : n - carried n y ≡ n = omega arith in
    record {
      left = x.left;
      states = x.states;
      bytes = rw (none_carried n y p z (completion_of y) refl, u) x.bytes;
      sends = x.sends;
      comes = x.comes;
    }

module _ (c : Completion) (s : List ℕ) (l : List (List ℕ)) (e : completion_of s ≡ Ok c) (f : carries c ≡ true) where
  -- what is sent before data comes carries nothing, where more than is left after it would come
  next_by : {r : List (List ℕ)} (a n : ℕ) → ((y : List ℕ) (m : List (List ℕ)) → 0 < n → Sends (a + carried n y) (n - carried n y) m → Some (s ∷ l) m → carried n y ≡ 0)
      → Sends a n r → Some (s ∷ l) r → Next a n c s l r
  next_by a n z w (came {y = y} {m = m} q h) =
      let u : carried n y ≡ useful c n = rw (sym q, e, f) in
      record {
        left = m;
        states = stated m a n c e q f w.1;
        bytes = rw (sym q, e, f);
        sends = rw u at w.2;
        comes = h;
      }
  next_by a n z w (lost {x = y} {m = m} h) =
      let u = z y m w.0 w.2 h in
      let u₁ : a + carried n y ≡ a = omega arith in
      let u₂ : n - carried n y ≡ n = omega arith in
      skips a n y w.0 u (next_by a n z (rw (u₁, u₂) at w.2) h)

  -- data that states all that is left is the first of the list that carries any
  pub next_comes : {r : List (List ℕ)} (a n : ℕ) → c.count ≡ n → Sends a n r → Some (s ∷ l) r → Next a n c s l r
  next_comes a n g w h =
      next_by a n (λ y m p v k. omega (arith, states_most (a + carried n y) (n - carried n y) c e f v k)) w h

-- nothing follows a failing status
pub last_comes : {s : List ℕ} {l r : List (List ℕ)} (a n : ℕ) (c : Completion) → completion_of s ≡ Ok c → fails c ≡ true → Sends a n r → Some (s ∷ l) r → l ≡ []
last_comes a n c e f w (came {m = m} q h) =
    let i = subst (InTurn a n m) (ap completion_of (sym q) ∙ e) w.1 in
    some_none (rw (subst (λ (z : Bool). When z (m ≡ [])) f i.1) at h)
last_comes a n c e f w (lost {x = y} h) = last_comes (a + carried n y) (n - carried n y) c e f w.2 h

-- nor the last byte
pub sends_none : (a : ℕ) (r : List (List ℕ)) → Sends a 0 r → r ≡ []
sends_none a [] w = refl
sends_none a (y ∷ r) w = absurd (omega (arith, w.0))

-- ---- good bytes

pub good_carries : (requester : ℕ) (c : Completion) → is_good requester c ≡ true → carries c ≡ true
good_carries r c e =
    (row (eqb c.requester r) (carries c ∷ not c.poisoned ∷ ltb (4 * c.length) (c.lower % 4 + c.count + 4) ∷ []) e).1.0

-- the first of a list and g more that come
good_first : (requester a n g : ℕ) (m : List (List ℕ)) (r : Result Completion Refusal) → InTurn a n m r → g ≤ n - carried_by n r → good_by requester r + g ≤ n
good_first q a n g m (Err r) i l = omega arith
good_first q a n g m (Ok c) i l = by (is_good q c) refl
  where
    by : (b : Bool) → is_good q c ≡ b → cond b (useful c c.count) 0 + g ≤ n
    by false f = omega arith
    by true f =
        let z = good_carries q c f in
        let k : g ≤ n - useful c n = rw z at l in
        let t : States a n c = subst (λ (z : Bool). When z (States a n c)) z i.0 in
        rw t.count (omega arith)

-- no more come than are left
pub good_most : {l r : List (List ℕ)} (requester a n : ℕ) → Sends a n r → Some l r → good_bytes requester l ≤ n
good_most q a n w none = omega arith
good_most q a n w (came {x = x} {y = y} {l = l} {m = m} e h) =
    let z : carried n y ≡ carried n x = ap (carried n) (sym e) in
    good_first q a n (good_bytes q l) m (completion_of x) (rw (sym e) at w.1) (omega (arith, good_most q (a + carried n y) (n - carried n y) w.2 h))
good_most q a n w (lost {x = y} h) = omega (arith, good_most q (a + carried n y) (n - carried n y) w.2 h)

pub good_none : (requester : ℕ) (s : List ℕ) (c : Completion) → completion_of s ≡ Ok c → carries c ≡ false → good_by requester (completion_of s) ≡ 0
good_none q s c e f = by (is_good q c) refl
  where
    by : (b : Bool) → is_good q c ≡ b → good_by q (completion_of s) ≡ 0
    by true g = no_way (sym (good_carries q c g) ∙ f)
    by false g = rw (e, g)

-- where all that is left comes as good bytes: the next that carries data is good, and states what is left
pub record GoodNext (requester a n : ℕ) (c : Completion) : Type 0 where
  pub good : is_good requester c ≡ true
  pub count : c.count ≡ n
  pub lower : c.lower ≡ a % 128

module _ (requester : ℕ) (c : Completion) (s : List ℕ) (l : List (List ℕ)) (e : completion_of s ≡ Ok c) (f : carries c ≡ true) where
  is_good_lem : {a n : ℕ} {r : List (List ℕ)} → 0 < n → Next a n c s l r → n ≤ good_bytes requester (s ∷ l) → (b : Bool) → is_good requester c ≡ b → is_good requester c ≡ true
  is_good_lem p x g true t = t
  is_good_lem {a} {n} p x g false t =
      let z : good_by requester (completion_of s) ≡ 0 = rw (e, t) in
      absurd (omega (arith, useful_some n s c e f p, good_most requester (a + useful c n) (n - useful c n) x.sends x.comes))

  pub good_next : {r : List (List ℕ)} (a n : ℕ) → 0 < n → Sends a n r → Some (s ∷ l) r → n ≤ good_bytes requester (s ∷ l) → GoodNext requester a n c
  good_next a n p w h g =
      let x = next_by c s l e f a n (λ y m p v k. omega (arith, good_most requester (a + carried n y) (n - carried n y) v k)) w h in
      record { good = is_good_lem p x g (is_good requester c) refl; count = x.states.count; lower = x.states.lower }

fails_carries : (c : Completion) → fails c ≡ true → carries c ≡ false
fails_carries c e = rw (not-true (eqb c.status 0) (and_left (not (eqb c.status 0)) (not (eqb c.status 2)) e))

-- and none fails
pub good_not_fails : {s : List ℕ} {l r : List (List ℕ)} (requester a n : ℕ) (c : Completion) → completion_of s ≡ Ok c → 0 < n → Sends a n r → Some (s ∷ l) r → n ≤ good_bytes requester (s ∷ l) → fails c ≡ true → ⊥
good_not_fails {s} {l} q a n c e p w h g f =
    let z : good_bytes q l ≡ 0 = ap (good_bytes q) (last_comes a n c e f w h) in
    omega (arith, good_none q s c e (fails_carries c f))
