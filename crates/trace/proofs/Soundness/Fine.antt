-- What holds of every state, the room of the store apart, and what follows from it at once.
use Prim.Native.Nat.{ℕ, zero, suc, ◌+◌, ◌-◌, ◌^◌, ◌≤◌, ◌<◌}
use mathlib.Core.Path.{◌≡◌, refl, ◌∙◌, subst}
use mathlib.Core.Logic.{◌⊎◌, ◌≢◌}
use mathlib.Core.List.{List, [], ◌∷◌}
use mathlib.Core.Bool.{Bool, true, false, cond}
use native.Mathlib.Omega.{arith}
use native.Mathlib.Decide.{dec_le}
use lib.ListN.{length, get_or}
use lib.Dec.{ltb, eqb}
use borrow.Author.Tests.{eqb-true, ne_eqb, lt-ltb, le-ltb}
use Rattle.bits.specs.Bits.{is_set}
use Rattle.address.specs.Settings.{settings_number}
use Rattle.machine.specs.State.{Bridge, Slot, slot_at, tag_count, missing_of, sent_of, owner_of, place_of, Open, registers_of}
use Rattle.machine.specs.Ticks.{age_of}
use Rattle.machine.specs.Take.{state_in, state_of}
use Rattle.bridge_laws.proofs.Parts.{same_state, same_pieces}
use Rattle.trace.specs.Sound.{open_in, pieces_in, Tables}
use Rattle.trace.proofs.Soundness.Cases.{or_else}
use Rattle.trace.proofs.Soundness.Counts.{is_named, open_counted}

-- an open tag, younger than the time limit plus `over`
pub record TagFits (over : ℕ) (b : Bridge) (t : ℕ) : Type 0 where
  pub used : is_set b.core.free t ≡ false
  pub whole : place_of b t + missing_of b t ≤ 4096
  pub inside : owner_of b t < 8 → place_of b t + missing_of b t ≤ get_or b.size (owner_of b t) 0
  pub past : sent_of b t < 2 ^ 32
  pub young : age_of b.core.ticks (sent_of b t) < b.settings.limit + over

-- the row of a read slot
pub record SlotFits (s : Slot) : Type 0 where
  pub alive : s.state ≡ 1 → 0 < s.pieces
  pub fits : s.state ≢ 0 → s.size ≤ 4096
  pub marked : s.state ≡ 1 → (s.fault ≡ 4096) ⊎ (s.cause ≢ 0)

-- no tag is open, and none rests
abbrev pub Idle : Bridge → Type 0
Idle b = (b.core.free ≡ 2 ^ tag_count - 1) × ((t : ℕ) → missing_of b t ≡ 0)

-- n k tags are open for slot k, and tag t, if it is open, is younger than the time limit plus over t
pub record FineAs (n over : ℕ → ℕ) (b : Bridge) : Type 0 where
  pub right : settings_number b.settings ≡ 0
  pub sizes : Tables b
  pub clock : b.core.ticks < 2 ^ 32
  pub tags : (t : ℕ) → Open b t → TagFits (over t) b t
  pub count : (k : ℕ) → open_in b k tag_count ≡ n k
  pub slots : (k : ℕ) → k < 8 → SlotFits (slot_at b k)
  pub down : (registers_of b).link ≡ false → Idle b

-- a slot's open pieces are the tags that are open for it
abbrev pub FineTo : (ℕ → ℕ) → Bridge → Type 0
FineTo over b = FineAs (pieces_in b) over b

-- whatever the ages are
abbrev pub Fine : Bridge → Type 0
Fine b = FineTo (λ t. 2 ^ 32) b

-- the same with other counts, and with other ages
pub recount : {n m over : ℕ → ℕ} {b : Bridge} → ((k : ℕ) → n k ≡ m k) → FineAs n over b → FineAs m over b
recount {over = over} {b = b} e v = subst (λ (z : ℕ → ℕ). FineAs z over b) (λ i k. e k i) v

pub reage : {n over new : ℕ → ℕ} {b : Bridge} → ((t : ℕ) → Open b t → age_of b.core.ticks (sent_of b t) < b.settings.limit + new t) → FineAs n over b → FineAs n new b
reage {new = new} {b = b} y v =
    let tags : (t : ℕ) → Open b t → TagFits (new t) b t =
    λ t m. let w = v.tags t m in record { used = w.used; whole = w.whole; inside = w.inside; past = w.past; young = y t m } in
    search tags

pub ageless : {over : ℕ → ℕ} {b : Bridge} → FineTo over b → Fine b
ageless v = reage (λ t m. omega arith) v

-- ---- the states of slots, and their open pieces

pub state_below : (b : Bridge) (k : ℕ) → k < 8 → state_of b k ≡ get_or b.state k 0
unfolding state_in
state_below b k h = rw (ne_eqb k 8 (λ e. omega arith), lt-ltb k 8 h)

pub state_config : (b : Bridge) → state_of b 8 ≡ b.core.config.state
unfolding state_in
state_config b = refl

pub state_above : (b : Bridge) (k : ℕ) → 8 < k → state_of b k ≡ 0
unfolding state_in
state_above b k h = rw (ne_eqb k 8 (λ e. omega arith), le-ltb k 8 (omega arith))

-- a slot with the same row has the same open pieces, and the configuration slot where it is open as before or closed as before
pub pieces_same : (b x : Bridge) (k : ℕ) → (k ≡ 8 → eqb x.core.config.state 1 ≡ eqb b.core.config.state 1) → slot_at x k ≡ slot_at b k → pieces_in x k ≡ pieces_in b k
unfolding state_in
pieces_same b x k e s = go (eqb k 8) (ltb k 8) refl
  where
    go : (p q : Bool) → eqb k 8 ≡ p
        → cond (eqb (cond p x.core.config.state (cond q (slot_at x k).state 0)) 1) (cond q (slot_at x k).pieces 1) 0
        ≡ cond (eqb (cond p b.core.config.state (cond q (slot_at b k).state 0)) 1) (cond q (slot_at b k).pieces 1) 0
    go true q f = rw (e (eqb-true k 8 f), same_pieces s)
    go false q f = rw (same_state s, same_pieces s)

-- the open pieces that a row says
abbrev pub row_pieces : Slot → ℕ
row_pieces s = cond (eqb s.state 1) s.pieces 0

pub pieces_row : (b : Bridge) (k : ℕ) → k < 8 → pieces_in b k ≡ row_pieces (slot_at b k)
pieces_row b k l = rw (state_below b k l, lt-ltb k 8 l)

pub pieces_open : (b : Bridge) (k : ℕ) → k < 8 → get_or b.state k 0 ≡ 1 → pieces_in b k ≡ get_or b.pieces k 0
pieces_open b k h s = rw (state_below b k h ∙ s, lt-ltb k 8 h)

pub pieces_not : (b : Bridge) (k : ℕ) → state_of b k ≢ 1 → pieces_in b k ≡ 0
pieces_not b k e = rw (ne_eqb (state_of b k) 1 e)

pub some_open : (b : Bridge) (k : ℕ) → 0 < pieces_in b k → state_of b k ≡ 1
some_open b k h = or_else (state_of b k) 1 (λ d. absurd (omega (arith, pieces_not b k d)))

-- ---- the slot of an open tag is open

-- an entry that is not the default is one of the table's
pub entry_below : (l : List ℕ) (t : ℕ) → get_or l t 0 ≢ 0 → t < length l
entry_below [] t h = absurd (h refl)
entry_below (x ∷ l) zero h = omega arith
entry_below (x ∷ l) (suc t) h = omega (arith, entry_below l t h)

pub tag_below : (b : Bridge) (t : ℕ) → Tables b → Open b t → t < tag_count
tag_below b t s h = omega (arith, entry_below b.missing t h, s.missing)

pub owner_open : {over : ℕ → ℕ} (b : Bridge) (t : ℕ) → FineTo over b → Open b t → state_of b (owner_of b t) ≡ 1
owner_open b t v h =
    let n = open_counted b (owner_of b t) t tag_count (is_named b (owner_of b t) t h refl) (tag_below b t v.sizes h) in
    some_open b (owner_of b t) (omega (arith, n, v.count (owner_of b t)))

pub owner_most : {over : ℕ → ℕ} (b : Bridge) (t : ℕ) → FineTo over b → Open b t → owner_of b t ≤ 8
owner_most b t v h = go (dec_le (owner_of b t) 8)
  where
    go : Dec (owner_of b t ≤ 8) → owner_of b t ≤ 8
    go (yes l) = l
    go (no l) = absurd (omega (arith, state_above b (owner_of b t) (omega arith), owner_open b t v h))
