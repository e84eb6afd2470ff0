-- One read, from the time it is accepted: unless a piece has failed, a tag waits for each piece, or its bytes are in place.
use Prim.Native.Nat.{ℕ, ◌+◌, ◌*◌, ◌≤◌, ◌<◌}
use mathlib.Core.Path.{◌≡◌, sym, subst, ◌∙◌}
use mathlib.Core.Logic.{◌≢◌}
use mathlib.Core.List.{List}
use native.Mathlib.Omega.{arith}
use lib.ListN.{length, get_or}
use lib.Dec.{leb, ltb}
use borrow.Author.Tests.{lt-ltb, eq-eqb}
use Rattle.burst.specs.declared.Burst.{Burst}
use Rattle.burst.specs.declared.Piece.{Piece}
use Rattle.burst.specs.Bursts.{length_of}
use Rattle.burst.proofs.Tiling.{piece_within}
use Rattle.verdict.specs.declared.Cause.{Cause}
use Rattle.machine.specs.State.{Bridge, Tag, Slot, tag_at, slot_at, owner_of, Open}
use Rattle.machine.specs.Memory.{pieces_of, piece_of, place_in}
use Rattle.machine.specs.Verdict.{cause_response}
use Rattle.machine.specs.Completions.{Held}
use Rattle.bridge_laws.specs.Rows.{faulted_slot, closed_slot, dropped_slot}
use Rattle.bridge_laws.proofs.Parts.{same_missing, same_owner}
use Rattle.trace.specs.Events.{Event}
use Rattle.trace.specs.FarSide.{bytes_sent, Wire}
use Rattle.trace.proofs.Tags.Wire.{own_of, Flow}
use Rattle.trace.proofs.Bytes.Put.{either}
use Rattle.trace.proofs.Soundness.Serving.{cause_not_okay}

-- ---- its slot

-- a piece has failed
pub record Spoilt (s : Slot) : Type 0 where
  pub used : s.state ≢ 0
  pub cause : s.cause ≢ 0

-- none has
pub record Sane (n : ℕ) (s : Slot) : Type 0 where
  pub used : s.state ≢ 0
  pub cause : s.cause ≡ 0
  pub fault : s.fault ≡ 4096
  pub size : s.size ≡ n

pub closed_spoilt : {s : Slot} → Spoilt s → Spoilt (closed_slot s)
closed_spoilt {s} p = either Spoilt (leb s.pieces 1) (record { used = λ e. omega arith; cause = p.cause }) (record { used = p.used; cause = p.cause })

pub closed_sane : {n : ℕ} {s : Slot} → Sane n s → Sane n (closed_slot s)
closed_sane {n} {s} p =
    either (Sane n) (leb s.pieces 1)
    (record { used = λ e. omega arith; cause = p.cause; fault = p.fault; size = p.size })
    (record { used = p.used; cause = p.cause; fault = p.fault; size = p.size })

pub open_dropped : (s : Slot) → s.state ≡ 1 → Spoilt (dropped_slot s)
open_dropped s e = rw (eq-eqb s.state 1 e) (record { used = λ z. omega arith; cause = λ z. omega arith })

-- ---- its tags

-- a tag is open for slot k
abbrev pub Waits : ℕ → Bridge → ℕ → Type 0
Waits k b t = Open b t × (owner_of b t ≡ k)

pub waits_same : (k : ℕ) (b x : Bridge) (t : ℕ) → tag_at x t ≡ tag_at b t → Waits k b t → Waits k x t
waits_same k b x t e m = (λ z. m.0 (sym (same_missing e) ∙ z), same_owner e ∙ m.1)

-- ---- the read

-- slot k has the same bytes
abbrev pub BytesSame : ℕ → Held → Held → Type 0
BytesSame k h x = (y : ℕ) → y < 4096 → get_or x.store (4096 * k + y) 0 ≡ get_or h.store (4096 * k + y) 0

-- burst and slot of a read that is cut at multiples of a limit; its requests are numbered from the first on
pub record Read : Type 0 where
  pub sent : ℕ → List (List ℕ)
  pub limit : ℕ
  pub burst : Burst
  pub slot : ℕ
  pub first : ℕ
  pub some : 0 < limit
  pub small : slot < 8
  pub most : length_of burst ≤ 4096

module _ (r : Read) where
  abbrev pub count : ℕ
  count = pieces_of r.limit r.burst

  abbrev pub piece : ℕ → Piece
  piece j = piece_of r.limit r.burst j

  abbrev pub place : ℕ → ℕ
  place j = place_in r.burst (piece j)

  -- what the list of the j-th request sends
  unfoldable pub part : ℕ → List ℕ
  part j = bytes_sent (piece j).length (r.sent (r.first + j))

  -- byte x of piece j is in place
  abbrev pub Right : List ℕ → ℕ → ℕ → Type 0
  Right store j x = get_or store (4096 * r.slot + (place j + x)) 0 ≡ get_or (part j) x 0

  -- a tag waits for piece j, with this row and its request's number: the bytes before the tag's place have come
  pub record Mine (store : List ℕ) (es : List Event) (number : ℕ) (t : Tag) (j : ℕ) : Type 0 where
    pub own : number ≡ r.first + j
    pub next : ℕ
    pub flow : Flow r.sent es (r.first + j) (piece j).length next t.missing
    pub ends : t.place + t.missing ≡ place j + (piece j).length
    pub bytes : (x : ℕ) → place j + x < t.place → Right store j x

  -- piece j has come
  pub record Whole (store : List ℕ) (j : ℕ) : Type 0 where
    pub exact : length (part j) ≡ (piece j).length
    pub bytes : (x : ℕ) → x < (piece j).length → Right store j x

  -- no piece has failed: each tag of the slot waits for a piece, and a piece for whose request none waits has come
  pub record Clean (h : Held) (w : Wire) (es : List Event) : Type 0 where
    pub slot : Sane (length_of r.burst) (slot_at h.bridge r.slot)
    pub mine : (t : ℕ) → Waits r.slot h.bridge t → (j : ℕ) × (j < count) × Mine h.store es (own_of w.live t) (tag_at h.bridge t) j
    pub whole : (j : ℕ) → j < count → ((t : ℕ) → Waits r.slot h.bridge t → own_of w.live t ≢ r.first + j) → Whole h.store j

  pub data Stage (h : Held) (w : Wire) (es : List Event) : Type 0 where
    spoilt : Spoilt (slot_at h.bridge r.slot) → Stage h w es
    clean : Clean h w es → Stage h w es

  pub stage_used : {h : Held} {w : Wire} {es : List Event} → Stage h w es → (slot_at h.bridge r.slot).state ≢ 0
  stage_used (spoilt s) = s.used
  stage_used (clean c) = c.slot.used

  -- a failure spoils it
  pub fails : {h : Held} {w : Wire} {es : List Event} (at : ℕ) (why : Cause) → at < 4096 → Stage h w es → Spoilt (faulted_slot at (cause_response why) (slot_at h.bridge r.slot))
  fails {h} at why l (spoilt s) = either Spoilt (ltb at (slot_at h.bridge r.slot).fault) (record { used = s.used; cause = cause_not_okay why }) s
  fails {h} at why l (clean c) = rw (lt-ltb at (slot_at h.bridge r.slot).fault (omega (arith, c.slot.fault))) (record { used = c.slot.used; cause = cause_not_okay why })

  -- a piece lies in the burst
  pub inside : (j : ℕ) → j < count → place j + (piece j).length ≤ length_of r.burst
  inside j l = let w = piece_within r.limit r.burst.start.0 (length_of r.burst) j r.some l in omega arith

  -- ---- an event that concerns the read in nothing

  -- its slot, its bytes, its tags and their requests are as they were
  pub record Aside (h x : Held) (w z : Wire) : Type 0 where
    pub slot : slot_at x.bridge r.slot ≡ slot_at h.bridge r.slot
    pub bytes : BytesSame r.slot h x
    pub tags : (t : ℕ) → Waits r.slot h.bridge t → tag_at x.bridge t ≡ tag_at h.bridge t
    pub own : (t : ℕ) → Waits r.slot h.bridge t → own_of z.live t ≡ own_of w.live t
    pub back : (t : ℕ) → Waits r.slot x.bridge t → Waits r.slot h.bridge t

  -- what was still to come for a request is so after an event, but for what has come
  abbrev pub Later : List Event → List Event → Type 0
  Later fs es = (i n a m : ℕ) → Flow r.sent fs i n a m → Flow r.sent es i n a m

  -- a piece whose tag's row and request are the same, and whose bytes stay right
  pub mine_stays : {d s : List ℕ} {fs es : List Event} {n m j : ℕ} {t u : Tag} → Later fs es → m ≡ n → u ≡ t → ((x : ℕ) → x < (piece j).length → Right d j x → Right s j x) → Mine d fs n t j → Mine s es m u j
  mine_stays {s = s} {es = es} {m = m} {j = j} {t = t} l e f g y =
      subst (λ (u : Tag). Mine s es m u j) (sym f)
      (record {
        own = e ∙ y.own;
        next = y.next;
        flow = l (r.first + j) (piece j).length y.next t.missing y.flow;
        ends = y.ends;
        bytes = λ x l. g x (omega (arith, y.ends)) (y.bytes x l);
      })

  pub stage_stays : {h x : Held} {w z : Wire} {fs es : List Event} → Later fs es → Aside h x w z → Stage h w fs → Stage x z es
  stage_stays f a (spoilt s) = spoilt (subst Spoilt (sym a.slot) s)
  stage_stays {h} {x} {w} {z} {es} f a (clean c) =
      clean (record {
        slot = subst (Sane (length_of r.burst)) (sym a.slot) c.slot;
        mine = λ t m.
            let n = a.back t m in
            let y = c.mine t n in
            (y.0, y.1, mine_stays f (a.own t n) (a.tags t n) (right y.0 y.1) y.2);
        whole = λ j l n.
            let y = c.whole j l (λ t m o. n t (waits_same r.slot h.bridge x.bridge t (a.tags t m) m) (a.own t m ∙ o)) in
            record { exact = y.exact; bytes = λ i g. right j l i g (y.bytes i g) };
      })
    where
      right : (j : ℕ) → j < count → (i : ℕ) → i < (piece j).length → Right h.store j i → Right x.store j i
      right j l i g e = a.bytes (place j + i) (omega (arith, inside j l, r.most)) ∙ e
