-- Bytes that are put in a slot, or zeroed, leave those of every other slot.
use Prim.Native.Nat.{ℕ, ◌+◌, ◌-◌, ◌*◌, ◌≤◌, ◌<◌, min}
use mathlib.Core.Path.{◌≡◌, refl, sym, ap, subst, ◌∙◌}
use mathlib.Core.Logic.{inl, inr, ◌≢◌}
use mathlib.Core.List.{List, ◌++◌}
use native.Mathlib.Decide.{dec_lt}
use native.Mathlib.Omega.{arith}
use native.Mathlib.Nat.{add-zero}
use lib.ListN.{length, get_or, take, drop, replicate, length-replicate, get_or-append}
use lib.Seq.{paste, length-paste, length_paste_head, drop-paste, get_or-take, get_or-drop, length-take-le}
use lib.Dec.{leb, eqb}
use Rattle.machine.specs.State.{Bridge, Slot, slot_count, slot_size, slot_open, okay}
use Rattle.machine.specs.Completions.{store_size, Held, held, zeroed}
use Rattle.bridge_laws.specs.Rows.{closed_store, dropped_store}
use Rattle.bridge_laws.specs.CompletionLaws.{Outside, OnlyHere, BytesOnly, Kept}
use Rattle.bridge_laws.proofs.Rows.{either}
use Rattle.bridge_laws.proofs.Verbs.{only_then}

-- bytes that are put inside slot k
pub paste_only : (k p n : ℕ) (d s : List ℕ) → p + n ≤ 4096 → 4096 * k + p + n ≤ length d → n ≤ length s → BytesOnly k d (paste d (4096 * k + p) s n)
paste_only k p n d s f hd hs = record { room = length-paste d (4096 * k + p) s n hd hs; bytes = bytes }
  where
    fits : 4096 * k + p ≤ length d
    fits = omega arith

    bytes : (i : ℕ) → Outside k i → get_or (paste d (4096 * k + p) s n) i 0 ≡ get_or d i 0
    bytes i (inl l) =
        let at = 4096 * k + p in
        let la : length (take at d) ≡ at = length-take-le at d fits in
        let lh : length (take at d ++ take n s) ≡ at + n = length_paste_head d at s n fits hs in
        let b : i < length (take at d ++ take n s) = omega arith in
        let a : i < length (take at d) = omega arith in
        let x : i < at = omega arith in
        get_or-append (take at d ++ take n s) (drop (at + n) d) 0 i b
        ∙ (get_or-append (take at d) (take n s) 0 i a ∙ get_or-take at d i 0 x)
    bytes i (inr l) =
        let at = 4096 * k + p in
        let j = i - (at + n) in
        let q : at + n + j ≡ i = omega arith in
        subst (λ (x : ℕ). get_or (paste d at s n) x 0 ≡ get_or d x 0) q
        (sym (get_or-drop (at + n) (paste d at s n) j 0)
        ∙ (ap (λ (x : List ℕ). get_or x j 0) (drop-paste d at s n fits hs) ∙ get_or-drop (at + n) d j 0))

bytes_same : (k : ℕ) (s : List ℕ) → BytesOnly k s s
bytes_same k s = record { room = refl; bytes = λ i o. refl }

zeroed_only : (k n : ℕ) (d : List ℕ) → k < slot_count → n ≤ 4096 → store_size ≤ length d → BytesOnly k d (zeroed k n d)
zeroed_only k n d a b l =
    let o : ℕ = 0 in
    let z : length (replicate n o) ≡ n = length-replicate n o in
    subst (λ (x : ℕ). BytesOnly k d (paste d x (replicate n 0) n)) (add-zero (4096 * k))
    (paste_only k 0 n d (replicate n 0) (omega arith) (omega arith) (omega arith))

-- where a slot is finished, or not
pub dropped_bytes : (k : ℕ) (s : Slot) (d : List ℕ) → k < slot_count → store_size ≤ length d → BytesOnly k d (dropped_store k s d)
dropped_bytes k s d a l =
    either (BytesOnly k d) (eqb s.state slot_open) _ _ (λ e. zeroed_only k (min s.size slot_size) d a (omega arith) l) (λ e. bytes_same k d)

pub closed_bytes : (k : ℕ) (s : Slot) (d : List ℕ) → k < slot_count → store_size ≤ length d → BytesOnly k d (closed_store k s d)
closed_bytes k s d a l =
    either (BytesOnly k d) (leb s.pieces 1) _ _
    (λ e. either (BytesOnly k d) (eqb s.cause okay) _ _ (λ f. bytes_same k d) (λ f. zeroed_only k (min s.size slot_size) d a (omega arith) l))
    (λ e. bytes_same k d)

-- the bytes of another slot
pub other_slot : {k : ℕ} {s x : List ℕ} → BytesOnly k s x → (j : ℕ) → j ≢ k → (i : ℕ) → i < 4096 → get_or x (4096 * j + i) 0 ≡ get_or s (4096 * j + i) 0
other_slot {k} p j n i l = p.bytes (4096 * j + i) (by (dec_lt j k))
  where
    by : Dec (j < k) → Outside k (4096 * j + i)
    by (yes y) = inl (omega arith)
    by (no y) = let z : k < j = omega (arith, n, y) in inr (omega arith)

-- ---- bridge and store

pub kept_same : (k t : ℕ) (h : Held) → Kept k t h h
kept_same k t h = record { here = search; store = bytes_same k h.store; none = λ l. refl }

pub kept_by : {k t : ℕ} {h : Held} {b : Bridge} → OnlyHere k t h.bridge b → Kept k t h (held b h.store)
kept_by {k = k} {h = h} p = record { here = p; store = bytes_same k h.store; none = λ l. refl }

pub both_kept : {k t : ℕ} {h x y : Held} → Kept k t h x → Kept k t x y → Kept k t h y
both_kept p q = record {
  here = only_then p.here q.here;
  store = record { room = q.store.room ∙ p.store.room; bytes = λ i o. q.store.bytes i o ∙ p.store.bytes i o };
  none = λ l. q.none l ∙ p.none l;
}
