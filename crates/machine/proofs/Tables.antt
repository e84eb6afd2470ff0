-- A row that is written is a setter for each of its columns, and a cell of a column is a field of its row.
use Rattle.std.proofs.Common.{◌≡◌, ℕ, suc, List, [], ◌∷◌, set, get_or, map, length, drop, refl, sym, ap, arith}
use Rattle.std.proofs.lemmas.List.{map-set}
use Rattle.std.proofs.Math.ListN.{get_or-map}
use Rattle.std.proofs.Math.Seq.{map-set_same}
use Rattle.parts.specs.declared.State.{State}
use Rattle.parts.specs.declared.TagRow.{TagRow}
use Rattle.parts.specs.declared.SlotRow.{SlotRow}
use Rattle.parts.specs.Code.Struct.{owners_of, places_of, nexts_of, kinds_of, sents_of, states_of, sizes_of, pieces_of, faults_of, causes_of, sessions_of}
use Rattle.machine.specs.Bridge.{set_sent, set_owner, set_place, set_next, set_kind, set_state, set_size, set_pieces, set_fault, set_cause, set_session}
use Rattle.machine.specs.Code.Tables.{bridge_of}

-- what stands where there is no row
abbrev pub no_tag : TagRow
no_tag = record { sent = 0; owner = 0; place = 0; next = 0; kind = 0 }

abbrev pub no_slot : SlotRow
no_slot = record { state = 0; size = 0; pieces = 0; fault = 0; cause = 0; session = 0 }

abbrev pub tag_row : State → ℕ → TagRow
tag_row b t = get_or b.tags t no_tag

abbrev pub slot_row : State → ℕ → SlotRow
slot_row b k = get_or b.slots k no_slot

-- ---- the state with a row put anew

abbrev pub with_tag : ℕ → TagRow → State → State
with_tag t r b = record { settings = b.settings; core = b.core; missing = b.missing; tags = set b.tags t r; slots = b.slots }

abbrev pub with_slot : ℕ → SlotRow → State → State
with_slot k r b = record { settings = b.settings; core = b.core; missing = b.missing; tags = b.tags; slots = set b.slots k r }

module _ (cells : List ℕ) (b : State) where
  pub put_tag : (t : ℕ) (r : TagRow) → bridge_of cells (with_tag t r b) ≡ set_sent t r.sent (set_owner t r.owner (set_place t r.place (set_next t r.next (set_kind t r.kind (bridge_of cells b)))))
  put_tag t r =
      rw (
        map-set (λ (x : TagRow). x.sent) b.tags t r,
        map-set (λ (x : TagRow). x.owner) b.tags t r,
        map-set (λ (x : TagRow). x.place) b.tags t r,
        map-set (λ (x : TagRow). x.next) b.tags t r,
        map-set (λ (x : TagRow). x.kind) b.tags t r,
      )

  pub put_slot : (k : ℕ) (r : SlotRow) → bridge_of cells (with_slot k r b) ≡ set_state k r.state (set_size k r.size (set_pieces k r.pieces (set_fault k r.fault (set_cause k r.cause (set_session k r.session (bridge_of cells b))))))
  put_slot k r =
      rw (
        map-set (λ (x : SlotRow). x.state) b.slots k r,
        map-set (λ (x : SlotRow). x.size) b.slots k r,
        map-set (λ (x : SlotRow). x.pieces) b.slots k r,
        map-set (λ (x : SlotRow). x.fault) b.slots k r,
        map-set (λ (x : SlotRow). x.cause) b.slots k r,
        map-set (λ (x : SlotRow). x.session) b.slots k r,
      )

-- ---- a cell

pub owner_cell : (rows : List TagRow) (t : ℕ) → get_or (owners_of rows) t 0 ≡ (get_or rows t no_tag).owner
owner_cell rows t = get_or-map (λ (r : TagRow). r.owner) rows t no_tag

pub place_cell : (rows : List TagRow) (t : ℕ) → get_or (places_of rows) t 0 ≡ (get_or rows t no_tag).place
place_cell rows t = get_or-map (λ (r : TagRow). r.place) rows t no_tag

pub next_cell : (rows : List TagRow) (t : ℕ) → get_or (nexts_of rows) t 0 ≡ (get_or rows t no_tag).next
next_cell rows t = get_or-map (λ (r : TagRow). r.next) rows t no_tag

pub kind_cell : (rows : List TagRow) (t : ℕ) → get_or (kinds_of rows) t 0 ≡ (get_or rows t no_tag).kind
kind_cell rows t = get_or-map (λ (r : TagRow). r.kind) rows t no_tag

pub sent_cell : (rows : List TagRow) (t : ℕ) → get_or (sents_of rows) t 0 ≡ (get_or rows t no_tag).sent
sent_cell rows t = get_or-map (λ (r : TagRow). r.sent) rows t no_tag

pub state_cell : (rows : List SlotRow) (k : ℕ) → get_or (states_of rows) k 0 ≡ (get_or rows k no_slot).state
state_cell rows k = get_or-map (λ (r : SlotRow). r.state) rows k no_slot

pub size_cell : (rows : List SlotRow) (k : ℕ) → get_or (sizes_of rows) k 0 ≡ (get_or rows k no_slot).size
size_cell rows k = get_or-map (λ (r : SlotRow). r.size) rows k no_slot

pub pieces_cell : (rows : List SlotRow) (k : ℕ) → get_or (pieces_of rows) k 0 ≡ (get_or rows k no_slot).pieces
pieces_cell rows k = get_or-map (λ (r : SlotRow). r.pieces) rows k no_slot

pub fault_cell : (rows : List SlotRow) (k : ℕ) → get_or (faults_of rows) k 0 ≡ (get_or rows k no_slot).fault
fault_cell rows k = get_or-map (λ (r : SlotRow). r.fault) rows k no_slot

pub cause_cell : (rows : List SlotRow) (k : ℕ) → get_or (causes_of rows) k 0 ≡ (get_or rows k no_slot).cause
cause_cell rows k = get_or-map (λ (r : SlotRow). r.cause) rows k no_slot

pub session_cell : (rows : List SlotRow) (k : ℕ) → get_or (sessions_of rows) k 0 ≡ (get_or rows k no_slot).session
session_cell rows k = get_or-map (λ (r : SlotRow). r.session) rows k no_slot

-- ---- a row of which some fields are written: a setter for each of these, since the other columns keep their cells

module _ (cells : List ℕ) (b : State) (k : ℕ) where
  kept : (f : SlotRow → ℕ) (r : SlotRow) → f r ≡ f (slot_row b k) → map f (set b.slots k r) ≡ map f b.slots
  kept f r e = map-set_same f b.slots k r no_slot e

  abbrev pub faulted_row : ℕ → ℕ → SlotRow
  faulted_row place code =
      record { state = (slot_row b k).state; size = (slot_row b k).size; pieces = (slot_row b k).pieces; fault = place; cause = code; session = (slot_row b k).session }

  pub put_fault_cause : (place code : ℕ) → bridge_of cells (with_slot k (faulted_row place code) b) ≡ set_fault k place (set_cause k code (bridge_of cells b))
  put_fault_cause place code =
      let r = faulted_row place code in
      rw (
        kept (λ (x : SlotRow). x.state) r refl,
        kept (λ (x : SlotRow). x.size) r refl,
        kept (λ (x : SlotRow). x.pieces) r refl,
        map-set (λ (x : SlotRow). x.fault) b.slots k r,
        map-set (λ (x : SlotRow). x.cause) b.slots k r,
        kept (λ (x : SlotRow). x.session) r refl,
      )

  abbrev pub closed_row : ℕ → ℕ → SlotRow
  closed_row state pieces =
      record { state = state; size = (slot_row b k).size; pieces = pieces; fault = (slot_row b k).fault; cause = (slot_row b k).cause; session = (slot_row b k).session }

  pub put_state_pieces : (state pieces : ℕ) → bridge_of cells (with_slot k (closed_row state pieces) b) ≡ set_state k state (set_pieces k pieces (bridge_of cells b))
  put_state_pieces state pieces =
      let r = closed_row state pieces in
      rw (
        map-set (λ (x : SlotRow). x.state) b.slots k r,
        kept (λ (x : SlotRow). x.size) r refl,
        map-set (λ (x : SlotRow). x.pieces) b.slots k r,
        kept (λ (x : SlotRow). x.fault) r refl,
        kept (λ (x : SlotRow). x.cause) r refl,
        kept (λ (x : SlotRow). x.session) r refl,
      )

  pub put_pieces_lem : (pieces : ℕ) → bridge_of cells (with_slot k (closed_row (slot_row b k).state pieces) b) ≡ set_pieces k pieces (bridge_of cells b)
  put_pieces_lem pieces =
      let r = closed_row (slot_row b k).state pieces in
      rw (
        kept (λ (x : SlotRow). x.state) r refl,
        kept (λ (x : SlotRow). x.size) r refl,
        map-set (λ (x : SlotRow). x.pieces) b.slots k r,
        kept (λ (x : SlotRow). x.fault) r refl,
        kept (λ (x : SlotRow). x.cause) r refl,
        kept (λ (x : SlotRow). x.session) r refl,
      )

  pub put_state_lem : (state : ℕ) → bridge_of cells (with_slot k (closed_row state (slot_row b k).pieces) b) ≡ set_state k state (bridge_of cells b)
  put_state_lem state =
      let r = closed_row state (slot_row b k).pieces in
      rw (
        map-set (λ (x : SlotRow). x.state) b.slots k r,
        kept (λ (x : SlotRow). x.size) r refl,
        kept (λ (x : SlotRow). x.pieces) r refl,
        kept (λ (x : SlotRow). x.fault) r refl,
        kept (λ (x : SlotRow). x.cause) r refl,
        kept (λ (x : SlotRow). x.session) r refl,
      )

  abbrev pub dropped_row : ℕ → SlotRow
  dropped_row code =
      record { state = 2; size = (slot_row b k).size; pieces = 0; fault = (slot_row b k).fault; cause = code; session = (slot_row b k).session }

  pub put_dropped : (code : ℕ) → bridge_of cells (with_slot k (dropped_row code) b) ≡ set_state k 2 (set_pieces k 0 (set_cause k code (bridge_of cells b)))
  put_dropped code =
      let r = dropped_row code in
      rw (
        map-set (λ (x : SlotRow). x.state) b.slots k r,
        kept (λ (x : SlotRow). x.size) r refl,
        map-set (λ (x : SlotRow). x.pieces) b.slots k r,
        kept (λ (x : SlotRow). x.fault) r refl,
        map-set (λ (x : SlotRow). x.cause) b.slots k r,
        kept (λ (x : SlotRow). x.session) r refl,
      )

module _ (cells : List ℕ) (b : State) (t : ℕ) where
  same : (f : TagRow → ℕ) (r : TagRow) → f r ≡ f (tag_row b t) → map f (set b.tags t r) ≡ map f b.tags
  same f r e = map-set_same f b.tags t r no_tag e

  abbrev pub counted_row : ℕ → ℕ → TagRow
  counted_row place next =
      record { sent = (tag_row b t).sent; owner = (tag_row b t).owner; place = place; next = next; kind = (tag_row b t).kind }

  pub put_place_next : (place next : ℕ) → bridge_of cells (with_tag t (counted_row place next) b) ≡ set_place t place (set_next t next (bridge_of cells b))
  put_place_next place next =
      let r = counted_row place next in
      rw (
        same (λ (x : TagRow). x.sent) r refl,
        same (λ (x : TagRow). x.owner) r refl,
        map-set (λ (x : TagRow). x.place) b.tags t r,
        map-set (λ (x : TagRow). x.next) b.tags t r,
        same (λ (x : TagRow). x.kind) r refl,
      )

-- ---- rows are decided by their columns

no_rows : {A : Type 0} → (n : ℕ) → ◌≡◌ {A = ℕ} (suc n) 0 → A
no_rows n e = absurd (omega (arith, e))

abbrev tag_of : ℕ → ℕ → ℕ → ℕ → ℕ → TagRow
tag_of a b c d e = record { sent = a; owner = b; place = c; next = d; kind = e }

same_tag : (r s : TagRow) → r.sent ≡ s.sent → r.owner ≡ s.owner → r.place ≡ s.place → r.next ≡ s.next → r.kind ≡ s.kind → r ≡ s
same_tag r s a b c d e =
    let z : tag_of r.sent r.owner r.place r.next r.kind ≡ tag_of s.sent s.owner s.place s.next s.kind = rw (a, b, c, d, e) in z

pub tags_agree : (x y : List TagRow) → length x ≡ length y → sents_of x ≡ sents_of y → owners_of x ≡ owners_of y → places_of x ≡ places_of y
    → nexts_of x ≡ nexts_of y → kinds_of x ≡ kinds_of y → x ≡ y
tags_agree [] [] l a b c d e = refl
tags_agree [] (s ∷ y) l a b c d e = no_rows (length y) (sym l)
tags_agree (r ∷ x) [] l a b c d e = no_rows (length x) l
tags_agree (r ∷ x) (s ∷ y) l a b c d e =
    let h : r ≡ s = same_tag r s (cc) (cc) (cc) (cc) (cc) in
    let t : x ≡ y = tags_agree x y (omega (arith, l)) (ap (drop 1) a) (ap (drop 1) b) (ap (drop 1) c) (ap (drop 1) d) (ap (drop 1) e) in
    rw (h, t)

abbrev slot_of : ℕ → ℕ → ℕ → ℕ → ℕ → ℕ → SlotRow
slot_of a b c d e f = record { state = a; size = b; pieces = c; fault = d; cause = e; session = f }

same_slot : (r s : SlotRow) → r.state ≡ s.state → r.size ≡ s.size → r.pieces ≡ s.pieces → r.fault ≡ s.fault → r.cause ≡ s.cause → r.session ≡ s.session → r ≡ s
same_slot r s a b c d e f =
    let z : slot_of r.state r.size r.pieces r.fault r.cause r.session ≡ slot_of s.state s.size s.pieces s.fault s.cause s.session = rw (a, b, c, d, e, f) in z

pub slots_agree : (x y : List SlotRow) → length x ≡ length y → states_of x ≡ states_of y → sizes_of x ≡ sizes_of y → pieces_of x ≡ pieces_of y
    → faults_of x ≡ faults_of y → causes_of x ≡ causes_of y → sessions_of x ≡ sessions_of y → x ≡ y
slots_agree [] [] l a b c d e f = refl
slots_agree [] (s ∷ y) l a b c d e f = no_rows (length y) (sym l)
slots_agree (r ∷ x) [] l a b c d e f = no_rows (length x) l
slots_agree (r ∷ x) (s ∷ y) l a b c d e f =
    let h : r ≡ s = same_slot r s (cc) (cc) (cc) (cc) (cc) (cc) in
    let t : x ≡ y = slots_agree x y (omega (arith, l)) (ap (drop 1) a) (ap (drop 1) b) (ap (drop 1) c) (ap (drop 1) d) (ap (drop 1) e) (ap (drop 1) f) in
    rw (h, t)
