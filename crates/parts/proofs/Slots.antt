-- The search for a free slot, step by step.
use Rattle.std.proofs.Common.{◌≡◌, ℕ, zero, suc, ◌+◌, ◌<◌, List, [], ◌∷◌, length, get_or, refl, sym, ◌∙◌, add-one, arith, eq-eqb, ne_eqb}
use Rattle.std.proofs.Math.ListN.{get_or-map}
use Rattle.std.proofs.lemmas.List.{length-map}
use Rattle.parts.specs.declared.SlotRow.{SlotRow}
use Rattle.parts.specs.Numbers.{free_slot_from}
use Rattle.parts.specs.Code.Struct.{states_of}

-- inside a list the default is not read
pub inside : (l : List ℕ) (i d e : ℕ) → i < length l → get_or l i d ≡ get_or l i e
inside [] i d e h = let z : ◌≡◌ {A = ℕ} 0 1 = omega arith in cc
inside (x ∷ l) zero d e h = refl
inside (x ∷ l) (suc i) d e h = inside l i d e (omega arith)

pub free_none : (s : List ℕ) (k : ℕ) → free_slot_from s k 0 ≡ k
unfolding free_slot_from
free_none s k = refl

pub free_hit : (s : List ℕ) (k n : ℕ) → k < length s → get_or s k 0 ≡ 0 → free_slot_from s k (suc n) ≡ k
unfolding free_slot_from
free_hit s k n h e = let f : get_or s k 1 ≡ 0 = inside s k 1 0 h ∙ e in rw (eq-eqb _ _ f)

pub free_on : (s : List ℕ) (k n : ℕ) → k < length s → (get_or s k 0 ≡ 0 → ⊥) → free_slot_from s k (suc n) ≡ free_slot_from s (k + 1) n
unfolding free_slot_from
free_on s k n h e = let f : get_or s k 1 ≡ 0 → ⊥ = λ x. e (inside s k 0 1 h ∙ x) in rw (ne_eqb _ _ f, add-one k)

-- ---- the same for rows

abbrev no_row : SlotRow
no_row = record { state = 0; size = 0; pieces = 0; fault = 0; cause = 0; session = 0 }

abbrev state_at : List SlotRow → ℕ → ℕ
state_at rows k = (get_or rows k no_row).state

states : (rows : List SlotRow) (k : ℕ) → get_or (states_of rows) k 0 ≡ state_at rows k
states rows k = get_or-map (λ (r : SlotRow). r.state) rows k no_row

pub all_used : (rows : List SlotRow) (k n : ℕ) → n ≡ 0 → free_slot_from (states_of rows) k n ≡ k
all_used rows k n e = rw e (free_none (states_of rows) k)

pub found_free : (rows : List SlotRow) (k n m : ℕ) → n ≡ suc m → k < length rows → state_at rows k ≡ 0 → free_slot_from (states_of rows) k n ≡ k
found_free rows k n m e h f =
    let l : length (states_of rows) ≡ length rows = length-map rows (λ (r : SlotRow). r.state) in
    rw e (free_hit (states_of rows) k m (rw l h) (states rows k ∙ f))

pub used_on : (rows : List SlotRow) (k n m : ℕ) → n ≡ suc m → k < length rows → (state_at rows k ≡ 0 → ⊥) → free_slot_from (states_of rows) k n ≡ free_slot_from (states_of rows) (k + 1) m
used_on rows k n m e h f =
    let l : length (states_of rows) ≡ length rows = length-map rows (λ (r : SlotRow). r.state) in
    rw e (free_on (states_of rows) k m (rw l h) (λ x. f (sym (states rows k) ∙ x)))
