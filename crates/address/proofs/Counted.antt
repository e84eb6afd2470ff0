-- A walk over some windows and the longer walk over all six: the count may be looked at last.
use Rattle.std.proofs.Common.{◌≡◌, ℕ, zero, suc, ◌+◌, ◌<◌, ◌≤◌, min, Bool, true, false, cond, ltb, Option, Some, None, List, get_or, sym, refl, ap, ◌∙◌, arith, le-ltb, lt-ltb}
use Rattle.address.specs.declared.AxiAddress.{AxiAddress}
use Rattle.address.specs.Windows.{holds, first_from, window_of}
use Rattle.address.specs.Code.Entries.{entry_number}
use Rattle.address.proofs.Steps.{first_none, first_hit, first_on}
use Rattle.address.proofs.Laws.{first_at}

-- what is found below n counts, the rest does not
abbrev below : ℕ → Option ℕ → Option ℕ
below n (Some i) = cond (ltb i n) (Some i) None
below n None = None

-- what is found, by its number
found_at : (f : Option ℕ) → entry_number f < 6 → f ≡ Some (entry_number f)
found_at (Some i) h = refl
found_at None h = absurd (omega arith)

not_below : (n : ℕ) (f : Option ℕ) → n ≤ entry_number f → below n f ≡ None
not_below n (Some i) h = rw (le-ltb i n h)
not_below n None h = refl

module _ (base size : List ℕ) (a : AxiAddress) where
  -- a walk finds nothing before its start
  not_before : (i n k : ℕ) → k ≤ i → (f : Option ℕ) → first_from base size a i n ≡ f → below k f ≡ None
  not_before i n k h (Some j) e = rw (le-ltb j k (omega (arith, (first_at base size a i n j e).0)))
  not_before i n k h None e = refl

  -- a walk of m windows is a longer one of which only what lies before the m-th counts
  cut_walk : (i m n : ℕ) → m ≤ n → (t : Bool) → holds (get_or base i 0) (get_or size i 0) a ≡ t → first_from base size a i m ≡ below (i + m) (first_from base size a i n)
  cut_walk i zero n h t e = first_none base size a i ∙ sym (not_before i n (i + 0) (omega arith) (first_from base size a i n) refl)
  cut_walk i (suc m) zero h t e = absurd (omega arith)
  cut_walk i (suc m) (suc n) h true e =
      first_hit base size a i m e ∙ sym (ap (below (i + suc m)) (first_hit base size a i n e) ∙ rw (lt-ltb i (i + suc m) (omega arith)))
  cut_walk i (suc m) (suc n) h false e =
      let f : i + 1 + m ≡ i + suc m = omega arith in
      first_on base size a i m e
      ∙ cut_walk (i + 1) m n (omega arith) (holds (get_or base (i + 1) 0) (get_or size (i + 1) 0) a) refl
      ∙ ap (λ (x : ℕ). below x (first_from base size a (i + 1) n)) f
      ∙ sym (ap (below (i + suc m)) (first_on base size a i n e))

  -- so the count may be looked at last
  counted : (count : ℕ) → window_of count base size a ≡ below (min count 6) (window_of 6 base size a)
  unfolding window_of
  counted count =
      let f : 0 + min count 6 ≡ min count 6 = omega arith in
      cut_walk 0 (min count 6) 6 (omega arith) (holds (get_or base 0 0) (get_or size 0 0) a) refl
      ∙ ap (λ (x : ℕ). below x (first_from base size a 0 6)) f

  pub found_counts : (count e : ℕ) → e ≡ entry_number (window_of 6 base size a) → e < 6 → e < count → Some e ≡ window_of count base size a
  found_counts count e h f g =
      let at : window_of 6 base size a ≡ Some e = rw (← h) at (found_at (window_of 6 base size a) (rw (← h) f)) in
      sym (counted count ∙ ap (below (min count 6)) at ∙ rw (lt-ltb e (min count 6) (omega arith)))

  pub found_past : (count e : ℕ) → e ≡ entry_number (window_of 6 base size a) → min count 6 ≤ e → None ≡ window_of count base size a
  found_past count e h f = sym (counted count ∙ not_below (min count 6) (window_of 6 base size a) (rw (← h) f))
