-- The laws on verdicts and on what a completion's bytes are read as.
use Prim.Native.Nat.{ℕ, ◌+◌, ◌*◌, ◌%◌, ◌≤◌, ◌<◌}
use mathlib.Core.Path.{◌≡◌, refl, sym, ap, ◌∙◌}
use mathlib.Core.Bool.{Bool, true, false, cond, not, ◌&&◌}
use mathlib.Core.Logic.{◌⊎◌, inl, inr}
use mathlib.Core.List.{List, [], ◌∷◌}
use native.Mathlib.Omega.{arith}
use native.Mathlib.Nat.{mod-lt}
use lib.ListN.{length, take}
use lib.Dec.{ltb, leb, eqb}
use borrow.Author.Tests.{leb-true, eqb-true, not-true}
use Rattle.common.proofs.Tests.{row, and_right, or_either}
use Rattle.std.specs.Prelude.{Result, Ok, Err}
use Rattle.refusals.specs.declared.Refusal.{Refusal}
use Rattle.refusals.specs.declared.Refusal.TheVariants.{Malformed}
use Rattle.tlp.specs.declared.completion.Completion.{Completion}
use Rattle.tlp.specs.Completion.{valid_completion, completion_in, completion_reserved, accept_completion, read_completion}
use Rattle.tlp.proofs.Ranges.{completion_ranges}
use Rattle.verdict.specs.declared.Verdict.TheVariants.{Unexpected, Good, Poisoned, Failed}
use Rattle.machine.specs.State.{is_open}
use Rattle.machine.specs.Verdict.{cause_of, useful, in_order, received, memory_verdict}
use Rattle.machine.specs.Completions.{with_payload, completion_of}
use Rattle.machine.specs.Code.Expected.{Within, Fits, VerdictFits, Whole, ReadWhole}

pub never : {A : Type 0} → ◌≡◌ {A = Bool} true false → A
never e = let z : ◌≡◌ {A = ℕ} 0 1 = ap (λ (t : Bool). cond t 0 1) e in absurd (omega arith)

-- a valid completion with data has a word at least
pub some_word : (c : Completion) → valid_completion c ≡ true → c.payload ≡ true → 1 ≤ c.length
some_word c v p = some (or_either with_data without (completion_ranges c v).payload)
  where
    with_data : Bool
    with_data = c.payload && eqb c.status 0 && leb 1 c.length && leb c.length 1024

    without : Bool
    without = not c.payload && eqb c.length 0 && not c.poisoned

    some : (with_data ≡ true) ⊎ (without ≡ true) → 1 ≤ c.length
    some (inl e) =
        leb-true 1 c.length
        (row c.payload (eqb c.status 0 ∷ leb 1 c.length ∷ leb c.length 1024 ∷ []) e).1.1.0
    some (inr e) =
        let n : not c.payload ≡ true = (row (not c.payload) (eqb c.length 0 ∷ not c.poisoned ∷ []) e).0 in
        never (sym p ∙ not-true c.payload n)

-- the tests of `in_order` on data, as a row
abbrev pub order_tests : Completion → ℕ → ℕ → List Bool
order_tests c missing next = eqb c.count missing ∷ eqb c.lower (next % 128) ∷ ltb (4 * c.length) (c.lower % 4 + missing + 4) ∷ []

module _ (c : Completion) (missing next : ℕ) (v : valid_completion c ≡ true) where
  within : in_order c missing next ≡ true → Within c missing (useful c missing)
  within e =
      let r = row c.payload (order_tests c missing next) e in
      let w : 1 ≤ c.length = some_word c v r.0 in
      let l : c.lower % 4 < 4 = mod-lt c.lower (omega arith) in
      record { most = omega arith; some = λ h. omega arith; inside = omega arith }

  got : (p : Bool) → Within c missing (useful c missing) → Fits c missing (cond p (Poisoned (useful c missing)) (Good (useful c missing)))
  got true w = w
  got false w = w

  judged : (s o r : Bool) → in_order c missing next ≡ o → Fits c missing (cond s (cond o (received c (useful c missing)) Unexpected) (cond r Unexpected (Failed (cause_of c.status))))
  judged true true r e = got c.poisoned (within e)
  judged true false r e = tt
  judged false o true e = tt
  judged false o false e = tt

pub verdict_fits : VerdictFits
unfolding memory_verdict
verdict_fits c missing next v =
    judged c missing next v (eqb c.status 0) (in_order c missing next) (eqb c.status 2) refl

-- what the reader hands back is valid
accepted_valid : (d c : Completion) (t : Bool) → valid_completion d ≡ t → cond t (Ok d) (Err Malformed) ≡ Ok c → valid_completion c ≡ true
accepted_valid d c true v e = let f : d ≡ c = cc in rw f at v
accepted_valid d c false v e = let z : ◌≡◌ {A = ℕ} 0 1 = cc in absurd (omega arith)

read_valid_by : (s : List ℕ) (c : Completion) (t : Bool) → cond t (accept_completion (completion_in s)) (Err Malformed) ≡ Ok c → valid_completion c ≡ true
read_valid_by s c true e = accepted_valid (completion_in s) c (valid_completion (completion_in s)) refl e
read_valid_by s c false e = let z : ◌≡◌ {A = ℕ} 0 1 = cc in absurd (omega arith)

read_valid : (s : List ℕ) (c : Completion) → read_completion s ≡ Ok c → valid_completion c ≡ true
unfolding read_completion
read_valid s c e = read_valid_by s c (completion_reserved s) e

paid : (s : List ℕ) (c : Completion) → valid_completion c ≡ true → (t : Bool) → eqb (length s) (12 + 4 * c.length) ≡ t → Whole s (cond t (Ok c) (Err Malformed))
paid s c v true e = (v, eqb-true _ _ e)
paid s c v false e = tt

whole_by : (s : List ℕ) (r : Result Completion Refusal) → ((c : Completion) → r ≡ Ok c → valid_completion c ≡ true) → Whole s (with_payload s r)
whole_by s (Ok c) f = paid s c (f c refl) (eqb (length s) (12 + 4 * c.length)) refl
whole_by s (Err r) f = tt

pub read_whole : ReadWhole
unfolding completion_of
read_whole s = whole_by s (read_completion (take 12 s)) (read_valid (take 12 s))

-- the missing bytes of an open tag lie in its slot
pub open_room : (missing place : ℕ) → is_open missing place ≡ true → place + missing ≤ 4096
open_room m p e = leb-true (p + m) 4096 (and_right (not (eqb m 0)) (leb (p + m) 4096) e)
