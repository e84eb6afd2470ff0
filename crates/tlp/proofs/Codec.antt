-- Laws of a header kind that follow from its two round trips, and steps that both kinds take.
use mathlib.Core.Path.{◌≡◌, refl, sym, ap, ◌∙◌}
use mathlib.Core.Bool.{Bool, true, false, cond, not}
use mathlib.Core.List.{List, [], ◌∷◌}
use Prim.Native.Nat.{ℕ, ◌%◌, ◌≤◌, ◌<◌}
use native.Mathlib.Decide.{ℕ_discrete}
use native.Mathlib.Nat.{mod_self, mod-eq_of_lt}
use native.Mathlib.Omega.{arith}
use borrow.Author.Tests.{le-ltb, eq-eqb, ne_eqb}
use lib.Dec.{ltb}
use lib.ListN.{length}
use Rattle.std.specs.Prelude.{Ok, Err}
use Rattle.refusals.specs.declared.Refusal.TheVariants.{TooShort, Malformed}
use Rattle.refusals.specs.Table.{refused_by, header_order}
use Rattle.refusals.specs.Refusals.{number_in}
use Rattle.tlp.specs.Bytes.{or_full, write_header, write_refusal}
use Rattle.tlp.specs.Laws.{ReadsBack, WritesBack, ReadsExactly}

pub no_path : {A : Type 0} → ◌≡◌ {A = ℕ} 0 1 → A
no_path e = absurd (omega arith)

pub cell : {x y : ℕ} {xs ys : List ℕ} → x ≡ y → xs ≡ ys → (x ∷ xs) ≡ (y ∷ ys)
cell e f = rw (e, f)

pub in_order : (room : ℕ) (valid : Bool) (header : List ℕ) → number_in (write_header room valid header) ≡ write_refusal room valid
unfolding write_header
in_order room valid header = by (ltb room 16) valid
  where
    by : (short valid : Bool) → number_in (cond short (Err TooShort) (cond valid (Ok (length header)) (Err Malformed))) ≡ refused_by header_order (short ∷ not valid ∷ [])
    by true valid = refl
    by false true = refl
    by false false = refl

pub writes : (room : ℕ) (valid : Bool) (header : List ℕ) → 16 ≤ room → number_in (write_header room valid header) ≡ cond valid 0 12
unfolding write_header
writes room true header h = rw (le-ltb room 16 h)
writes room false header h = rw (le-ltb room 16 h)

-- a field in which the full value is written as 0, there and back
pub full_back : (full n field : ℕ) → field ≡ n % full → 1 ≤ n → n ≤ full → or_full full field ≡ n
full_back full n field f h k = go (ℕ_discrete n full)
  where
    go : Dec (n ≡ full) → or_full full field ≡ n
    go (yes e) = rw (eq-eqb field 0 (f ∙ (ap (λ (m : ℕ). m % full) e ∙ mod_self full))) (sym e)
    go (no e) =
        let m : field ≡ n = f ∙ mod-eq_of_lt (omega (arith, e)) in
        rw (ne_eqb field 0 (λ z. omega arith)) m

pub full_there : (full field : ℕ) → field < full → or_full full field % full ≡ field
full_there full field h = go (ℕ_discrete field 0)
  where
    go : Dec (field ≡ 0) → or_full full field % full ≡ field
    go (yes e) = rw (eq-eqb field 0 e) (mod_self full ∙ sym e)
    go (no e) = rw (ne_eqb field 0 e) (mod-eq_of_lt h)

-- both laws on what is accepted follow from the round trips
pub reads_exactly : {H A : Type 0} (Valid : H → Type 0) (bytes : H → List ℕ) (read : List ℕ → A) (header : H → A) (number : A → ℕ)
    → ((v : H) → number (header v) ≡ 0)
    → ((a : A) → number a ≡ 0 → (v : H) × (a ≡ header v))
    → ReadsBack Valid bytes read header
    → WritesBack Valid bytes read header
    → ReadsExactly Valid bytes read number
reads_exactly Valid bytes read header number zero found back forth s b = (
  (λ e. let f = found (read s) e in (f.0, forth s f.0 b f.1)),
  (λ w. rw (← w.1.1, back w.0 w.1.0) (zero w.0)),
)
