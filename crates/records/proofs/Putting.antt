-- What the writer answers and leaves in its area, for each of its three ways out.
use mathlib.Core.Path.{◌≡◌, sym, ap, ◌∙◌}
use mathlib.Core.Bool.{true, false}
use mathlib.Core.List.{List, ◌++◌, append_assoc}
use Prim.Native.Nat.{ℕ, ◌+◌, ◌≤◌, ◌<◌}
use native.Mathlib.Omega.{arith}
use borrow.Author.Tests.{lt-ltb, le-ltb}
use lib.ListN.{length, take, drop, length-append}
use lib.Seq.{length-take-le, take_at, drop_at, drop-drop}
use borrow.Rule.Slice.PartMut.{put_mid}
use Rattle.tlp.specs.Bytes.{bytes}
use Rattle.records.specs.declared.writing.Parts.{Parts}
use Rattle.records.specs.Code.Parts.{Small, front_bytes, laid_out}
use Rattle.records.specs.Writing.{Item, Written, can_hold, item_bytes, written, area_after}

abbrev Answered : Item → List ℕ → Written → List ℕ → Type 0
Answered i area answer after = (answer ≡ written i (length area)) × (after ≡ area_after i area)

pub cannot : (i : Item) (area : List ℕ) → can_hold i ≡ false → Answered i area (record { number = 12; length = 0 }) area
unfolding written area_after
cannot i area e = (rw e, rw e)

-- as long as its numbers say
laid_size : (p : Parts) (d : List ℕ) → Small p d → length (laid_out p d) ≡ 3 + p.length + p.plain
laid_size p d s =
    let x = bytes 8 p.high ++ bytes 2 p.low in
    omega (
      arith,
      length-append (front_bytes p) (take p.plain d),
      length-take-le p.length x s.fields,
      length-take-le p.plain d s.there,
    )

pub short_laid : (i : Item) (p : Parts) (area d : List ℕ) → can_hold i ≡ true → laid_out p d ≡ item_bytes i → Small p d
    → length area < 3 + p.length + p.plain
    → Answered i area (record { number = 8; length = 0 }) area
unfolding written area_after
short_laid i p area d can e s h =
    let l = lt-ltb (length area) (3 + p.length + p.plain) h in
    let n : length (item_bytes i) ≡ 3 + p.length + p.plain = ap length (sym e) ∙ laid_size p d s in (rw (can, n, l), rw (can, n, l))

-- the front and the plain bytes behind it, each put into the area
module _ (i : Item) (area front lent x y : List ℕ) (n plain k : ℕ) (can : can_hold i ≡ true) (b : take n front ++ take plain lent ≡ item_bytes i) (f : n ≤ length front) (l : plain ≤ length lent) (p : x ≡ take n front) (q : y ≡ take plain lent) (e : k ≡ plain) where
  size : length (item_bytes i) ≡ n + plain
  size = omega (arith, ap length b, length-append (take n front) (take plain lent), length-take-le n front f, length-take-le plain lent l)

  put : put_mid n k (x ++ drop n area) y ≡ item_bytes i ++ drop (n + plain) area
  put =
      let h : length (take n front) ≡ n = length-take-le n front f in
      rw (p, q, e, take_at (take n front) (drop n area) n h, drop_at (take n front) (drop n area) n h, drop-drop plain n area)
      (sym (append_assoc (take n front) (take plain lent) (drop (n + plain) area)) ∙ ap (λ (z : List ℕ). z ++ drop (n + plain) area) b)

  pub wrote : n + plain ≤ length area → Answered i area (record { number = 0; length = n + plain }) (put_mid n k (x ++ drop n area) y)
  unfolding written area_after
  wrote h = (rw (can, size, le-ltb (length area) (n + plain) h), rw (can, size, le-ltb (length area) (n + plain) h) put)
