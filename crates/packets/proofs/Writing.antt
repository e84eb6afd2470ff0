-- One turn of a write: a packet more, if the area can hold it.
use mathlib.Core.Path.{◌≡◌, refl, sym, ap, ◌∙◌}
use mathlib.Core.Bool.{Bool, true, false}
use mathlib.Core.List.{List}
use Prim.Native.Nat.{ℕ, ◌+◌, ◌≤◌, zero-le}
use native.Mathlib.Numerals.{add-one}
use native.Mathlib.Omega.{arith}
use borrow.Author.Tests.{leb-true}
use lib.ListN.{length, get_or, take, drop, length-append}
use lib.Dec.{leb}
use lib.Seq.{paste, length-paste}
use Rattle.address.specs.declared.Settings.{Settings}
use Rattle.address.specs.declared.Windows.{Windows}
use Rattle.address.specs.Windows.{axi, translated}
use Rattle.burst.specs.declared.Burst.{Burst}
use Rattle.burst.specs.declared.Piece.{Piece}
use Rattle.burst.specs.Words.{words_of}
use Rattle.packets.specs.Packets.{filled, window_for, index_of, pcie_of, piece_of, place_in, memory_request, packet}
use Rattle.packets.specs.Writes.{write_packet, write_sent}
use Rattle.packets.specs.Steps.{Put}
use Rattle.packets.proofs.Packets.{fill_more}

-- the address behind the burst's window
pub behind : (w : Windows) (q : Burst) (base target x : ℕ) → base ≡ get_or w.base (index_of (window_for w q)) 0 → target ≡ get_or w.target (index_of (window_for w q)) 0
    → (translated base target (axi x)).0 ≡ pcie_of w q x
unfolding pcie_of
behind w q base target x e f = rw (e, f)

pub record Wrote (s : Settings) (q : Burst) (bytes area₀ area : List ℕ) (at k : ℕ) : Type 0 where
  pub at_is : at ≡ length (write_sent s q bytes (length area₀) k)
  pub area_is : area ≡ filled (write_sent s q bytes (length area₀) k) area₀
  pub length_is : length area ≡ length area₀
  pub at_fits : at ≤ length area

pub wrote_none : (s : Settings) (q : Burst) (bytes area : List ℕ) → Wrote s q bytes area area 0 0
unfolding write_sent
wrote_none s q bytes area = record { at_is = refl; area_is = refl; length_is = refl; at_fits = zero-le }

module _ (s : Settings) (q : Burst) (bytes area₀ : List ℕ) where
  more_by : (x : Bool) (area after : List ℕ) (at next k : ℕ) → Wrote s q bytes area₀ area at k
      → leb (at + length (write_packet s q bytes k)) (length area) ≡ x → Put area at (write_packet s q bytes k) next after → Wrote s q bytes area₀ after next (k + 1)
  unfolding write_sent
  more_by true area after at next k t g u =
      let m = write_sent s q bytes (length area₀) k in
      let p = write_packet s q bytes k in
      let h : at + length p ≤ length area = leb-true _ _ g in
      let n : next ≡ at + length p = rw g at u.next_at in
      let a : after ≡ paste area at p (length p) = rw g at u.area_after in
      let e : leb (length m + length p) (length area₀) ≡ true = ap (λ (i : ℕ). leb (i + length p) (length area₀)) (sym t.at_is) ∙ ap (leb (at + length p)) (sym t.length_is) ∙ g in
      let l : length after ≡ length area = ap length a ∙ length-paste area at p (length p) h (omega arith) in
      rw (add-one k)
      (record {
        at_is = rw e (n ∙ ap (λ (i : ℕ). i + length p) t.at_is ∙ sym (length-append m p));
        area_is =
            rw e
            (a ∙ ap (λ (z : List ℕ). paste z at p (length p)) t.area_is
            ∙ ap (λ (i : ℕ). paste (filled m area₀) i p (length p)) t.at_is
            ∙ fill_more m p area₀);
        length_is = l ∙ t.length_is;
        at_fits = omega (arith, n, h, l);
      })
  more_by false area after at next k t g u =
      let m = write_sent s q bytes (length area₀) k in
      let p = write_packet s q bytes k in
      let n : next ≡ at = rw g at u.next_at in
      let a : after ≡ area = rw g at u.area_after in
      let e : leb (length m + length p) (length area₀) ≡ false = ap (λ (i : ℕ). leb (i + length p) (length area₀)) (sym t.at_is) ∙ ap (leb (at + length p)) (sym t.length_is) ∙ g in
      rw (add-one k)
      (record {
        at_is = rw e (n ∙ t.at_is);
        area_is = rw e (a ∙ t.area_is);
        length_is = ap length a ∙ t.length_is;
        at_fits = rw (n, a) t.at_fits;
      })

  module _ (base target : ℕ)
      (eb : base ≡ get_or s.windows.base (index_of (window_for s.windows q)) 0)
      (et : target ≡ get_or s.windows.target (index_of (window_for s.windows q)) 0) where
    abbrev p : ℕ → Piece
    p k = piece_of s.writes q k

    abbrev pub puts : ℕ → List ℕ
    puts k =
        packet (memory_request true s.requester 0 (translated base target (axi (p k).first)).0 (p k).length)
        (words_of (translated base target (axi (p k).first)).0 (take (p k).length (drop (place_in q (p k)) bytes)))

    puts_is : (k : ℕ) → puts k ≡ write_packet s q bytes k
    unfolding write_packet
    puts_is k = rw (behind s.windows q base target (p k).first eb et)

    pub wrote_more : (area after : List ℕ) (at next k : ℕ) → Wrote s q bytes area₀ area at k → Put area at (puts k) next after → Wrote s q bytes area₀ after next (k + 1)
    wrote_more area after at next k t u =
        more_by (leb (at + length (write_packet s q bytes k)) (length area)) area after at next k t refl (rw (puts_is k) at u)
