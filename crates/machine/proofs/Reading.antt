-- One turn of a read: a piece more is opened, and its header sent.
use mathlib.Core.Path.{◌≡◌, refl, sym, ap, ◌∙◌}
use mathlib.Core.Bool.{false}
use mathlib.Core.List.{List, []}
use Prim.Native.Nat.{ℕ, suc, ◌+◌, ◌<◌}
use native.Mathlib.Numerals.{add-one}
use lib.ListN.{length, get_or, length-append}
use lib.Seq.{paste}
use Rattle.bits.specs.Bits.{clear_bit}
use Rattle.tags.specs.Tags.{lowest, available}
use Rattle.tags.proofs.Tags.{lowest_is, take_one_less}
use Rattle.address.specs.Windows.{axi, translated}
use Rattle.burst.specs.declared.Burst.{Burst}
use Rattle.burst.specs.declared.Piece.{Piece}
use Rattle.parts.specs.declared.Pending.{Pending}
use Rattle.parts.specs.Pendings.{memory_pending}
use Rattle.machine.specs.Bridge.{Bridge}
use Rattle.machine.specs.State.{tag_count, opened}
use Rattle.machine.specs.Memory.{filled, window_for, index_of, piece_of, place_in, memory_request, piece_request, packet, piece_pending, read_to, read_sent}
use Rattle.packets.proofs.Packets.{fill_more}
use Rattle.packets.proofs.Writing.{behind}

-- a tag is free while one is available, and then one less is
pub lowest_below : (f : ℕ) → 0 < available tag_count f → lowest tag_count f < tag_count
lowest_below f h = (lowest_is tag_count f h).tag.below

pub one_less : (f : ℕ) → 0 < available tag_count f → available tag_count f ≡ suc (available tag_count (clear_bit f (lowest tag_count f)))
one_less f h = take_one_less tag_count f (lowest tag_count f) (lowest_is tag_count f h).tag

pub opened_free : (r : Pending) (b c : Bridge) → c ≡ opened r b → c.core.free ≡ clear_bit b.core.free (lowest tag_count b.core.free)
unfolding opened
opened_free r b c e = ap (λ (x : Bridge). x.core.free) e

pub opened_settings : (r : Pending) (b c : Bridge) → c ≡ opened r b → c.settings ≡ b.settings
unfolding opened
opened_settings r b c e = ap (λ (x : Bridge). x.settings) e

pub record Turned (slot : ℕ) (q : Burst) (b₀ b : Bridge) (area₀ area : List ℕ) (at k : ℕ) : Type 0 where
  pub bridge_is : b ≡ read_to slot q b₀ k
  pub at_is : at ≡ length (read_sent slot q b₀ k)
  pub area_is : area ≡ filled (read_sent slot q b₀ k) area₀

pub turned_none : (slot : ℕ) (q : Burst) (b : Bridge) (area : List ℕ) → Turned slot q b b area area 0 0
unfolding read_to read_sent
turned_none slot q b area = record { bridge_is = refl; at_is = refl; area_is = refl }

module _ (slot : ℕ) (q : Burst) (b₀ : Bridge) (area₀ : List ℕ) (base target : ℕ)
    (eb : base ≡ get_or b₀.settings.windows.base (index_of (window_for b₀.settings.windows q)) 0)
    (et : target ≡ get_or b₀.settings.windows.target (index_of (window_for b₀.settings.windows q)) 0) where
  abbrev p : ℕ → Piece
  p k = piece_of b₀.settings.reads q k

  abbrev pub sends : Bridge → ℕ → List ℕ
  sends b k = packet (memory_request false b₀.settings.requester (lowest tag_count b.core.free) (translated base target (axi (p k).first)).0 (p k).length) []

  abbrev pub pends : ℕ → Pending
  pends k = memory_pending slot (place_in q (p k)) (p k).length (translated base target (axi (p k).first)).0

  pub turned_more : (b c : Bridge) (area after : List ℕ) (at next k : ℕ) → Turned slot q b₀ b area₀ area at k
      → c ≡ opened (pends k) b
      → next ≡ at + length (sends b k)
      → after ≡ paste area at (sends b k) (length (sends b k))
      → Turned slot q b₀ c area₀ after next (k + 1)
  unfolding read_to read_sent
  turned_more b c area after at next k t eo en ea =
      let s = read_sent slot q b₀ k in
      let d = packet (piece_request false b₀.settings q (lowest tag_count (read_to slot q b₀ k).core.free) (p k)) [] in
      let e : sends b k ≡ d =
      ap (λ (x : ℕ). packet (memory_request false b₀.settings.requester (lowest tag_count b.core.free) x (p k).length) []) (behind b₀.settings.windows q base target (p k).first eb et)
      ∙ ap (λ (x : Bridge). packet (piece_request false b₀.settings q (lowest tag_count x.core.free) (p k)) []) t.bridge_is in
      rw (add-one k)
      (record {
        bridge_is = eo ∙ ap (λ (x : ℕ). opened (memory_pending slot (place_in q (p k)) (p k).length x) b) (behind b₀.settings.windows q base target (p k).first eb et) ∙ ap (opened (piece_pending slot b₀.settings q (p k))) t.bridge_is;
        at_is = en ∙ ap (λ (x : List ℕ). at + length x) e ∙ ap (λ (x : ℕ). x + length d) t.at_is ∙ sym (length-append s d);
        area_is =
            ea ∙ ap (λ (x : List ℕ). paste area at x (length x)) e
            ∙ ap (λ (x : List ℕ). paste x at d (length d)) t.area_is
            ∙ ap (λ (x : ℕ). paste (filled s area₀) x d (length d)) t.at_is
            ∙ fill_more s d area₀;
      })
