-- Headers and packets put one behind the other into an area.
use mathlib.Core.Path.{◌≡◌, refl, sym, ap, ◌∙◌}
use mathlib.Core.Bool.{Bool, true, false, cond}
use mathlib.Core.List.{List, [], ◌∷◌, ◌++◌, append_assoc}
use Prim.Native.Nat.{ℕ, ◌+◌, ◌*◌, ◌≤◌, ◌<◌, ◌^◌}
use native.Mathlib.Nat.{add-zero}
use native.Mathlib.Omega.{arith}
use borrow.Author.Tests.{le-ltb, le-leb, lt-leb}
use lib.ListN.{length, take, drop, length-append, length-drop}
use lib.Dec.{ltb}
use lib.Seq.{length-take-le, paste, paste-zero, take-paste, drop-paste, take-length, take-append_seam, drop-append-add, drop-drop}
use Rattle.std.specs.Result.{result_unwrap_or}
use Rattle.tlp.specs.declared.request.Target.{Target}
use Rattle.tlp.specs.declared.request.Target.TheVariants.{Memory, Config0, Config1}
use Rattle.tlp.specs.declared.request.Request.{Request}
use Rattle.tlp.specs.Bytes.{bytes, write_header, area_after}
use Rattle.tlp.specs.Request.{valid_request, request_bytes, target_bytes, write_request, area_after_request}
use Rattle.burst.specs.Words.{word_count, words_of}
use Rattle.burst.proofs.Words.{words_length}
use Rattle.packets.specs.Packets.{filled, packet}
use Rattle.packets.specs.Steps.{Put}

append_none : (s : List ℕ) → s ++ [] ≡ s
append_none [] = refl
append_none (x ∷ s) = ap (◌∷◌ x) (append_none s)

-- ---- headers

address_short : (a : ℕ) (x : Bool) → length (cond x (bytes 4 a) (bytes 8 a)) ≤ 8
address_short a true = omega arith
address_short a false = omega arith

target_short : (t : Target) → length (target_bytes t) ≤ 8
unfolding target_bytes
target_short (Memory a) = address_short a (ltb a (2 ^ 32))
target_short (Config0 p) = omega arith
target_short (Config1 p) = omega arith

pub header_short : (r : Request) → (8 ≤ length (request_bytes r)) × (length (request_bytes r) ≤ 16)
unfolding request_bytes
header_short r = let h = target_short r.target in (omega arith, omega arith)

-- a valid request has a packet, any other none
pub packet_valid : (r : Request) (payload : List ℕ) → valid_request r ≡ true → packet r payload ≡ request_bytes r ++ payload
unfolding packet
packet_valid r payload e = rw e

pub packet_none : (r : Request) (payload : List ℕ) → valid_request r ≡ false → packet r payload ≡ []
unfolding packet
packet_none r payload e = rw e

pub header_only : (r : Request) → valid_request r ≡ true → packet r [] ≡ request_bytes r
header_only r e = packet_valid r [] e ∙ append_none (request_bytes r)

packet_short_by : (r : Request) (x : Bool) → valid_request r ≡ x → length (packet r []) ≤ 16
packet_short_by r true e = let h = header_short r in let g = ap length (header_only r e) in omega arith
packet_short_by r false e = let g = ap length (packet_none r [] e) in omega arith

pub packet_short : (r : Request) → length (packet r []) ≤ 16
packet_short r = packet_short_by r (valid_request r) refl

-- no header, no packet
some_by : (r : Request) (payload : List ℕ) (x : Bool) → valid_request r ≡ x → length (packet r []) ≡ 0 → packet r payload ≡ []
some_by r payload true e z = let h = header_short r in let g = ap length (header_only r e) in let n : ◌≡◌ {A = ℕ} 0 1 = omega arith in cc
some_by r payload false e z = packet_none r payload e

pub no_header : (r : Request) (payload : List ℕ) → length (packet r []) ≡ 0 → packet r payload ≡ []
no_header r payload z = some_by r payload (valid_request r) refl z

-- a header, and the packet goes on with its payload
goes_by : (r : Request) (payload : List ℕ) (x : Bool) → valid_request r ≡ x → (length (packet r []) ≡ 0 → ⊥) → packet r payload ≡ packet r [] ++ payload
goes_by r payload true e z = packet_valid r payload e ∙ ap (λ (h : List ℕ). h ++ payload) (sym (header_only r e))
goes_by r payload false e z = absurd (z (ap length (packet_none r [] e)))

pub goes_on : (r : Request) (payload : List ℕ) → (length (packet r []) ≡ 0 → ⊥) → packet r payload ≡ packet r [] ++ payload
goes_on r payload z = goes_by r payload (valid_request r) refl z

-- what a writer leaves in 16 bytes
abbrev pub Headed : Request → ℕ → List ℕ → List ℕ → Type 0
Headed r n area after =
    (take n after ≡ packet r []) × ((n ≡ length (packet r [])) × ((n ≤ 16) × (after ≡ filled (packet r []) area)))

headed_by : (r : Request) (area after : List ℕ) (x : Bool) → valid_request r ≡ x → length area ≡ 16
    → after ≡ area_after_request r area → Headed r (result_unwrap_or (write_request r (length area)) 0) area after
unfolding write_header area_after
headed_by r area after true e k q =
    let h : 16 ≤ length area = omega arith in
    let n : result_unwrap_or (write_request r (length area)) 0 ≡ length (request_bytes r) = rw (le-ltb _ _ h, e) in
    let a : after ≡ request_bytes r ++ drop (length (request_bytes r)) area = q ∙ rw (le-ltb _ _ h, e) in
    let t : take (result_unwrap_or (write_request r (length area)) 0) after ≡ request_bytes r = rw (n, a) (take-append_seam (request_bytes r) (drop (length (request_bytes r)) area)) in
    let o = header_only r e in
    let s = header_short r in
    (t ∙ sym o, (n ∙ ap length (sym o), (omega (arith, n), a ∙ ap (λ (s : List ℕ). filled s area) (sym o))))
headed_by r area after false e k q =
    let h : 16 ≤ length area = omega arith in
    let n : result_unwrap_or (write_request r (length area)) 0 ≡ 0 = rw (le-ltb _ _ h, e) in
    let a : after ≡ area = q ∙ rw (le-ltb _ _ h, e) in
    let o = packet_none r [] e in
    (rw (n, o), (rw (n, o), (omega (arith, n), a ∙ ap (λ (s : List ℕ). filled s area) (sym o))))

pub headed : (r : Request) (area after : List ℕ) → length area ≡ 16
    → after ≡ area_after_request r area → Headed r (result_unwrap_or (write_request r (length area)) 0) area after
headed r area after k q = headed_by r area after (valid_request r) refl k q

-- ---- areas

-- one more behind what is there
pub fill_more : (s p area : List ℕ) → paste (filled s area) (length s) p (length p) ≡ filled (s ++ p) area
fill_more s p area =
    rw (take-append_seam s (drop (length s) area), take-length p, drop-append-add s (drop (length s) area) (length p), drop-drop (length p) (length s) area, length-append s p)

-- a header and then its payload
pub paste_two : (d : List ℕ) (at : ℕ) (h w : List ℕ) → at ≤ length d
    → paste (paste d at h (length h)) (at + length h) w (length w) ≡ paste d at (h ++ w) (length (h ++ w))
paste_two d at h w k =
    let e : drop (at + length h + length w) (paste d at h (length h)) ≡ drop (at + length h + length w) d =
    sym (drop-drop (length w) (at + length h) (paste d at h (length h)))
    ∙ ap (drop (length w)) (drop-paste d at h (length h) k (omega arith))
    ∙ drop-drop (length w) (at + length h) d in
    let f : at + length h + length w ≡ at + length (h ++ w) = omega (arith, length-append h w) in
    ap (λ (x : List ℕ). x ++ take (length w) w ++ drop (at + length h + length w) (paste d at h (length h))) (take-paste d at h (length h) k (omega arith))
    ∙ ap (λ (x : List ℕ). take at d ++ take (length h) h ++ take (length w) w ++ x) e
    ∙ ap (λ (m : ℕ). take at d ++ take (length h) h ++ take (length w) w ++ drop m d) f
    ∙ ap (λ (x : List ℕ). take at d ++ x ++ take (length w) w ++ drop (at + length (h ++ w)) d) (take-length h)
    ∙ ap (λ (x : List ℕ). take at d ++ h ++ x ++ drop (at + length (h ++ w)) d) (take-length w)
    ∙ ap (λ (x : List ℕ). x ++ drop (at + length (h ++ w)) d) (append_assoc (take at d) h w)
    ∙ ap (λ (x : List ℕ). take at d ++ x ++ drop (at + length (h ++ w)) d) (sym (take-length (h ++ w)))

pub put_none : (area : List ℕ) (at : ℕ) (p : List ℕ) → at ≤ length area → p ≡ [] → Put area at p at area
put_none area at p h e =
    rw e
    (record {
      next_at = let k : at + 0 ≤ length area = omega arith in rw (le-leb _ _ k, add-zero at);
      area_after = let k : at + 0 ≤ length area = omega arith in rw (le-leb _ _ k) (paste-zero area at []);
    })

pub put_out : (area : List ℕ) (at : ℕ) (p : List ℕ) → length area < at + length p → Put area at p at area
put_out area at p h = record { next_at = rw (lt-leb _ _ h); area_after = rw (lt-leb _ _ h) }

pub put_here : (area : List ℕ) (at : ℕ) (p : List ℕ) (next : ℕ) (after : List ℕ) → at + length p ≤ length area → next ≡ at + length p
    → after ≡ paste area at p (length p) → Put area at p next after
put_here area at p next after h e f = record { next_at = rw (le-leb _ _ h) e; area_after = rw (le-leb _ _ h) f }

-- ---- one packet with its payload

module _ (a n from : ℕ) (bytes : List ℕ) (fits : from + n ≤ length bytes) where
  part_length : length (take n (drop from bytes)) ≡ n
  part_length = length-take-le n (drop from bytes) (simp length-drop (omega arith))

  pub payload_length_lem : length (words_of a (take n (drop from bytes))) ≡ 4 * word_count a n
  payload_length_lem = words_length a (take n (drop from bytes)) ∙ ap (λ (k : ℕ). 4 * word_count a k) part_length

module _ (a : ℕ) (bytes : List ℕ) (r : Request) (len : ℕ) (e : len ≡ length (packet r [])) (some : len ≡ 0 → ⊥) where
  abbrev payload : List ℕ
  payload = words_of a bytes

  whole : packet r payload ≡ packet r [] ++ payload
  whole = goes_on r payload (λ z. some (e ∙ z))

  pub packet_length : length (packet r payload) ≡ len + 4 * word_count a (length bytes)
  packet_length = omega (arith, ap length whole, length-append (packet r []) payload, words_length a bytes, e)

  pub put_whole : (area one two : List ℕ) (at : ℕ) → at + (len + 4 * word_count a (length bytes)) ≤ length area
      → one ≡ paste area at (packet r []) (length (packet r [])) → two ≡ paste one (at + len) payload (4 * word_count a (length bytes))
      → Put area at (packet r payload) (at + (len + 4 * word_count a (length bytes))) two
  put_whole area one two at h p q =
      let d : two ≡ paste (paste area at (packet r []) (length (packet r []))) (at + length (packet r [])) payload (length payload) =
      q ∙ ap (λ (x : List ℕ). paste x (at + len) payload (4 * word_count a (length bytes))) p
      ∙ ap (λ (k : ℕ). paste (paste area at (packet r []) (length (packet r []))) (at + k) payload (4 * word_count a (length bytes))) e
      ∙ ap (λ (k : ℕ). paste (paste area at (packet r []) (length (packet r []))) (at + length (packet r [])) payload k) (sym (words_length a bytes)) in
      let f : two ≡ paste area at (packet r payload) (length (packet r payload)) =
      d ∙ paste_two area at (packet r []) payload (omega arith)
      ∙ ap (λ (x : List ℕ). paste area at x (length x)) (sym whole) in
      put_here area at (packet r payload) (at + (len + 4 * word_count a (length bytes))) two (omega (arith, packet_length)) (ap (λ (k : ℕ). at + k) (sym packet_length)) f
