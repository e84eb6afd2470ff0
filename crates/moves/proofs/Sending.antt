-- The header of a request in the area, and what stands behind it.
use mathlib.Core.Path.{◌≡◌, refl, sym, ap, ◌∙◌}
use mathlib.Core.Bool.{Bool, true, false, cond}
use mathlib.Core.List.{List, [], ◌++◌}
use Prim.Native.Nat.{ℕ, ◌+◌, ◌≤◌, ◌^◌}
use native.Mathlib.Omega.{arith}
use borrow.Author.Tests.{le-ltb}
use lib.ListN.{length, take, drop, length-append, length-drop}
use lib.Seq.{paste, take_all, take_at, drop-append-add, drop-drop}
use lib.Dec.{ltb, lit≤}
use Rattle.std.specs.Prelude.{Result, Ok, Err}
use Rattle.refusals.specs.declared.Refusal.{Refusal}
use Rattle.refusals.specs.declared.Refusal.TheVariants.{Malformed}
use Rattle.tlp.specs.declared.request.Target.{Target}
use Rattle.tlp.specs.declared.request.Target.TheVariants.{Memory, Config0, Config1}
use Rattle.tlp.specs.declared.request.Request.{Request}
use Rattle.tlp.specs.Bytes.{bytes, write_header, area_after}
use Rattle.tlp.specs.Request.{target_bytes, request_bytes}

target_fits : (t : Target) → length (target_bytes t) ≤ 8
unfolding target_bytes
target_fits (Memory a) = by (ltb a (2 ^ 32))
  where
    by : (x : Bool) → length (cond x (bytes 4 a) (bytes 8 a)) ≤ 8
    by true = lit≤ tt
    by false = lit≤ tt
target_fits (Config0 p) = lit≤ tt
target_fits (Config1 p) = lit≤ tt

pub header_fits : (q : Request) → length (request_bytes q) ≤ 16
unfolding request_bytes
header_fits q = let h : length (target_bytes q.target) ≤ 8 = target_fits q.target in omega arith

-- a packet
abbrev pub Packet : Bool → List ℕ → List ℕ → List ℕ
Packet valid header payload = cond valid (header ++ payload) []

-- a header that is refused leaves nothing
pub nothing_sent : (area header payload : List ℕ) (valid : Bool) (w : Result ℕ Refusal) → 16 ≤ length area → w ≡ write_header (length area) valid header
    → ((n : ℕ) → w ≡ Ok n → ⊥)
    → (0 ≡ length (Packet valid header payload))
    × (area_after area valid header ≡ Packet valid header payload ++ drop (length (Packet valid header payload)) area)
unfolding write_header area_after
nothing_sent area header payload true w h e n = absurd (n (length header) (rw (e, le-ltb _ _ h)))
nothing_sent area header payload false w h e n = (refl, rw (le-ltb _ _ h))

-- a header that is written, of n bytes
pub record Sent (area header : List ℕ) (valid : Bool) (n : ℕ) : Type 0 where
  pub right : valid ≡ true
  pub size : n ≡ length header
  pub after : area_after area valid header ≡ header ++ drop (length header) area

pub header_sent : (area header : List ℕ) (valid : Bool) (n : ℕ) → 16 ≤ length area → Ok n ≡ write_header (length area) valid header
    → Sent area header valid n
unfolding write_header area_after
header_sent area header true n h e =
    let z : ◌≡◌ {A = Result ℕ Refusal} (Ok n) (Ok (length header)) = rw (le-ltb _ _ h) at e in
    record { right = refl; size = cc; after = rw (le-ltb _ _ h) }
header_sent area header false n h e =
    let z : ◌≡◌ {A = Result ℕ Refusal} (Ok n) (Err Malformed) = rw (le-ltb _ _ h) at e in
    let y : ◌≡◌ {A = ℕ} 0 1 = cc in absurd (omega (arith, y))

-- bytes put behind a header
pub put_behind : (area header bytes : List ℕ) → paste (header ++ drop (length header) area) (length header) bytes (length bytes)
    ≡ (header ++ bytes) ++ drop (length (header ++ bytes)) area
put_behind area header bytes =
    ap (λ (x : List ℕ). x ++ take (length bytes) bytes ++ drop (length header + length bytes) (header ++ drop (length header) area))
    (take_at header (drop (length header) area) (length header) refl)
    ∙ ap (λ (x : List ℕ). header ++ x ++ drop (length header + length bytes) (header ++ drop (length header) area)) (take_all (length bytes) bytes (omega arith))
    ∙ ap (λ (x : List ℕ). header ++ bytes ++ x)
    (drop-append-add header (drop (length header) area) (length bytes)
    ∙ drop-drop (length bytes) (length header) area
    ∙ ap (λ (n : ℕ). drop n area) (sym (length-append header bytes)))

-- there is room for a data word behind a header
pub room_behind : (area header after : List ℕ) (n : ℕ) → n ≡ length header → length header ≤ 16 → 32 ≤ length area
    → after ≡ header ++ drop (length header) area → n + 4 ≤ length after
room_behind area header after n e h l a =
    omega (arith, ap length a, length-append header (drop (length header) area), length-drop (length header) area)

pub data_sent : (area header after exit bytes word : List ℕ) (n m : ℕ) → n ≡ length header → after ≡ header ++ drop (length header) area
    → bytes ≡ word → length word ≡ m → exit ≡ paste after n bytes m → exit ≡ (header ++ word) ++ drop (length (header ++ word)) area
data_sent area header after exit bytes word n m e a w l x = x ∙ rw (e, a, w, ← l) (put_behind area header word)
