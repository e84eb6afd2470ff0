-- The requests of a call and the tags that are open already: none has the tag of one that is open, so the tag's own request is as
-- it was; those of a read are numbered in turn.
use Prim.Native.Nat.{ℕ, ◌+◌, ◌<◌}
use mathlib.Core.Path.{◌≡◌, refl, sym, ap, ◌∙◌, subst}
use mathlib.Core.List.{List, []}
use mathlib.Core.Bool.{true}
use native.Mathlib.Omega.{arith}
use lib.ListN.{length}
use borrow.Author.Tests.{eq-eqb}
use Rattle.bits.specs.Bits.{is_set}
use Rattle.tags.specs.Tags.{lowest}
use Rattle.tags.proofs.Tags.{listed_is_free, lowest_is}
use Rattle.burst.specs.declared.Burst.{Burst}
use Rattle.machine.specs.State.{Bridge, tag_count, Open}
use Rattle.machine.specs.Memory.{pieces_of, read_refusal}
use Rattle.machine.specs.Config.{Access, route_of, goes_out, config_refusal}
use Rattle.machine.specs.Completions.{Held}
use Rattle.machine.proofs.Configs.{passed}
use Rattle.machine.proofs.Judging.{never}
use Rattle.machine.proofs.Refusals.{read_ok}
use Rattle.bridge_laws.specs.MemoryLaws.{tag_of}
use Rattle.trace.specs.Events as event
use Rattle.trace.specs.Events.{Call}
use Rattle.trace.specs.FarSide.{Ask, asked_by, Wire, sending, wire_after}
use Rattle.trace.specs.Sound.{Sound}
use Rattle.trace.proofs.Soundness.View.{Move, idle, reads, locals, routes, releases}
use Rattle.trace.proofs.Tags.Wire.{own_of}
use Rattle.trace.proofs.Tags.Asks.{ask_at, own_kept, own_new}
use Rattle.trace.proofs.Tags.Opened.{turns, turns_many, turn_is, asked_read, turns_distinct, word_ask, asked_word}
use Rattle.trace.proofs.Tags.Wired.{local_asks}

-- the tags of some requests were free
abbrev FreeTags : Held → List Ask → Type 0
FreeTags h l = (j : ℕ) → j < length l → is_set h.bridge.core.free (ask_at l j).tag ≡ true

no_tags : (h : Held) {l : List Ask} → l ≡ [] → FreeTags h l
no_tags h e j g = absurd (omega (arith, ap length e))

turn_tag : (b : Bridge) (q : Burst) (j : ℕ) → j < pieces_of b.settings.reads q → (ask_at (turns b q) j).tag ≡ tag_of b j
turn_tag b q j l = ap (λ (a : Ask). a.tag) (turn_is b q j l)

read_tags : (h : Held) (q : Burst) (room : ℕ) → read_refusal h.bridge q room ≡ 0 → FreeTags h (turns h.bridge q)
read_tags h q room e j l =
    let b = h.bridge in
    let k : j < pieces_of b.settings.reads q = omega (arith, turns_many b q) in
    ap (is_set b.core.free) (turn_tag b q j k) ∙ (listed_is_free tag_count b.core.free j (omega (arith, (read_ok b q room e).tags))).free

word_tag : (h : Held) (a : Access) (room : ℕ) → config_refusal h.bridge a room ≡ 0 → goes_out (route_of h.bridge a) ≡ true → FreeTags h (word_ask h.bridge a)
word_tag h a room e g j l =
    let z : j ≡ 0 = omega arith in
    rw z (lowest_is tag_count h.bridge.core.free ((passed h.bridge.core (route_of h.bridge a) room e).tag g)).tag.free

call_tags : {h x : Held} {c : Call} → Move h (event.call c) x → FreeTags h (asked_by h c)
call_tags {h} (idle r a l) = no_tags h a
call_tags {h} (reads {q = q} {room = room} e) = subst (FreeTags h) (sym (asked_read h q room e)) (read_tags h q room e)
call_tags {h} (locals {a = a} {room = room} u e f) = no_tags h (local_asks h a room u f)
call_tags {h} (routes {a = a} {room = room} e g) = subst (FreeTags h) (sym (asked_word h a room e g)) (word_tag h a room e g)
call_tags {h} (releases e) = no_tags h refl

-- an open tag's own request
pub call_own : {h x : Held} {c : Call} → Move h (event.call c) x → Sound h → (w : Wire) (t : ℕ) → Open h.bridge t
    → own_of (wire_after w h (event.call c)).live t ≡ own_of w.live t
call_own {h} {c = c} m v w t o =
    own_kept (asked_by h c) w t (λ j l z. never (sym (call_tags m j l) ∙ (ap (is_set h.bridge.core.free) z ∙ (v.tags t o).used)))

-- ---- the requests of an access that begins

pub read_numbers : (sent : ℕ → List (List ℕ)) (h : Held) (q : Burst) (room : ℕ) → Sound h → read_refusal h.bridge q room ≡ 0
    → (w : Wire) (j : ℕ) → j < pieces_of h.bridge.settings.reads q
    → own_of (wire_after w h (event.call (event.read q room))).live (tag_of h.bridge j) ≡ w.count + j
read_numbers sent h q room v e w j l =
    let b = h.bridge in
    let a = own_new (turns b q) w j (turns_distinct sent h q room v e) (omega (arith, turns_many b q)) in
    rw (asked_read h q room e) (subst (λ t. own_of (sending w (turns b q)).live t ≡ w.count + j) (turn_tag b q j l) a)

pub routed_number : (h : Held) (a : Access) (room : ℕ) → config_refusal h.bridge a room ≡ 0 → goes_out (route_of h.bridge a) ≡ true
    → (w : Wire) → own_of (wire_after w h (event.call (event.config a room))).live (lowest tag_count h.bridge.core.free) ≡ w.count
routed_number h a room e g w = let low = lowest tag_count h.bridge.core.free in rw (asked_word h a room e g, eq-eqb low low refl)
