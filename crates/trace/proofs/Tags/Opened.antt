-- An accepted read, and a configuration access that goes out: the tags that they take are open for their requests.
use Prim.Native.Nat.{ℕ, zero, suc, ◌+◌, ◌<◌}
use mathlib.Core.Path.{◌≡◌, refl, sym, ap, subst, ◌∙◌}
use mathlib.Core.List.{List, [], ◌∷◌, map}
use mathlib.Core.Bool.{true}
use native.Mathlib.Omega.{arith}
use native.Mathlib.Nat.{add-zero}
use lib.ListN.{length, get_or}
use borrow.Author.Tests.{eq-eqb}
use Rattle.tags.specs.Tags.{lowest, available}
use Rattle.address.specs.Settings.{settings_number}
use Rattle.address.proofs.Laws.{accepted_reads}
use Rattle.burst.specs.declared.Burst.{Burst}
use Rattle.burst.specs.Pieces.{addresses}
use Rattle.burst.proofs.Pieces.{blocks_of}
use Rattle.parts.specs.Cores.{Core}
use Rattle.machine.specs.State.{Bridge, tag_count, slot_free, free_slot}
use Rattle.machine.specs.Memory.{pieces_of, read_refusal, read_bridge}
use Rattle.machine.specs.Config.{Access, route_of, goes_out, config_refusal, routed_bridge, word_pending}
use Rattle.machine.specs.Completions.{Held, held}
use Rattle.bridge_laws.specs.MemoryLaws.{tag_of, ReadOpens, ReadSends}
use Rattle.bridge_laws.specs.Rows.{pending_tag, claimed_slot, taken_core}
use Rattle.bridge_laws.specs.Effects.{Acts, same}
use Rattle.bridge_laws.proofs.Effects.{routed_acts}
use Rattle.bridge_laws.proofs.ReadTurns.{turn_pending, each_turn}
use Rattle.bridge_laws.proofs.Stored.{accepted_read_opens}
use Rattle.bridge_laws.proofs.Sends.{accepted_read_sends}
use Rattle.machine.proofs.Refusals.{read_ok}
use Rattle.machine.proofs.Configs.{passed}
use Rattle.trace.specs.Events.{Event, call, read, config}
use Rattle.trace.specs.FarSide.{word, Ask, ask_of, asked, Answers, Wire, sending, AllAnswered}
use Rattle.trace.specs.Sound.{Sound}
use Rattle.trace.proofs.Soundness.Opening as opening
use Rattle.trace.proofs.Tags.Wire.{Wired}
use Rattle.trace.proofs.Tags.Tagged.{same_wired}
use Rattle.trace.proofs.Tags.Asks.{ask_at, sending_count, sending_more, Distinct, answered_at, opens_wired}

-- ---- the requests of a read, in turn

pub turns_length : (f : ℕ → Ask) (s n : ℕ) → length (map f (addresses s n)) ≡ n
unfolding addresses
turns_length f s zero = refl
turns_length f s (suc n) = ap suc (turns_length f (suc s) n)

pub turn_at : (f : ℕ → Ask) (s n j : ℕ) → j < n → ask_at (map f (addresses s n)) j ≡ f (s + j)
unfolding addresses
turn_at f s zero j h = absurd (omega arith)
turn_at f s (suc n) zero h = ap f (sym (add-zero s))
turn_at f s (suc n) (suc j) h = let z : suc s + j ≡ s + suc j = omega arith in turn_at f (suc s) n j (omega arith) ∙ ap f z

abbrev pub turns_to : Bridge → Burst → ℕ → List Ask
turns_to b q n = map (ask_of b q) (addresses 0 n)

abbrev pub turns : Bridge → Burst → List Ask
turns b q = turns_to b q (pieces_of b.settings.reads q)

pub turns_many : (b : Bridge) (q : Burst) → length (turns b q) ≡ pieces_of b.settings.reads q
turns_many b q = turns_length (ask_of b q) 0 (pieces_of b.settings.reads q)

pub turn_is : (b : Bridge) (q : Burst) (j : ℕ) → j < pieces_of b.settings.reads q → ask_at (turns b q) j ≡ ask_of b q j
turn_is b q j h = let z : 0 + j ≡ j = omega arith in turn_at (ask_of b q) 0 (pieces_of b.settings.reads q) j h ∙ ap (ask_of b q) z

pub asked_read : (h : Held) (q : Burst) (room : ℕ) → read_refusal h.bridge q room ≡ 0 → asked h (call (read q room)) ≡ turns h.bridge q
asked_read h q room e = rw (eq-eqb (read_refusal h.bridge q room) 0 e)

-- ---- the pieces of a read

pub limit_some : (b : Bridge) → settings_number b.settings ≡ 0 → 0 < b.settings.reads
limit_some b r = (blocks_of b.settings.reads (accepted_reads b.settings r)).some

-- the slot that a read takes was free
pub free_slot_free : (h : Held) (q : Burst) (room : ℕ) → Sound h → read_refusal h.bridge q room ≡ 0 → get_or h.bridge.state (free_slot h.bridge) 0 ≡ slot_free
free_slot_free h q room s e = opening.free_slot_free h.bridge s.sizes.state (read_ok h.bridge q room e).slot

-- ---- an accepted read

module _ (sent : ℕ → List (List ℕ)) (h : Held) (q : Burst) (room : ℕ) (s : Sound h) (e : read_refusal h.bridge q room ≡ 0) where
  abbrev b : Bridge
  b = h.bridge

  abbrev n : ℕ
  n = pieces_of b.settings.reads q

  pub opens_read : ReadOpens b q (read_bridge b q)
  opens_read = accepted_read_opens b q room s.sizes e

  pub sends_read : ReadSends b q
  sends_read = accepted_read_sends b q room s.right e

  pub turns_distinct : Distinct (turns b q)
  turns_distinct i j l m z =
      let k : j < n = omega (arith, turns_many b q) in
      omega (arith, sends_read.rise i j l k, ap (λ (a : Ask). a.tag) (sym (turn_is b q i (omega arith))) ∙ (z ∙ ap (λ (a : Ask). a.tag) (turn_is b q j k)))

  module _ (w : Wire) (es : List Event) (v : Wired sent h w es) (a : AllAnswered sent w.count (turns b q)) where
    answered : (i : ℕ) → i < n → Answers (ask_of b q i).wanted (sent (sending w (turns_to b q i)).count)
    answered i l =
        let y = sending_count (turns_to b q i) w ∙ ap (λ k. w.count + k) (turns_length (ask_of b q) 0 i) in
        rw y (rw (turn_is b q i l) at (answered_at sent (turns b q) w.count i a (omega (arith, turns_many b q))))

    -- i pieces are open, each for its request
    abbrev Goes : ℕ → Bridge → Type 0
    Goes i x = Wired sent (held x h.store) (sending w (turns_to b q i)) es

    none_goes : (x : Bridge) → ((t : ℕ) → Acts t (free_slot b) same (λ o. claimed_slot b q) same b x) → Goes 0 x
    unfolding addresses
    none_goes x a = same_wired sent (λ t. (a t).tag) (ap (λ (c : Core). c.free) (a 0).core) v

    one_goes : (i : ℕ) (x y : Bridge) → i < n → 0 < available tag_count x.core.free → lowest tag_count x.core.free ≡ tag_of b i
        → Acts (lowest tag_count x.core.free) (free_slot b) (λ o. pending_tag b.core.ticks (turn_pending b q i)) same taken_core x y → Goes i x → Goes (suc i) y
    one_goes i x y l some t o p =
        let k = sending w (turns_to b q i) in
        let z : 0 + i ≡ i = omega arith in
        let r = opens_wired sent {x = held y h.store} k es b.core.ticks (turn_pending b q i) (ask_of b q i).wanted some o refl ((read_ok b q room e).slot, refl, omega arith) (answered i l) p in
        subst (λ u. Wired sent (held y h.store) u es) (sym (sending_more (ask_of b q) w 0 i ∙ ap (λ j. sending k (ask_of b q j ∷ [])) z)) (rw t at r)

    pub read_wired : Wired sent (held (read_bridge b q) h.store) (sending w (turns b q)) es
    read_wired = each_turn b q room s.sizes e Goes none_goes one_goes

-- ---- a configuration access that goes out

abbrev pub word_ask : Bridge → Access → List Ask
word_ask b a = record { tag = lowest tag_count b.core.free; wanted = word } ∷ []

pub asked_word : (h : Held) (a : Access) (room : ℕ) → config_refusal h.bridge a room ≡ 0 → goes_out (route_of h.bridge a) ≡ true → asked h (call (config a room)) ≡ word_ask h.bridge a
asked_word h a room e o = rw (eq-eqb (config_refusal h.bridge a room) 0 e, o)

module _ (sent : ℕ → List (List ℕ)) (h : Held) (a : Access) (room : ℕ) (s : Sound h) (e : config_refusal h.bridge a room ≡ 0) (o : goes_out (route_of h.bridge a) ≡ true) where
  some_free : 0 < available tag_count h.bridge.core.free
  some_free = (passed h.bridge.core (route_of h.bridge a) room e).tag o

  pub word_wired : (w : Wire) (es : List Event) → Wired sent h w es → AllAnswered sent w.count (word_ask h.bridge a)
      → Wired sent (held (routed_bridge h.bridge a) h.store) (sending w (word_ask h.bridge a)) es
  word_wired w es v r =
      opens_wired sent w es h.bridge.core.ticks (word_pending a.write) word some_free (routed_acts h.bridge a 0 s.sizes some_free) refl (omega arith) r.0 v
