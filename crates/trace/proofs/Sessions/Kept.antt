-- The session number of an access stays in its slot until the access is taken.
use Prim.Native.Nat.{ℕ, ◌≤◌, ◌<◌}
use mathlib.Core.Path.{◌≡◌, refl, sym, ap, ◌∙◌, subst}
use mathlib.Core.Logic.{◌≢◌, by_cases}
use mathlib.Core.List.{List, [], ◌∷◌}
use mathlib.Core.Bool.{false}
use native.Mathlib.Omega.{arith}
use native.Mathlib.Decide.{dec_lt}
use lib.ListN.{length, drop, get_or}
use lib.Dec.{ltb, leb, eqb}
use Rattle.parts.specs.Cores.{Core}
use Rattle.parts.specs.declared.ConfigSlot.{ConfigSlot}
use Rattle.verdict.specs.declared.Cause.TheVariants.{Timeout, UnsupportedRequest, RequestRetry, CompleterAbort, Poison}
use Rattle.verdict.specs.declared.Verdict.{Verdict}
use Rattle.verdict.specs.declared.Verdict.TheVariants.{Unexpected, Good, Poisoned, Failed}
use Rattle.machine.specs.State.{Bridge, Tag, Slot, slot_at, slot_count, config_slot, slot_open, free_slot, raised_core, with_ticks, core_in, okay, slverr}
use Rattle.machine.specs.Config.{route_of}
use Rattle.machine.specs.Completions.{Held, held, config_answer, config_done}
use Rattle.machine.specs.Ticks.{next_tick, drop_config}
use Rattle.machine.specs.Take.{state_of, take_refusal, slot_freed}
use Rattle.machine.proofs.Configs.{passed}
use Rattle.machine.proofs.Refusals.{read_ok}
use Rattle.bridge_laws.specs.MemoryLaws.{Tables}
use Rattle.bridge_laws.specs.Rows.{faulted_slot, closed_slot, dropped_slot}
use Rattle.bridge_laws.specs.Effects.{Acts, Serves, good_part, good_last, poison_part, poison_last, fails, Expires, memory, config}
use Rattle.bridge_laws.proofs.Cores.{raised_core_lem, local_core_lem}
use Rattle.bridge_laws.proofs.EachRow.{each_slot_row}
use Rattle.bridge_laws.proofs.Effects.{memory_serves, config_serves, timed_out_expires, routed_acts, released_acts, drop_loses}
use Rattle.bridge_laws.proofs.Kept.{accepted_read_keeps}
use Rattle.bridge_laws.proofs.Stored.{accepted_read_opens}
use Rattle.bridge_laws.proofs.TakeLaws as take
use Rattle.bridge_laws.proofs.TakeLaws.{in_range_lem}
use Rattle.bridge_laws.proofs.Turns.{each_tag}
use Rattle.trace.specs.Events as event
use Rattle.trace.specs.Events.{Call, Event, step, run}
use Rattle.trace.specs.Sessions as sessions
use Rattle.trace.specs.Sessions.{Keeps}
use Rattle.trace.specs.Claims.{takes, Untaken}
use Rattle.trace.specs.Sound.{Sound}
use Rattle.trace.proofs.Soundness.Cases.{by_test}
use Rattle.trace.proofs.Soundness.Fine.{tag_below}
use Rattle.trace.proofs.Soundness.Ticking.{test_open}
use Rattle.trace.proofs.Soundness.View.{Move, idle, missed, reads, locals, routes, memories, configs, ticks, drops, links, releases, moves}
use Rattle.trace.proofs.Soundness.Sound.{sound_step}
use Rattle.trace.proofs.Tags.Opened.{free_slot_free}
use Rattle.trace.proofs.Bytes.Reading.{release_other}
use Rattle.trace.proofs.Deadline.Calls.{by_read}
use Rattle.trace.proofs.Deadline.Deadline.{by_route}

-- ---- a slot in use, with a session number

pub record Bears (n : ℕ) (s : Slot) : Type 0 where
  pub used : s.state ≢ 0
  pub number : s.session ≡ n

pub record BearsConfig (n : ℕ) (c : ConfigSlot) : Type 0 where
  pub used : c.state ≢ 0
  pub number : c.figures.session ≡ n

-- of each of the nine
pub record Numbered (k n : ℕ) (b : Bridge) : Type 0 where
  pub slot : k < slot_count → Bears n (slot_at b k)
  pub config : k ≡ config_slot → BearsConfig n b.core.config

-- ---- what steps make of it

module _ {n : ℕ} where
  bears_closed : (s : Slot) → Bears n s → Bears n (closed_slot s)
  bears_closed s p =
      by_test (Bears n) (leb s.pieces 1) (λ z. record { used = λ e. omega arith; number = p.number }) (λ z. record { used = p.used; number = p.number })

  bears_faulted : (place code : ℕ) (s : Slot) → Bears n s → Bears n (faulted_slot place code s)
  bears_faulted place code s p = by_test (Bears n) (ltb place s.fault) (λ z. record { used = p.used; number = p.number }) (λ z. p)

  bears_dropped : (s : Slot) → Bears n s → Bears n (dropped_slot s)
  bears_dropped s p = by_test (Bears n) (eqb s.state slot_open) (λ z. record { used = λ e. omega arith; number = p.number }) (λ z. p)

  bears_done : (c : ConfigSlot) (code word : ℕ) → BearsConfig n c → BearsConfig n (config_done c code word)
  bears_done c code word p = record { used = λ e. omega arith; number = p.number }

  bears_lost : (c : ConfigSlot) → BearsConfig n c → BearsConfig n (drop_config c)
  bears_lost c p = by_test (BearsConfig n) (eqb c.state slot_open) (λ z. bears_done c slverr 0 p) (λ z. p)

  bears_answer : (c : ConfigSlot) (payload : List ℕ) (v : Verdict) → BearsConfig n c → BearsConfig n (config_answer c payload v)
  unfolding config_answer
  bears_answer c payload Unexpected p = p
  bears_answer c payload (Good m) p = bears_done c okay _ p
  bears_answer c payload (Poisoned m) p = bears_done c slverr 0 p
  bears_answer c payload (Failed UnsupportedRequest) p =
      by_test (BearsConfig n) c.write (λ z. bears_done c slverr 0 p) (λ z. bears_done c okay 0xFFFFFFFF p)
  bears_answer c payload (Failed RequestRetry) p = bears_done c slverr 0 p
  bears_answer c payload (Failed CompleterAbort) p = bears_done c slverr 0 p
  bears_answer c payload (Failed Poison) p = bears_done c slverr 0 p
  bears_answer c payload (Failed Timeout) p = bears_done c slverr 0 p

-- a slot that is no read's and can be taken is the configuration slot
pub config_slot_lem : (b : Bridge) (k room : ℕ) → take_refusal b room k ≡ 0 → slot_count ≤ k → k ≡ config_slot
config_slot_lem b k room e l = omega (arith, in_range_lem b.core.config.state b.state k (take.passed room (state_of b k) e).finished)

-- an effect on one slot and the core
acts_numbered : {t j : ℕ} {f : Tag → Tag} {g : Slot → Slot} {c : Core → Core} {b x : Bridge} {k n : ℕ} → Acts t j f g c b x
    → (k ≡ j → (s : Slot) → Bears n s → Bears n (g s))
    → (k ≡ config_slot → BearsConfig n b.core.config → BearsConfig n (c b.core).config)
    → Numbered k n b → Numbered k n x
acts_numbered {j = j} {g = g} {b = b} {k = k} {n = n} e s d p =
    record {
      slot = λ l.
          each_slot_row e (λ i r. i ≡ k → Bears n r) (λ z. s (sym z) (slot_at b j) (subst (λ i. Bears n (slot_at b i)) (sym z) (p.slot l)))
          (λ i m z. subst (λ i. Bears n (slot_at b i)) (sym z) (p.slot l)) k refl;
      config = λ z. subst (λ (y : Core). BearsConfig n y.config) (sym e.core) (d z (p.config z));
    }

raised_bears : {n : ℕ} (i : ℕ) (c : Core) → BearsConfig n c.config → BearsConfig n (raised_core i c).config
raised_bears i c p = subst (BearsConfig _) (sym (raised_core_lem i c).config) p

record Turn (k n : ℕ) (x : Held) : Type 0 where
  tables : Tables x.bridge
  numbered : Numbered k n x.bridge

module _ {k n : ℕ} where
  -- ---- a completion, and a tick

  served : {t j skip : ℕ} {payload : List ℕ} {h x : Held} {v : Verdict} → Serves t j skip payload h x v → Numbered k n h.bridge → Numbered k n x.bridge
  served (good_part m l a e) p = acts_numbered a (λ z s b. b) (λ z b. b) p
  served (good_last m l a e) p = acts_numbered a (λ z. bears_closed) (λ z b. b) p
  served {h = h} (poison_part m l a e) p = acts_numbered a (λ z. bears_faulted _ _) (λ z. raised_bears _ h.bridge.core) p
  served {h = h} (poison_last m l a e) p =
      acts_numbered a (λ z s b. bears_closed (faulted_slot _ _ s) (bears_faulted _ _ s b)) (λ z. raised_bears _ h.bridge.core) p
  served {h = h} (fails why a e) p =
      acts_numbered a (λ z s b. bears_closed (faulted_slot _ _ s) (bears_faulted _ _ s b)) (λ z. raised_bears _ h.bridge.core) p

  expired : {t : ℕ} {h x : Held} → Expires t h x → Turn k n h → Turn k n x
  expired {h = h} (memory l a s) p =
      record {
        tables = a.tables;
        numbered =
            acts_numbered a (λ z s b. bears_closed (faulted_slot _ _ s) (bears_faulted _ _ s b)) (λ z. raised_bears _ h.bridge.core) p.numbered;
      }
  expired {h = h} (config l a s) p =
      record {
        tables = (a 8).tables;
        numbered =
            acts_numbered (a 8) (λ z s b. b) (λ z b. raised_bears _ _ (bears_done h.bridge.core.config slverr 0 b)) p.numbered;
      }

  -- ---- any event that does not take the slot

  event_numbered : (h : Held) (e : Event) → Sound h → (x : Held) → Move h e x → takes k h e ≡ false → Numbered k n h.bridge → Numbered k n x.bridge
  event_numbered h e g x (idle r a l) u p = record { slot = p.slot; config = p.config }
  event_numbered h e g x (missed r f l) u p = record { slot = p.slot; config = p.config }
  event_numbered h e g x (reads {q = q} {room = room} f) u p =
      let r = accepted_read_keeps h.bridge q room f in
      record {
        slot = λ l.
            let d : k ≢ free_slot h.bridge =
            λ z. (p.slot l).used (ap (λ (j : ℕ). get_or h.bridge.state j 0) z ∙ free_slot_free h q room g f) in
            subst (Bears n) (sym (r.slots k d)) (p.slot l);
        config = λ z. subst (BearsConfig n) (sym r.config) (p.config z);
      }
  event_numbered h e g x (locals {a = a} {room = room} w f r) u p =
      record { slot = p.slot; config = λ z. absurd ((p.config z).used (passed h.bridge.core (route_of h.bridge a) room f).free) }
  event_numbered h e g x (routes {a = a} {room = room} f o) u p =
      let y = passed h.bridge.core (route_of h.bridge a) room f in
      acts_numbered (routed_acts h.bridge a 8 g.sizes (y.tag o)) (λ z s b. b) (λ z b. absurd (b.used y.free)) p
  event_numbered h e g x (memories {s = s} c v f m o l j i) u p =
      served (memory_serves h c.tag _ _ (drop 12 s) v g.sizes (tag_below h.bridge c.tag g.sizes (test_open _ _ o)) l i) p
  event_numbered h e g x (configs {s = s} c v f m o l j i) u p =
      acts_numbered (config_serves h.bridge c.tag 8 (drop 12 s) v g.sizes (tag_below h.bridge c.tag g.sizes (test_open _ _ o)))
      (λ z s b. b) (λ z. bears_answer h.bridge.core.config (drop 12 s) v) p
  event_numbered h e g x ticks u p =
      (each_tag (λ i. Turn k n) (held (core_in (with_ticks (next_tick h.bridge.core.ticks) h.bridge.core) h.bridge) h.store)
      (record { tables = let z = g.sizes in omega arith; numbered = record { slot = p.slot; config = p.config } })
      (λ i x l o q. q)
      (λ i x l o q. expired (timed_out_expires x i q.tables l) q)).numbered
  event_numbered h e g x (drops l) u p =
      let a = drop_loses h g.sizes in
      record {
        slot = λ l. subst (Bears n) (sym (a.slot k l)) (bears_dropped (slot_at h.bridge k) (p.slot l));
        config = λ z.
            subst (λ (c : Core). BearsConfig n c.config) (sym a.core) (raised_bears _ _ (bears_lost h.bridge.core.config (p.config z)));
      }
  event_numbered h e g x (links up d) u p = record { slot = p.slot; config = p.config }
  event_numbered h e g x (releases {k = j} r) u p = by_cases (dec_lt j slot_count) below above
    where
      other : k ≢ j
      other = release_other k j h u r

      below : j < slot_count → Numbered k n (slot_freed j h.bridge)
      below l = acts_numbered ((released_acts 0 j h.bridge g.sizes).0 l) (λ z. absurd (other z)) (λ z b. b) p

      above : (j < slot_count → ⊥) → Numbered k n (slot_freed j h.bridge)
      above l =
          acts_numbered ((released_acts 0 j h.bridge g.sizes).1 (omega arith)) (λ z. absurd (other z))
          (λ z b. absurd (other (z ∙ sym (config_slot_lem h.bridge j (length h.store) r (omega arith))))) p

  -- ---- lists

  pub run_numbered : (es : List Event) (h : Held) → Sound h → Untaken k h es → Numbered k n h.bridge → Numbered k n (run h es).bridge
  run_numbered [] h g u p = p
  run_numbered (e ∷ es) h g u p =
      run_numbered es (step h e).after (sound_step h e g) u.1 (event_numbered h e g (step h e).after (moves h e g.room) u.0 p)

-- ---- an access that is accepted has the counter's number

config_numbered : {n : ℕ} {x : Bridge} {f : ConfigSlot} → x.core.config ≡ f → BearsConfig n f → Numbered config_slot n x
config_numbered {n = n} z p = record { slot = λ l. absurd (omega arith); config = λ w. subst (BearsConfig n) (sym z) p }

pub accepted_numbered : (h : Held) (c : Call) (k : ℕ) → Sound h → Keeps h c k → Numbered k h.bridge.core.session (step h (event.call c)).after.bridge
accepted_numbered h c k g (sessions.reads q room e) =
    let b = h.bridge in
    by_read h q room g e (Numbered (free_slot b) b.core.session)
    (record {
      slot = λ l. subst (Bears b.core.session) (sym (accepted_read_opens b q room g.sizes e).slot) (record { used = λ z. omega arith; number = refl });
      config = λ z. absurd (omega (arith, z, (read_ok b q room e).slot));
    })
accepted_numbered h c k g (sessions.configs a room e) =
    let b = h.bridge in
    let n = b.core.session in
    by_route h a room g e (Numbered config_slot n)
    (λ w r u. config_numbered (local_core_lem b.core a w).config (record { used = λ z. omega arith; number = refl }))
    (λ o u.
    config_numbered (ap (λ (y : Core). y.config) (routed_acts b a 8 g.sizes ((passed b.core (route_of b a) room e).tag o)).core)
    (record { used = λ z. omega arith; number = refl }))
