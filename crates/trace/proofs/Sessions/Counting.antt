-- The link and the session counter along a list of events: no event but a link event changes them.
use Prim.Native.Nat.{ℕ, ◌+◌, ◌%◌, ◌^◌, ◌<◌}
use mathlib.Core.Path.{◌≡◌, refl, sym, ap, ◌∙◌, subst}
use mathlib.Core.Logic.{by_cases}
use mathlib.Core.List.{List, [], ◌∷◌, ◌++◌}
use mathlib.Core.Bool.{Bool, true, false, cond, ◌&&◌, not}
use native.Mathlib.Omega.{arith}
use native.Mathlib.Decide.{dec_lt}
use lib.ListN.{drop}
use Rattle.ecam.specs.Registers.{Registers, fresh}
use Rattle.parts.specs.Cores.{Core}
use Rattle.verdict.specs.declared.Verdict.{Verdict}
use Rattle.machine.specs.State.{slot_count, with_ticks, core_in, raised_core}
use Rattle.machine.specs.Config.{route_of}
use Rattle.machine.specs.Completions.{Held, held}
use Rattle.machine.specs.Ticks.{next_tick, next_session}
use Rattle.machine.proofs.Configs.{passed}
use Rattle.bridge_laws.specs.MemoryLaws.{Tables}
use Rattle.bridge_laws.specs.Effects.{Serves, good_part, good_last, poison_part, poison_last, fails, Expires, memory, config}
use Rattle.bridge_laws.proofs.Cores.{raised_core_lem, local_core_lem}
use Rattle.bridge_laws.proofs.Effects.{memory_serves, config_serves, timed_out_expires, routed_acts, released_acts, drop_loses}
use Rattle.bridge_laws.proofs.FreshLaws.{new_is_fresh}
use Rattle.bridge_laws.proofs.Kept.{accepted_read_keeps}
use Rattle.bridge_laws.proofs.Turns.{each_tag}
use Rattle.trace.specs.Events as event
use Rattle.trace.specs.Events.{Event, step, run, start}
use Rattle.trace.specs.Sound.{Sound}
use Rattle.trace.specs.Sessions.{up_after, rises, up_at_end, ups, RunCounts}
use Rattle.trace.proofs.Soundness.Fine.{tag_below}
use Rattle.trace.proofs.Soundness.Ticking.{test_open}
use Rattle.trace.proofs.Soundness.View.{Move, idle, missed, reads, locals, routes, memories, configs, ticks, drops, links, releases, moves}
use Rattle.trace.proofs.Soundness.Sound.{sound_step, run_sound}

-- ---- a core with the same link and session counter

pub record Quiet (c d : Core) : Type 0 where
  pub link : d.registers.link ≡ c.registers.link
  pub session : d.session ≡ c.session

quiet_then : {c d e : Core} → Quiet c d → Quiet d e → Quiet c e
quiet_then p q = record { link = q.link ∙ p.link; session = q.session ∙ p.session }

quiet_of : {c d e : Core} → e ≡ d → Quiet c d → Quiet c e
quiet_of z p = subst (Quiet _) (sym z) p

raised_quiet : (i : ℕ) (c : Core) → Quiet c (raised_core i c)
raised_quiet i c = let r = raised_core_lem i c in record { link = r.link; session = r.session }

-- ---- a completion, and a tick

serve_quiet : {t k skip : ℕ} {payload : List ℕ} {h x : Held} {v : Verdict} → Serves t k skip payload h x v → Quiet h.bridge.core x.bridge.core
serve_quiet (good_part n l a e) = quiet_of a.core (record { link = refl; session = refl })
serve_quiet (good_last n l a e) = quiet_of a.core (record { link = refl; session = refl })
serve_quiet {h = h} (poison_part n l a e) = quiet_of a.core (raised_quiet _ h.bridge.core)
serve_quiet {h = h} (poison_last n l a e) = let q = raised_quiet _ h.bridge.core in quiet_of a.core (record { link = q.link; session = q.session })
serve_quiet {h = h} (fails why a e) = let q = raised_quiet _ h.bridge.core in quiet_of a.core (record { link = q.link; session = q.session })

record Turn (c : Core) (x : Held) : Type 0 where
  tables : Tables x.bridge
  quiet : Quiet c x.bridge.core

expire_turn : {t : ℕ} {c : Core} {h x : Held} → Expires t h x → Turn c h → Turn c x
expire_turn {h = h} (memory l a s) p =
    record { tables = a.tables; quiet = quiet_of a.core (quiet_then p.quiet (raised_quiet _ h.bridge.core)) }
expire_turn {h = h} (config l a s) p =
    let r = raised_core_lem _ _ in
    record { tables = (a 8).tables; quiet = quiet_of (a 8).core (quiet_then p.quiet (record { link = r.link; session = r.session })) }

-- ---- any event

-- from a counter that is n mod 2^32
pub record Turns (h : Held) (e : Event) (x : Held) : Type 0 where
  pub link : x.bridge.core.registers.link ≡ up_after h.bridge.core.registers.link e
  pub session : (n : ℕ) → h.bridge.core.session ≡ n % 2 ^ 32
      → x.bridge.core.session ≡ (n + rises h.bridge.core.registers.link e) % 2 ^ 32

-- one that is no link event
quiet_call : {h x : Held} {c : event.Call} → Quiet h.bridge.core x.bridge.core → Turns h (event.call c) x
quiet_call q = record { link = q.link; session = λ n e. q.session ∙ (e ∙ omega arith) }

quiet_completion : {h x : Held} {i : ℕ} {s : List ℕ} → Quiet h.bridge.core x.bridge.core → Turns h (event.completion i s) x
quiet_completion q = record { link = q.link; session = λ n e. q.session ∙ (e ∙ omega arith) }

-- a link event that is no drop
counts : (up was : Bool) (x n : ℕ) → x ≡ n % 2 ^ 32
    → cond (up && not was) (next_session x) x ≡ (n + cond (up && not was) 1 0) % 2 ^ 32
counts true true x n e = e ∙ omega arith
counts true false x n e = omega (arith, e)
counts false was x n e = e ∙ omega arith

pub turns : (h : Held) (e : Event) → Sound h → (x : Held) → Move h e x → Turns h e x
turns h e g x (idle r a l) = quiet_call (record { link = l; session = refl })
turns h e g x (missed r f l) = quiet_completion (record { link = l; session = refl })
turns h e g x (reads {q = q} {room = room} f) =
    let k = accepted_read_keeps h.bridge q room f in
    quiet_call (record { link = ap (λ (r : Registers). r.link) k.registers; session = k.counter })
turns h e g x (locals {a = a} w f r) = let c = local_core_lem h.bridge.core a w in quiet_call (record { link = c.link; session = c.session })
turns h e g x (routes {a = a} {room = room} f o) =
    quiet_call
    (quiet_of (routed_acts h.bridge a 8 g.sizes ((passed h.bridge.core (route_of h.bridge a) room f).tag o)).core (record { link = refl; session = refl }))
turns h e g x (memories {s = s} c v f m o l j u) =
    quiet_completion
    (serve_quiet (memory_serves h c.tag _ _ (drop 12 s) v g.sizes (tag_below h.bridge c.tag g.sizes (test_open _ _ o)) l u))
turns h e g x (configs {s = s} c v f m o l j u) =
    quiet_completion
    (quiet_of (config_serves h.bridge c.tag 8 (drop 12 s) v g.sizes (tag_below h.bridge c.tag g.sizes (test_open _ _ o))).core
    (record { link = refl; session = refl }))
turns h e g x ticks =
    let q =
    (each_tag (λ n. Turn h.bridge.core) (held (core_in (with_ticks (next_tick h.bridge.core.ticks) h.bridge.core) h.bridge) h.store)
    (record { tables = let z = g.sizes in omega arith; quiet = record { link = refl; session = refl } })
    (λ n x l o p. p)
    (λ n x l o p. expire_turn (timed_out_expires x n p.tables l) p)).quiet in
    record { link = q.link; session = λ n e. q.session ∙ (e ∙ omega arith) }
turns h e g x (drops l) =
    let r = raised_core_lem _ _ in
    let a = (drop_loses h g.sizes).core in
    record {
      link = ap (λ (c : Core). c.registers.link) a ∙ r.link;
      session = λ n e. ap (λ (c : Core). c.session) a ∙ (r.session ∙ (e ∙ omega arith));
    }
turns h e g x (links up d) =
    record { link = refl; session = λ n z. counts up h.bridge.core.registers.link h.bridge.core.session n z }
turns h e g x (releases {k = k} r) = quiet_call (by_cases (dec_lt k slot_count) below above)
  where
    below : k < slot_count → Quiet h.bridge.core x.bridge.core
    below l = quiet_of ((released_acts 0 k h.bridge g.sizes).0 l).core (record { link = refl; session = refl })

    above : (k < slot_count → ⊥) → Quiet h.bridge.core x.bridge.core
    above l = quiet_of ((released_acts 0 k h.bridge g.sizes).1 (omega arith)).core (record { link = refl; session = refl })

-- ---- lists

-- from a bridge whose link is up or down and whose counter is n mod 2^32
record From (up : Bool) (n : ℕ) (h : Held) : Type 0 where
  link : h.bridge.core.registers.link ≡ up
  session : h.bridge.core.session ≡ n % 2 ^ 32

run_from : (es : List Event) (h : Held) (up : Bool) (n : ℕ) → Sound h → From up n h → From (up_at_end up es) (n + ups up es) (run h es)
run_from [] h up n g p = record { link = p.link; session = p.session ∙ omega arith }
run_from (e ∷ es) h up n g p =
    let t = turns h e g (step h e).after (moves h e g.room) in
    let z = p.link in
    let q =
    run_from es (step h e).after (up_after up e) (n + rises up e) (sound_step h e g)
    (record { link = t.link ∙ ap (λ u. up_after u e) z; session = t.session n p.session ∙ ap (λ u. (n + rises u e) % 2 ^ 32) z }) in
    record { link = q.link; session = q.session ∙ omega arith }

pub run_counts : RunCounts
unfolding fresh
run_counts s store long es =
    let f = new_is_fresh s in
    let q = run_from es (start s store) false 0 (run_sound s store long []) (record { link = ap (λ (r : Registers). r.link) f.registers; session = f.counter ∙ omega arith }) in
    record { link = q.link; session = q.session ∙ omega arith }

-- ---- a list in two parts

pub ups_append : (up : Bool) (es fs : List Event) → ups up (es ++ fs) ≡ ups up es + ups (up_at_end up es) fs
ups_append up [] fs = omega arith
ups_append up (e ∷ es) fs = let q = ups_append (up_after up e) es fs in omega arith

pub end_append : (up : Bool) (es fs : List Event) → up_at_end up (es ++ fs) ≡ up_at_end (up_at_end up es) fs
end_append up [] fs = refl
end_append up (e ∷ es) fs = end_append (up_after up e) es fs
