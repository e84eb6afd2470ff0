-- Completions and timeouts as verbs, one after the other: the cases, and that there is no other.
use Prim.Native.Nat.{ℕ, ◌+◌, ◌*◌, ◌≤◌, ◌<◌}
use mathlib.Core.Path.{◌≡◌}
use mathlib.Core.Bool.{false, cond}
use mathlib.Core.List.{List}
use lib.Seq.{paste}
use lib.Dec.{ltb, leb}
use borrow.Author.Tests.{leb-true, leb-false, ltb-true, ltb-false}
use Rattle.common.specs.Decode.{cfg_timeout}
use Rattle.verdict.specs.declared.Cause.{Cause}
use Rattle.verdict.specs.declared.Cause.TheVariants.{Poison, Timeout}
use Rattle.verdict.specs.declared.Verdict.{Verdict}
use Rattle.verdict.specs.declared.Verdict.TheVariants.{Unexpected, Good, Poisoned, Failed}
use Rattle.machine.specs.State.{missing_of, place_of, owner_of, slot_count, slot_size, slverr, with_config, raised_core, core_in, counted, shut}
use Rattle.machine.specs.Completions.{Held, held, useful_bytes, failed, piece_closed, closed, advanced, memory_completed, config_done, is_unexpected}
use Rattle.machine.specs.Ticks.{timed_out}
use Rattle.machine.proofs.Judging.{never}
use Rattle.bridge_laws.proofs.Rows.{either}
use Rattle.bridge_laws.proofs.Parts.{same_missing}
use Rattle.bridge_laws.proofs.Verbs.{failed_leaves}

-- ---- a completion for a memory read

-- n bytes come: good ones are put, poisoned ones are noted as a failure
pub data Begins (h : Held) (t k skip : ℕ) (payload : List ℕ) (n : ℕ) : Held → Verdict → Type 0 where
  good : Begins h t k skip payload n
      (held h.bridge (paste h.store (slot_size * k + place_of h.bridge t) (useful_bytes skip n payload) n)) (Good n)
  poisoned : Begins h t k skip payload n (held (failed k (place_of h.bridge t) Poison h.bridge) h.store) (Poisoned n)

-- they are counted, and the last of a piece close it; or the piece fails
pub data Steps (h : Held) (t k skip : ℕ) (payload : List ℕ) : Held → Verdict → Type 0 where
  part : {n : ℕ} {x : Held} {v : Verdict} → Begins h t k skip payload n x v → n < missing_of h.bridge t
      → Steps h t k skip payload (held (counted t n x.bridge) x.store) v
  last : {n : ℕ} {x : Held} {v : Verdict} → Begins h t k skip payload n x v → missing_of h.bridge t ≤ n
      → Steps h t k skip payload (closed t k (held (counted t n x.bridge) x.store)) v
  fails : (why : Cause) → Steps h t k skip payload (closed t k (held (failed k (place_of h.bridge t) why h.bridge) h.store)) (Failed why)

module _ (h : Held) (t k skip : ℕ) (payload : List ℕ) where
  counts : {n : ℕ} {x : Held} {v : Verdict} → Begins h t k skip payload n x v
      → Steps h t k skip payload
      (cond (leb (missing_of h.bridge t) n) (closed t k (held (counted t n x.bridge) x.store)) (held (counted t n x.bridge) x.store)) v
  counts {v = v} p = either (λ y. Steps h t k skip payload y v) (leb (missing_of h.bridge t) _) _ _ (λ e. last p (leb-true _ _ e)) (λ e. part p (leb-false _ _ e))

  pub memory_steps : (v : Verdict) → is_unexpected v ≡ false → Steps h t k skip payload (memory_completed h t k skip payload v) v
  unfolding memory_completed advanced
  memory_steps Unexpected e = never e
  memory_steps (Good n) e = counts good
  memory_steps (Poisoned n) e =
      rw (same_missing ((failed_leaves k (place_of h.bridge t) Poison h.bridge).tag t)) (counts poisoned)
  memory_steps (Failed why) e = fails why

-- ---- a timeout

pub data Late (t : ℕ) (h : Held) : Held → Type 0 where
  memory : owner_of h.bridge t < slot_count
      → Late t h
      (piece_closed (owner_of h.bridge t)
      (held (shut t (failed (owner_of h.bridge t) (place_of h.bridge t) Timeout h.bridge)) h.store))
  config : slot_count ≤ owner_of h.bridge t
      → Late t h
      (held
      (shut t (core_in (raised_core cfg_timeout (with_config (config_done h.bridge.core.config slverr 0) h.bridge.core)) h.bridge))
      h.store)

pub timed_steps : (t : ℕ) (h : Held) → Late t h (timed_out t h)
unfolding timed_out
timed_steps t h = either (Late t h) (ltb (owner_of h.bridge t) slot_count) _ _ (λ e. memory (ltb-true _ _ e)) (λ e. config (ltb-false _ _ e))
