-- What a completion and a timeout leave as it is: they touch their own tag and slot alone.
use Prim.Native.Nat.{ℕ, ◌+◌, ◌*◌, ◌%◌, ◌≤◌, ◌<◌}
use mathlib.Core.Path.{◌≡◌, refl, subst}
use mathlib.Core.Bool.{cond}
use mathlib.Core.Logic.{◌≢◌}
use mathlib.Core.List.{List}
use native.Mathlib.Omega.{arith}
use lib.ListN.{length, drop, length-take, length-drop}
use lib.Dec.{eqb}
use Rattle.common.specs.Decode.{cfg_timeout}
use Rattle.std.specs.Prelude.{Ok}
use Rattle.tlp.specs.declared.completion.Completion.{Completion}
use Rattle.verdict.specs.declared.Cause.TheVariants.{Poison, Timeout}
use Rattle.verdict.specs.declared.Verdict.{Verdict}
use Rattle.machine.specs.State.{slot_at, with_config, core_in, raised_core, raise, missing_of, owner_of, place_of, next_address, slot_count, counted, shut, freed, slverr}
use Rattle.machine.specs.Completions.{store_size, Held, held, failed, piece_closed, closed, useful_bytes, config_done, completion_of}
use Rattle.machine.specs.Code.Expected.{Fits, Whole}
use Rattle.machine.proofs.Judging.{verdict_fits, read_whole, open_room}
use Rattle.bridge_laws.specs.CompletionLaws.{Kept, Came, short, malformed, lost, memory, config, OwnSlotOnly, MalformedKeeps, RefusedKeeps}
use Rattle.bridge_laws.proofs.Cores.{raised_core_lem}
use Rattle.bridge_laws.proofs.Verbs.{only_then, core_only, raise_only, counted_only, shut_only, freed_only, failed_leaves, piece_leaves, piece_store}
use Rattle.bridge_laws.proofs.Steps as steps
use Rattle.bridge_laws.proofs.Serving.{config_only}
use Rattle.bridge_laws.proofs.Stores.{paste_only, closed_bytes, kept_same, kept_by, both_kept}
use Rattle.bridge_laws.proofs.Coming.{came_one_way}

pub piece_kept : (k t : ℕ) → k < slot_count → (h : Held) → store_size ≤ length h.store → Kept k t h (piece_closed k h)
piece_kept k t small h l = record {
  here = (piece_leaves k h).only t;
  store = rw (piece_store k h) (closed_bytes k (slot_at h.bridge k) h.store small l);
  none = λ far. absurd (omega arith);
}

-- ---- a completion for a memory read, whose useful bytes are there and fit their slot

module _ (h : Held) (c : Completion) (k : ℕ) (payload : List ℕ) (small : k < slot_count) (l : store_size ≤ length h.store)
    (long : length payload ≡ 4 * c.length) (fit : place_of h.bridge c.tag + missing_of h.bridge c.tag ≤ 4096) where
  abbrev t : ℕ
  t = c.tag

  abbrev place : ℕ
  place = place_of h.bridge t

  shut_kept : (x : Held) → store_size ≤ length x.store → Kept k t x (closed t k x)
  shut_kept x r =
      both_kept (kept_by (only_then (shut_only k t x.bridge) (freed_only k t (shut t x.bridge))))
      (piece_kept k t small (held (freed t (shut t x.bridge)) x.store) r)

  begun_kept : {n : ℕ} {x : Held} {v : Verdict} → steps.Begins h t k (c.lower % 4) payload n x v → Fits c (missing_of h.bridge t) v → Kept k t h x
  begun_kept {n} steps.good f =
      let s = useful_bytes (c.lower % 4) n payload in
      let u : n ≤ length s = simp (length-take, length-drop) (omega (arith, f.inside)) in
      record {
        here = search;
        store = paste_only k place n h.store s (omega (arith, f.most)) (omega (arith, f.most)) u;
        none = λ far. absurd (omega arith);
      }
  begun_kept steps.poisoned f = kept_by ((failed_leaves k place Poison h.bridge).only t)

  memory_kept : {x : Held} {v : Verdict} → steps.Steps h t k (c.lower % 4) payload x v → Fits c (missing_of h.bridge t) v → Kept k t h x
  memory_kept (steps.part {n} {x} p e) f = both_kept (begun_kept p f) (kept_by (counted_only k t n x.bridge))
  memory_kept (steps.last {n} {x} p e) f =
      let b = both_kept (begun_kept p f) (kept_by (counted_only k t n x.bridge)) in
      both_kept b (shut_kept (held (counted t n x.bridge) x.store) (rw b.store.room l))
  memory_kept (steps.fails why) f =
      both_kept (kept_by ((failed_leaves k place why h.bridge).only t)) (shut_kept (held (failed k place why h.bridge) h.store) l)

-- ---- any completion

pub own_kept : (h : Held) (s : List ℕ) (c : Completion) → completion_of s ≡ Ok c → {x : Held} {n : ℕ} → Came h s x n
    → Kept (owner_of h.bridge c.tag) c.tag h x
own_kept h s c e (short l) = kept_same _ _ h
own_kept h s c e (malformed l f) = kept_same _ _ h
own_kept h s c e (lost d l f u) = kept_by (raise_only (owner_of h.bridge c.tag) c.tag h.bridge 21)
own_kept h s c e {x} (memory d v l f r o m z u) =
    let b = h.bridge in
    let w : Whole s (Ok d) = rw f at (read_whole s) in
    let q : d ≡ c = cc in
    subst (λ (a : Completion). Kept (owner_of b a.tag) a.tag h x) q
    (memory_kept h d (owner_of b d.tag) (drop 12 s) m l (rw (length-drop 12 s) (omega (arith, w.1))) (open_room _ _ o)
    (steps.memory_steps h d.tag (owner_of b d.tag) (d.lower % 4) (drop 12 s) v u)
    (rw z at (verdict_fits d (missing_of b d.tag) (next_address b d.tag) w.0)))
own_kept h s c e {x} (config d v l f r o m z u) =
    let b = h.bridge in
    let q : d ≡ c = cc in
    subst (λ (a : Completion). Kept (owner_of b a.tag) a.tag h x) q (kept_by (config_only (owner_of b d.tag) d.tag b (drop 12 s) v m))

pub own_slot_only : OwnSlotOnly
own_slot_only h s c e = own_kept h s c e (came_one_way h s)

pub malformed_keeps : MalformedKeeps
malformed_keeps h s e = by (came_one_way h s)
  where
    by : {x : Held} {n : ℕ} → Came h s x n → x ≡ h
    by (short l) = refl
    by (malformed l f) = refl
    by (lost c l f u) = cc
    by (memory c v l f r o m z u) = cc
    by (config c v l f r o m z u) = cc

pub refused_keeps : RefusedKeeps
refused_keeps h s d = by (came_one_way h s) d
  where
    by : {x : Held} {n : ℕ} → Came h s x n → n ≢ 0 → x ≡ cond (eqb n 13) (held (raise 21 h.bridge) h.store) h
    by (short l) d = refl
    by (malformed l f) d = refl
    by (lost c l f u) d = refl
    by (memory c v l f r o m z u) d = absurd (d refl)
    by (config c v l f r o m z u) d = absurd (d refl)

-- ---- a timeout

pub late_kept : {t : ℕ} {h x : Held} → steps.Late t h x → store_size ≤ length h.store → Kept (owner_of h.bridge t) t h x
late_kept {t} {h} (steps.memory m) l =
    let k = owner_of h.bridge t in
    let b = failed k (place_of h.bridge t) Timeout h.bridge in
    both_kept (kept_by (only_then ((failed_leaves k (place_of h.bridge t) Timeout h.bridge).only t) (shut_only k t b))) (piece_kept k t m (held (shut t b) h.store) l)
late_kept {t} {h} (steps.config m) l =
    let k = owner_of h.bridge t in
    let c = with_config (config_done h.bridge.core.config slverr 0) h.bridge.core in
    let p = core_only k t h.bridge (raised_core cfg_timeout c) (raised_core_lem cfg_timeout c).ticks (raised_core_lem cfg_timeout c).session (λ s. absurd (omega arith)) in
    kept_by (only_then p (shut_only k t (core_in (raised_core cfg_timeout c) h.bridge)))
