-- An answer's session number is that of the life of the link in which its access was accepted.
use Prim.Native.Nat.{ℕ, ◌%◌, ◌^◌}
use mathlib.Core.Path.{◌≡◌, refl, sym, ap, ◌∙◌}
use mathlib.Core.Logic.{by_cases}
use mathlib.Core.List.{List, [], ◌∷◌, ◌++◌}
use mathlib.Core.Bool.{true, false}
use native.Mathlib.Omega.{arith}
use native.Mathlib.Decide.{dec_lt}
use lib.ListN.{length}
use Rattle.parts.specs.declared.Figures.{Figures}
use Rattle.machine.specs.State.{slot_count}
use Rattle.machine.specs.Completions.{Held}
use Rattle.machine.proofs.Judging.{never}
use Rattle.bridge_laws.proofs.SessionLaws.{release_reports}
use Rattle.trace.specs.Events.{Event, call, completion, tick, link, step, run, start}
use Rattle.trace.specs.Claims.{Answered, Steady}
use Rattle.trace.specs.Sessions.{up_at_end, ups, life, reported, SessionIsLife, SameLifeIsEqual, EqualIsSameLife, EqualIsNoDrop}
use Rattle.trace.proofs.Soundness.Sound.{sound_step, run_sound}
use Rattle.trace.proofs.Sessions.Counting.{run_counts, ups_append, end_append}
use Rattle.trace.proofs.Sessions.Kept.{Numbered, config_slot_lem, accepted_numbered, run_numbered}

-- ---- what a release reports

reports : (h : Held) (k n : ℕ) → Answered k h → Numbered k n h.bridge → reported h k ≡ n
reports h k n a p =
    let r = release_reports h.bridge (length h.store) k a in
    by_cases (dec_lt k slot_count) (λ l. ap (λ (f : Figures). f.session) (r.0 l) ∙ (p.slot l).number)
    (λ l. let z = config_slot_lem h.bridge k (length h.store) a (omega arith) in ap (λ (f : Figures). f.session) (r.1 z) ∙ (p.config z).number)

-- ---- THE LAWS

pub session_is_life : SessionIsLife
session_is_life s store long before n r =
    let h = run (start s store) before in
    let g = run_sound s store long before in
    let y = (step h (call r.access)).after in
    let p = accepted_numbered h r.access r.slot g r.kept in
    let q = run_numbered r.later y (sound_step h (call r.access) g) r.untaken p in
    sym r.number ∙ (reports (run y r.later) r.slot h.bridge.core.session r.answered q ∙ (run_counts s store long before).session)

pub same_life_is_equal : SameLifeIsEqual
same_life_is_equal s store long before between n m r q none =
    let a = session_is_life s store long before n r in
    let b = session_is_life s store long (before ++ between) m q in
    let c = ups_append false before between in
    let e : life (before ++ between) ≡ life before = omega arith in
    a ∙ (ap (λ (x : ℕ). x % 2 ^ 32) (sym e) ∙ sym b)

pub equal_is_same_life : EqualIsSameLife
equal_is_same_life s store long before between n r q few =
    let a = session_is_life s store long before n r in
    let b = session_is_life s store long (before ++ between) n q in
    let c = ups_append false before between in
    omega arith

-- a link that is up at both ends of a list and does not go up in it does not go down in it
steady_of : (es : List Event) → ups true es ≡ 0 → up_at_end true es ≡ true → Steady es
steady_of [] e f = tt
steady_of (call c ∷ es) e f = (refl, steady_of es (omega arith) f)
steady_of (completion i s ∷ es) e f = (refl, steady_of es (omega arith) f)
steady_of (tick ∷ es) e f = (refl, steady_of es (omega arith) f)
steady_of (link true ∷ es) e f = (refl, steady_of es (omega arith) f)
steady_of (link false ∷ es) e f = absurd (goes_up es (omega arith) f)
  where
    goes_up : (es : List Event) → ups false es ≡ 0 → up_at_end false es ≡ true → ⊥
    goes_up [] e f = never (sym f)
    goes_up (call c ∷ es) e f = goes_up es (omega arith) f
    goes_up (completion i s ∷ es) e f = goes_up es (omega arith) f
    goes_up (tick ∷ es) e f = goes_up es (omega arith) f
    goes_up (link true ∷ es) e f = omega arith
    goes_up (link false ∷ es) e f = goes_up es (omega arith) f

pub equal_is_no_drop : EqualIsNoDrop
equal_is_no_drop s store long before between n r q few early late =
    let a = (run_counts s store long before).link in
    let b = (run_counts s store long (before ++ between)).link in
    let up : up_at_end false before ≡ true = sym a ∙ early in
    let e = equal_is_same_life s store long before between n r q few in
    steady_of between (ap (λ u. ups u between) (sym up) ∙ e) (ap (λ u. up_at_end u between) (sym up) ∙ (sym (end_append false before between) ∙ (sym b ∙ late)))
