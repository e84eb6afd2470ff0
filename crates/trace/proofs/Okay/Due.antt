-- What is due for the open tags of an access, of the completions still to come, event by event.
use Prim.Native.Nat.{ℕ, ◌%◌, ◌≤◌, ◌<◌}
use mathlib.Core.Path.{◌≡◌, refl, sym, ap, ◌∙◌, subst}
use mathlib.Core.Logic.{◌≢◌}
use mathlib.Core.List.{List, ◌∷◌}
use mathlib.Core.Bool.{Bool, true, false}
use native.Mathlib.Omega.{arith}
use native.Mathlib.Decide.{ℕ_discrete}
use lib.ListN.{drop}
use lib.Dec.{eqb}
use Rattle.std.specs.Prelude.{Result, Ok, Err}
use Rattle.refusals.specs.declared.Refusal.{Refusal}
use Rattle.refusals.specs.declared.Refusal.TheVariants.{Malformed}
use Rattle.tlp.proofs.Refused.{refused_malformed}
use Rattle.tlp.specs.declared.completion.Completion.{Completion}
use Rattle.address.specs.declared.Settings.{Settings}
use Rattle.parts.specs.Cores.{Core}
use Rattle.parts.specs.declared.ConfigSlot.{ConfigSlot}
use Rattle.verdict.specs.declared.Verdict.{Verdict}
use Rattle.verdict.specs.declared.Verdict.TheVariants.{Unexpected}
use Rattle.machine.specs.State.{Bridge, Tag, tag_at, missing_of, owner_of, next_address, failure_of, Open, is_write, config_write, with_registers, core_in}
use Rattle.machine.specs.Verdict.{memory_verdict, config_verdict}
use Rattle.machine.specs.Completions.{Held, config_completed, verdict_of, completion_of}
use Rattle.machine.specs.Ticks.{link_to}
use Rattle.machine.specs.Take.{state_of}
use Rattle.machine.proofs.Judging.{never}
use Rattle.bridge_laws.specs.Effects.{Serves}
use Rattle.bridge_laws.proofs.Parts.{same_missing, same_cause}
use Rattle.trace.specs.Events as event
use Rattle.trace.specs.Events.{Event}
use Rattle.trace.specs.FarSide.{Wire, wire_after, PairedBy, Paired, paired}
use Rattle.trace.specs.Claims.{good_bytes, any_good_word, is_tick, is_down}
use Rattle.trace.specs.Sound.{Sound}
use Rattle.trace.proofs.Soundness.View.{Move, missed, memories, configs, links}
use Rattle.trace.proofs.Tags.Wire.{At, own_of, Wired, present_comes, paired_own, paired_other}
use Rattle.trace.proofs.Tags.Comes.{open_missing}
use Rattle.trace.proofs.Deadline.Spares.{OpenRow, OpenFor, Spares, core_spares}
use Rattle.trace.proofs.Deadline.Calls.{call_spares}
use Rattle.trace.proofs.Deadline.Events.{Served, served_spares, serves_served, serving, answering, answered, Young, tick_all}
use Rattle.trace.proofs.Okay.Asks.{call_own}
use Rattle.trace.proofs.Okay.Good.{Comes, read_misses, read_serves, word_comes, word_answers}

-- what is malformed comes for no request
paired_malformed : (j i : ℕ) (s : List ℕ) (es : List Event) → completion_of s ≡ Err Malformed → paired j (event.completion i s ∷ es) ≡ paired j es
paired_malformed j i s es e = by (eqb j i) refl
  where
    by : (z : Bool) → eqb j i ≡ z → paired j (event.completion i s ∷ es) ≡ paired j es
    by true z = rw (z, e)
    by false z = rw z

module _ (k r : ℕ) where
  -- for a tag: of a read, all that is missing comes, as good bytes; of a configuration access, a good completion
  pub record Due (t : Tag) (l : List (List ℕ)) : Type 0 where
    pub bytes : k < 8 → good_bytes r l ≡ t.missing
    pub word : k ≡ 8 → any_good_word r (eqb t.kind config_write) l ≡ true

  -- the answer so far is OKAY
  pub record Clean (b : Bridge) : Type 0 where
    pub requester : b.settings.requester ≡ r
    pub read : k < 8 → failure_of b k ≡ 0
    pub config : k ≡ 8 → b.core.config.response ≡ 0

  -- the access goes on: its answer so far is right, and what is due is still to come
  pub record On (b : Bridge) (w : Wire) (es : List Event) : Type 0 where
    pub clean : Clean b
    pub due : (t : ℕ) → OpenFor b k t → Due (tag_at b t) (paired (own_of w.live t) es)

  same_requester : {s z : Settings} → z ≡ s → s.requester ≡ r → z.requester ≡ r
  same_requester e p = ap (λ (y : Settings). y.requester) e ∙ p

  spares_clean : {n : ℕ} {b x : Bridge} → Spares n k b x → Clean b → Clean x
  spares_clean p c = record {
    requester = same_requester p.settings c.requester;
    read = λ l. same_cause p.slot ∙ c.read l;
    config = λ z. ap (λ (y : ConfigSlot). y.response) (p.config z) ∙ c.config z;
  }

  same_due : {a c : Tag} {l m : List (List ℕ)} → a ≡ c → l ≡ m → Due c m → Due a l
  same_due {c = c} {l} e f p = subst (λ y. Due y l) (sym e) (subst (Due c) (sym f) p)

  -- an event that leaves the access alone
  spares_on : {n : ℕ} {b x : Bridge} (w w' : Wire) (e : Event) (es : List Event) → Spares n k b x
      → ((t : ℕ) → OpenFor b k t → paired (own_of w'.live t) es ≡ paired (own_of w.live t) (e ∷ es)) → On b w (e ∷ es) → On x w' es
  spares_on w w' e es p f o = record {
    clean = spares_clean p o.clean;
    due = λ t q. let z = p.tags t q in let y = subst (OpenRow k) z q in same_due z (f t y) (o.due t y);
  }

  -- ---- a completion
  module _ (sent : ℕ → List (List ℕ)) (h : Held) (w : Wire) (es : List Event) (v : Sound h) (i : ℕ) (s : List ℕ)
      (d : Wired sent h w (event.completion i s ∷ es)) (p : Paired w (event.completion i s)) (o : On h.bridge w (event.completion i s ∷ es)) where
    abbrev b : Bridge
    b = h.bridge

    -- what is still to come for a tag, before the completion and after it
    abbrev before : ℕ → List (List ℕ)
    before t = paired (own_of w.live t) (event.completion i s ∷ es)

    abbrev after : ℕ → List (List ℕ)
    after t = paired (own_of w.live t) es

    module _ (c : Completion) (reads : completion_of s ≡ Ok c) where
      abbrev t : ℕ
      t = c.tag

      -- it comes for its tag, and for no other
      own : Open b t → before t ≡ s ∷ after t
      own m =
          subst (λ j. paired (own_of w.live t) (event.completion j s ∷ es) ≡ s ∷ after t) (sym (present_comes sent h w i s c es d p reads))
          (paired_own (own_of w.live t) s c es reads)

      elsewhere : (u : ℕ) → Open b u → u ≢ t → before u ≡ after u
      elsewhere u m n =
          paired_other (own_of w.live u) i s es
          (λ z. n (d.labels.once i u t (subst (λ j. At j u w.live) z ((d.tags u).opens m).here) (subst (PairedBy w i) reads p)))

      -- the other tags are as they were
      came_on : (x : Bridge) → Clean x → ((u : ℕ) → u ≢ t → tag_at x u ≡ tag_at b u) → (OpenFor x k t → Due (tag_at x t) (after t)) → On x w es
      came_on x g f q = record { clean = g; due = λ u y. by u y (ℕ_discrete u t) }
        where
          by : (u : ℕ) → OpenFor x k u → Dec (u ≡ t) → Due (tag_at x u) (after u)
          by u y (yes z) = subst (λ a. OpenFor x k a → Due (tag_at x a) (after a)) (sym z) q y
          by u y (no n) = let a = f u n in let z = subst (OpenRow k) a y in same_due a (sym (elsewhere u z.0 n)) (o.due u z)

      -- what is due to its tag
      module _ (q : OpenFor b k t) where
        now : Due (tag_at b t) (s ∷ after t)
        now = same_due refl (sym (own q.0)) (o.due t q)

        comes : Comes sent h w es i s c (after t)
        comes = record { sound = v; wired = d; opens = q.0; reads = reads; first = own q.0 }

        -- it is refused
        missed_due : verdict_of b c ≡ Unexpected → Due (tag_at b t) (after t)
        missed_due u =
            let z = q.1 in
            record {
              bytes = λ l. read_misses comes r (omega arith) (now.bytes l) o.clean.requester u;
              word = λ l. absurd (word_comes comes r (omega arith) (now.word l) o.clean.requester u);
            }

        -- it is accepted for a read
        memory_on : {skip : ℕ} {payload : List ℕ} {x : Held} {u : Verdict} → Serves t (owner_of b t) skip payload h x u → owner_of b t < 8
            → memory_verdict c (missing_of b t) (next_address b t) ≡ u → On x.bridge w es
        memory_on {skip} {payload} {x} {u} a l y =
            let z = q.1 in
            let f = (serves_served a l).acts in
            let m : k < 8 = omega arith in
            let g = read_serves comes r l (now.bytes m) (subst (λ j. Serves t j skip payload h x u) z a) y in
            came_on x.bridge
            (record { requester = same_requester f.settings o.clean.requester; read = λ n. g.0 ∙ o.clean.read n; config = λ n. absurd (omega arith) })
            f.tags (λ n. record { bytes = λ j. g.1; word = λ j. absurd (omega arith) })

        -- for the configuration access
        config_on : (u : Verdict) → 8 ≤ owner_of b t → config_verdict c (is_write b t) ≡ u → k ≤ 8 → On (config_completed b t (drop 12 s) u) w es
        config_on u l y m =
            let z = q.1 in
            let j : k ≡ 8 = omega arith in
            let a = answering h t v q.0 (drop 12 s) u 8 in
            let g = word_answers comes r l (now.word j) (drop 12 s) u y in
            came_on (config_completed b t (drop 12 s) u)
            (record { requester = same_requester a.settings o.clean.requester; read = λ n. absurd (omega arith); config = λ n. ap (λ (x : Core). x.config.response) a.core ∙ g })
            a.tags (λ n. absurd (n.0 (same_missing a.tag)))

      -- it is accepted, for this slot or another
      accepted_on : {x : Bridge} → Served t (owner_of b t) b x → Open b t → (OpenFor b k t → On x w es) → On x w es
      accepted_on {x} g m f = by (ℕ_discrete (owner_of b t) k)
        where
          by : Dec (owner_of b t ≡ k) → On x w es
          by (yes z) = f (m, z)
          by (no n) = came_on x (spares_clean (served_spares k g v.clock (λ z. n (sym z)) n) o.clean) g.acts.tags (λ q. absurd (n (sym g.owner ∙ q.1)))

    completion_on : {x : Held} → k ≤ 8 → Move h (event.completion i s) x → On x.bridge w es
    completion_on n (missed y f l) = by (completion_of s) refl
      where
        g : Spares 0 k b (core_in (with_registers y b.core) b)
        g = core_spares k b (with_registers y b.core) v.clock refl (λ z. refl)

        by : (z : Result Completion Refusal) → completion_of s ≡ z → On (core_in (with_registers y b.core) b) w es
        by (Ok c) e = came_on c e (core_in (with_registers y b.core) b) (spares_clean g o.clean) (λ u n. refl) (λ q. missed_due c e q (f c e))
        by (Err r) e = spares_on w w (event.completion i s) es g (λ t q. sym (paired_malformed (own_of w.live t) i s es (refused_malformed s r e))) o
    completion_on n (memories c u e r f l y j) =
        let m = open_missing _ _ f in
        let a = serving h c.tag v m (c.lower % 4) (drop 12 s) u l j in
        accepted_on c e (serves_served a l) m (λ q. memory_on c e q a l y)
    completion_on n (configs c u e r f l y j) =
        let m = open_missing _ _ f in
        accepted_on c e (answered h c.tag v m (drop 12 s) u l j) m (λ q. config_on c e q u l y n)

  -- ---- every event
  pub move_on : (sent : ℕ → List (List ℕ)) (h : Held) (w : Wire) (es : List Event) → k ≤ 8 → Sound h → (e : Event) {x : Held} → Move h e x → Wired sent h w (e ∷ es) → Paired w e
      → is_down e ≡ false → state_of h.bridge k ≡ 1 → (is_tick e ≡ 1 → Young k h.bridge) → On h.bridge w (e ∷ es) → On x.bridge (wire_after w h e) es
  move_on sent h w es l v (event.call c) m d p n z y o =
      spares_on w (wire_after w h (event.call c)) (event.call c) es (call_spares k m v z) (λ t q. ap (λ (i : ℕ). paired i es) (call_own m v w t q.0)) o
  move_on sent h w es l v (event.completion i s) m d p n z y o = completion_on sent h w es v i s d p o l m
  move_on sent h w es l v event.tick m d p n z y o = spares_on w w event.tick es ((tick_all k v m).spares k (y refl)) (λ t q. refl) o
  move_on sent h w es l v (event.link true) (links up j) d p n z y o =
      spares_on w w (event.link true) es (core_spares k h.bridge (link_to true h.bridge.core) v.clock refl (λ z. refl)) (λ t q. refl) o
  move_on sent h w es l v (event.link false) m d p n z y o = never n
