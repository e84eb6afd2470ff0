-- An accepted read, its pieces in turn: the slot is taken, then the i-th free tag is opened for the i-th piece, with the effect of
-- each turn. A fact that each turn keeps holds after the last.
use Prim.Native.Nat.{ℕ, suc, ◌≤◌, ◌<◌}
use mathlib.Core.Path.{◌≡◌, sym, ap, subst, ◌∙◌}
use native.Mathlib.Omega.{arith}
use Rattle.tags.specs.Tags.{lowest, available, without, lowest_few}
use Rattle.tags.proofs.Tags.{take_one_by_one, turn_takes}
use Rattle.address.specs.declared.Settings.{Settings}
use Rattle.burst.specs.declared.Burst.{Burst}
use Rattle.parts.specs.Cores.{Core}
use Rattle.parts.specs.declared.Pending.{Pending}
use Rattle.machine.specs.State.{Bridge, tag_count, with_free, opened, free_slot}
use Rattle.machine.specs.Memory.{pieces_of, piece_of, read_refusal, claimed, read_bridge, piece_pending}
use Rattle.machine.proofs.Refusals.{read_ok}
use Rattle.bridge_laws.specs.MemoryLaws.{tag_of, Tables}
use Rattle.bridge_laws.specs.Rows.{pending_tag, claimed_slot, taken_core}
use Rattle.bridge_laws.specs.Effects.{Acts, same}
use Rattle.bridge_laws.proofs.Effects.{claimed_acts, opened_acts}
use Rattle.bridge_laws.proofs.Turns.{each_piece}

-- what is kept of the i-th piece's request
abbrev pub turn_pending : Bridge → Burst → ℕ → Pending
turn_pending b q i = piece_pending (free_slot b) b.settings q (piece_of b.settings.reads q i)

module _ (b : Bridge) (q : Burst) (room : ℕ) (v : Tables b) (e : read_refusal b q room ≡ 0) (P : ℕ → Bridge → Type 0)
    (start : (x : Bridge) → ((t : ℕ) → Acts t (free_slot b) same (λ o. claimed_slot b q) same b x) → P 0 x)
    (turn : (i : ℕ) (x y : Bridge) → i < pieces_of b.settings.reads q → 0 < available tag_count x.core.free → lowest tag_count x.core.free ≡ tag_of b i
    → Acts (lowest tag_count x.core.free) (free_slot b) (λ o. pending_tag b.core.ticks (turn_pending b q i)) same taken_core x y → P i x → P (suc i) y) where
  abbrev n : ℕ
  n = pieces_of b.settings.reads q

  abbrev claim : Bridge
  claim = claimed (free_slot b) q b

  claims : (t : ℕ) → Acts t (free_slot b) same (λ o. claimed_slot b q) same b claim
  claims t = claimed_acts t (free_slot b) q b v (read_ok b q room e).slot

  -- the i lowest free tags are taken
  record Turned (i : ℕ) (x : Bridge) : Type 0 where
    tables : Tables x
    core : x.core ≡ with_free (without b.core.free (lowest_few tag_count b.core.free i)) b.core
    holds : P i x

  none_yet : Turned 0 claim
  unfolding without
  none_yet = record { tables = (claims 0).tables; core = (claims 0).core; holds = start claim claims }

  one_more_lem : (i : ℕ) (x : Bridge) → 0 < available tag_count x.core.free → i < n → Turned i x
      → Turned (suc i) (opened (piece_pending (free_slot b) claim.settings q (piece_of claim.settings.reads q i)) x)
  one_more_lem i x some l p =
      let f = b.core.free in
      let m : i < available tag_count f = omega (arith, (read_ok b q room e).tags) in
      let s : Settings → Pending = λ c. piece_pending (free_slot b) c q (piece_of c.reads q i) in
      let o = opened_acts (free_slot b) (s claim.settings) x p.tables some in
      let a = subst (λ (c : Settings). Acts (lowest tag_count x.core.free) (free_slot b) (λ o. pending_tag b.core.ticks (s c)) same taken_core x (opened (s claim.settings) x)) (claims 0).settings
      (subst (λ (c : Core). Acts (lowest tag_count x.core.free) (free_slot b) (λ o. pending_tag c.ticks (s claim.settings)) same taken_core x (opened (s claim.settings) x)) p.core o) in
      record {
        tables = o.tables;
        core = o.core ∙ (ap taken_core p.core ∙ ap (λ w. with_free w b.core) (sym (take_one_by_one tag_count f i m)));
        holds = turn i x (opened (s claim.settings) x) l some (ap (λ (c : Core). lowest tag_count c.free) p.core ∙ turn_takes tag_count f i m) a p.holds;
      }

  pub each_turn : P n (read_bridge b q)
  each_turn =
      (each_piece (free_slot b) q claim (λ i x. i ≤ n → Turned i x) (λ l. none_yet) (λ i x some z p l. one_more_lem i x some l (p (omega arith))) n
      (subst (λ (c : Core). n ≤ available tag_count c.free) (sym (claims 0).core) (read_ok b q room e).tags) (omega arith)).holds
