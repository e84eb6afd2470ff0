-- 'At timeout it closes and its tag rests'.
use Prim.Native.Nat.{ℕ}
use mathlib.Core.Path.{◌≡◌, ap, ◌∙◌}
use mathlib.Core.Bool.{false}
use Rattle.common.specs.Decode.{cfg_timeout}
use Rattle.bits.specs.Bits.{is_set}
use Rattle.parts.specs.Cores.{Core}
use Rattle.machine.specs.Completions.{Held}
use Rattle.bridge_laws.specs.Rows.{Resting}
use Rattle.bridge_laws.specs.Effects.{Expires, memory, config, TimeoutRests}
use Rattle.bridge_laws.proofs.Parts.{same_missing}
use Rattle.bridge_laws.proofs.Cores.{raised_core_lem}
use Rattle.bridge_laws.proofs.Serving.{timed_out_expires}

rests : {t : ℕ} {h x : Held} → Expires t h x → is_set h.bridge.core.free t ≡ false → Resting x.bridge t
rests {t} (memory m a s) f = (ap (λ (c : Core). is_set c.free t) a.core ∙ (ap (λ w. is_set w t) (raised_core_lem _ _).free ∙ f), same_missing a.tag)
rests {t} (config m a s) f = (ap (λ (c : Core). is_set c.free t) (a 0).core ∙ (ap (λ w. is_set w t) (raised_core_lem cfg_timeout _).free ∙ f), same_missing (a 0).tag)

pub timeout_rests : TimeoutRests
timeout_rests h t v l f = rests (timed_out_expires h t v l) f
