-- 'Equal registers' as the words and the queue.
use mathlib.Core.Path.{sym, subst}
use Rattle.ecam.specs.Laws.{Held as Kept}
use Rattle.ecam.proofs.Shown.{shown_is_all}
use Rattle.machine.specs.State.{registers_of}
use Rattle.machine.specs.Completions.{Held}
use Rattle.trace.specs.Claims.{Left}
use Rattle.trace.specs.Registers.{AlikeByWords}
use Rattle.trace.proofs.Soundness.Registers.{run_keeps}
use Rattle.trace.proofs.Alike.Alike.{alike}

left_kept : (x : Held) → Left x → Kept (registers_of x.bridge)
left_kept x p = subst (λ (z : Held). Kept (registers_of z.bridge)) (sym p.came) (run_keeps p.settings p.store p.long p.events)

pub alike_by_words : AlikeByWords
alike_by_words x y p q s e later =
    alike x y p q s
    (shown_is_all (registers_of x.bridge) (registers_of y.bridge) (left_kept x p) (left_kept y q) e.words e.queue) later
