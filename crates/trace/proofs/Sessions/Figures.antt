-- Every call but an accepted release reports no figures.
use Prim.Native.Nat.{ℕ}
use mathlib.Core.Path.{◌≡◌, refl, sym, ◌∙◌}
use mathlib.Core.Bool.{false, cond}
use lib.ListN.{length}
use lib.Dec.{eqb}
use borrow.Author.Tests.{eqb-true, eq-eqb}
use Rattle.address.specs.Settings.{settings_number}
use Rattle.parts.specs.Answers.{Answer}
use Rattle.machine.specs.State.{Answered, no_figures, accepted, refusal, refused, new_bridge}
use Rattle.machine.specs.Memory.{read_step, write_step, read_refusal, write_refusal}
use Rattle.machine.specs.Config.{config_step, config_refusal}
use Rattle.machine.specs.Completions.{Held, plain, complete_refusal}
use Rattle.machine.specs.Ticks.{store_refusal}
use Rattle.machine.specs.Messages.{message_step, message_refusal}
use Rattle.machine.specs.Take.{take_refusal, release_step}
use Rattle.machine.proofs.Judging.{never}
use Rattle.trace.specs.Events.{Call, read, write, config, look, release, message, Event, call, completion, tick, link, called, step}
use Rattle.trace.specs.Claims.{takes}
use Rattle.trace.specs.Sessions.{OnlyTaken}
use Rattle.trace.proofs.Soundness.Cases.{by_test}

plain_none : (n : ℕ) → (plain n).figures ≡ no_figures
unfolding accepted refusal
plain_none n = by_test (λ (a : Answer). a.figures ≡ no_figures) (eqb n 0) (λ e. refl) (λ e. refl)

-- accepted or refused
judged : (n : ℕ) (x r : Answered) → (n ≡ 0 → x.answer.figures ≡ no_figures) → r.answer.figures ≡ no_figures
    → (cond (eqb n 0) x r).answer.figures ≡ no_figures
judged n x r e f = by_test (λ (a : Answered). a.answer.figures ≡ no_figures) (eqb n 0) (λ z. e (eqb-true _ _ z)) (λ z. f)

call_none : (h : Held) (c : Call) → ((k : ℕ) → takes k h (call c) ≡ false) → (called h c).out.answer.figures ≡ no_figures
unfolding read_step write_step config_step release_step message_step refused accepted refusal
call_none h (read q room) f = judged (read_refusal h.bridge q room) _ _ (λ e. refl) refl
call_none h (write q bytes room) f = judged (write_refusal h.bridge q (length bytes) room) _ _ (λ e. refl) refl
call_none h (config a room) f = judged (config_refusal h.bridge a room) _ _ (λ e. refl) refl
call_none h (look k) f = plain_none (take_refusal h.bridge (length h.store) k)
call_none h (release k) f =
    judged (take_refusal h.bridge (length h.store) k) _ _
    (λ e. never (sym (rw (eq-eqb k k refl, eq-eqb (take_refusal h.bridge (length h.store) k) 0 e)) ∙ f k)) refl
call_none h (message m) f = judged (message_refusal h.bridge m) _ _ (λ e. refl) refl

pub only_taken : OnlyTaken
unfolding new_bridge refused accepted refusal
only_taken =
    record {
      new = λ s. by_test (λ (a : Answered). a.answer.figures ≡ no_figures) (eqb (settings_number s) 0) (λ e. refl) (λ e. refl);
      others = λ h e f. others_none h e f;
    }
  where
    others_none : (h : Held) (e : Event) → ((k : ℕ) → takes k h e ≡ false) → (step h e).out.answer.figures ≡ no_figures
    others_none h (call c) f = call_none h c f
    others_none h (completion i s) f = plain_none (complete_refusal h.bridge (length h.store) s)
    others_none h tick f = plain_none (store_refusal (length h.store))
    others_none h (link up) f = plain_none (store_refusal (length h.store))
