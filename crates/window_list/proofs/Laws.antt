-- The laws of a list of window records: its count decides, and its records are the windows.
use mathlib.Core.Path.{◌≡◌, refl, sym, ap, ◌∙◌, subst}
use mathlib.Core.Bool.{Bool, true, false}
use mathlib.Core.List.{List, [], ◌∷◌}
use Prim.Native.Nat.{ℕ, zero, suc, ◌≤◌, ◌<◌}
use native.Mathlib.Omega.{arith}
use borrow.Author.Tests.{ltb-true, ltb-false, lt-ltb, le-ltb, eq-eqb}
use lib.ListN.{length, take, get_or-eq_default}
use lib.Seq.{length-take-le, take_all}
use lib.Dec.{ltb}
use Rattle.address.specs.declared.Settings.{Settings}
use Rattle.address.specs.Settings.{windows_right, settings_right, settings_number}
use Rattle.machine.specs.State.{fresh_bridge, accepted, new_bridge}
use Rattle.window_list.specs.declared.Window.{Window}
use Rattle.window_list.specs.declared.Others.{Others}
use Rattle.window_list.specs.List.{zeros, nth, count_of, windows_of, settings_of}
use Rattle.window_list.specs.Laws.{entry_of, Same, ListTaken, NoneRefused, SevenRefused}

-- the first n of seven records are as many as the count that n stands for
pub first_count : (n : ℕ) (seven : List Window) → length seven ≡ 7 → count_of n ≡ length (take n seven)
first_count n seven long = by (ltb 6 n) refl
  where
    by : (more : Bool) → ltb 6 n ≡ more → count_of n ≡ length (take n seven)
    by true e =
        let above : 6 < n = ltb-true _ _ e in
        rw (e) (sym long ∙ ap length (sym (take_all n seven (omega arith))))
    by false e =
        let within : n ≤ 6 = ltb-false _ _ e in
        rw (e) (sym (length-take-le n seven (omega arith)))

pub none_refused : NoneRefused
unfolding windows_right settings_right settings_number new_bridge
none_refused others = refl

pub seven_refused : SevenRefused
unfolding windows_right settings_right settings_number new_bridge
seven_refused list others more = rw (lt-ltb 6 (length list) more)

-- ---- settings that break no rule
none_number : (others : Others) → settings_number (settings_of [] others) ≡ 1
unfolding windows_right settings_right settings_number
none_number others = refl

more_number : (list : List Window) (others : Others) → 6 < length list → settings_number (settings_of list others) ≡ 1
unfolding windows_right settings_right settings_number
more_number list others more = rw (lt-ltb 6 (length list) more)

clash : {X : Type 0} {n : ℕ} → n ≡ 0 → n ≡ 1 → X
clash e f = absurd (omega (arith, e, f))

at_least_one : (list : List Window) (others : Others) → settings_number (settings_of list others) ≡ 0 → 1 ≤ length list
at_least_one [] others e = clash e (none_number others)
at_least_one (w ∷ list) others e = omega arith

at_most_six : (list : List Window) (others : Others) → settings_number (settings_of list others) ≡ 0 → length list ≤ 6
at_most_six list others e = by (ltb 6 (length list)) refl
  where
    by : (more : Bool) → ltb 6 (length list) ≡ more → length list ≤ 6
    by true p = clash e (more_number list others (ltb-true _ _ p))
    by false p = ltb-false _ _ p

-- the arrays of a list of at most six records, at each place
placed : (list : List Window) → length list ≤ 6 → (k : ℕ) → entry_of (windows_of (length list) list) k ≡ nth list k
placed list most zero = refl
placed list most (suc zero) = refl
placed list most (suc (suc zero)) = refl
placed list most (suc (suc (suc zero))) = refl
placed list most (suc (suc (suc (suc zero)))) = refl
placed list most (suc (suc (suc (suc (suc zero))))) = refl
placed list most (suc (suc (suc (suc (suc (suc k)))))) = sym (get_or-eq_default list zeros (omega arith))

same : (list : List Window) → length list ≤ 6 → Same list (windows_of (length list) list)
same list most = record { many = rw (le-ltb 6 (length list) most); each = placed list most }

kept : (s : Settings) → settings_number s ≡ 0 → s.windows ≡ (new_bridge s).bridge.settings.windows
unfolding new_bridge fresh_bridge
kept s e = rw (eq-eqb _ _ e)

numbered : (s : Settings) → settings_number s ≡ 0 → (new_bridge s).answer.number ≡ 0
unfolding new_bridge accepted
numbered s e = rw (eq-eqb _ _ e)

pub list_taken : ListTaken
list_taken list others e = record {
  some = at_least_one list others e;
  most = at_most_six list others e;
  number = numbered (settings_of list others) e;
  windows = subst (Same list) (kept (settings_of list others) e) (same list (at_most_six list others e));
}
