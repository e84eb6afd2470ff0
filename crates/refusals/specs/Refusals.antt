-- 01's refusal table: for each case of the enum its number, and the number that a call's result reports.
use Rattle.std.specs.Prelude.{ℕ, Result, Ok, Err}
use Rattle.refusals.specs.declared.Refusal.{Refusal}
use Rattle.refusals.specs.declared.Refusal.TheVariants.{Setting, NoWindow, WrongBurst, LinkDown, ConfigBusy, SlotsUsed, FewTags, TooShort, OffsetOver, NotRouted, WrongDevice, Malformed, NotExpected, NotFinished, WrongData}
use Rattle.refusals.specs.Table.{setting, no_window, wrong_burst, link_down, config_busy, slots_used, few_tags, too_short, offset_over, not_routed, wrong_device, malformed, not_expected, not_finished, wrong_data}

abbrev pub number_of : Refusal → ℕ
number_of Setting = setting
number_of NoWindow = no_window
number_of WrongBurst = wrong_burst
number_of LinkDown = link_down
number_of ConfigBusy = config_busy
number_of SlotsUsed = slots_used
number_of FewTags = few_tags
number_of TooShort = too_short
number_of OffsetOver = offset_over
number_of NotRouted = not_routed
number_of WrongDevice = wrong_device
number_of Malformed = malformed
number_of NotExpected = not_expected
number_of NotFinished = not_finished
number_of WrongData = wrong_data

-- '0 accepted'
abbrev pub number_in : {A : Type 0} → Result A Refusal → ℕ
number_in (Ok x) = 0
number_in (Err r) = number_of r
