-- What the code's error message says of the bytes that it was made of.
use Rattle.std.specs.Prelude.{◌≡◌, ℕ, List, [], ◌∷◌, Bool, true, false, cond, ◌&&◌, eqb, length, replicate, Result, Ok, Err}
use Rattle.std.specs.List.{starts_with, ends_with}
use Rattle.refusals.specs.declared.Refusal.{Refusal}
use Rattle.refusals.specs.declared.Refusal.TheVariants.{Malformed}
use Rattle.messages.specs.declared.layout.ErrorCode.{ErrorCode}
use Rattle.messages.specs.declared.layout.ErrorCode.TheVariants.{Correctable, NonFatal, Fatal}
use Rattle.messages.specs.declared.layout.ErrorMessage.{ErrorMessage}
use Rattle.messages.specs.Layout.{message_first, message_length, err_cor, err_non_fatal, code_of, requester_of, is_error_message}

-- the code that a byte is taken as; only an error's code is asked
abbrev pub code_for : ℕ → ErrorCode
code_for n = cond (eqb n err_cor) Correctable (cond (eqb n err_non_fatal) NonFatal Fatal)

-- the bytes round the requester ID, the tag and the code
abbrev pub is_laid : List ℕ → Bool
is_laid s =
    eqb (length s) message_length
    && starts_with eqb s (message_first ∷ 0 ∷ 0 ∷ 0 ∷ [])
    && ends_with eqb s (replicate 8 0)

-- the message has the bytes' requester ID and code
pub record IsMessage (s : List ℕ) (m : ErrorMessage) : Type 0 where
  pub requester : m.requester ≡ requester_of s
  pub code : m.code ≡ code_for (code_of s)

-- the bytes of an error message are read, and no others
abbrev pub reads : List ℕ → Result ErrorMessage Refusal → Type 0
reads s (Ok m) = (is_error_message s ≡ true) × IsMessage s m
reads s (Err r) = (is_error_message s ≡ false) × (r ≡ Malformed)
