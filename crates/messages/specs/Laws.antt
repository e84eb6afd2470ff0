-- What is proved of queues, in A1's words, and of the layout, for all bytes.
use Rattle.std.specs.Prelude.{ℕ, zero, suc, ◌/◌, ◌%◌, ◌^◌, ◌≤◌, ◌<◌, ◌≡◌, ◌⊎◌, true, List, [], ◌∷◌, ◌++◌, length, drop}
use Rattle.messages.specs.Queue.{depth, push, pop}
use Rattle.messages.specs.Layout.{is_error_code, is_error_message, requester_of, code_of, type_of, entry_of}

-- ---- the queue

-- entries come one after the other
abbrev pub push_all : List ℕ → List ℕ → List ℕ
push_all q [] = q
push_all q (e ∷ es) = push_all (push q e) es

-- n entries are removed
abbrev pub popped : ℕ → List ℕ → List ℕ
popped zero q = q
popped (suc n) q = popped n (pop q)

-- oldest first: as they came, as long as they have room; and so they are removed
abbrev pub InOrder : Type 0
InOrder = (es : List ℕ) → length es ≤ depth → push_all [] es ≡ es

abbrev pub RemovedInOrder : Type 0
RemovedInOrder = (n : ℕ) (q : List ℕ) → popped n q ≡ drop n q

-- never more than 32, whatever comes
abbrev pub NeverMore : Type 0
NeverMore = (q : List ℕ) (e : ℕ) → length q ≤ depth → length (push q e) ≤ depth

abbrev pub PopNoMore : Type 0
PopNoMore = (q : List ℕ) → length q ≤ depth → length (pop q) ≤ depth

-- removing from an empty queue changes nothing
abbrev pub PopEmpty : Type 0
PopEmpty = pop [] ≡ []

-- 'Overflow drops the newest': with 32 entries the queue stays as it is
abbrev pub DropsNewest : Type 0
DropsNewest = (q : List ℕ) (e : ℕ) → depth ≤ length q → push q e ≡ q

-- room made later takes the next one, and not the one that was dropped
abbrev pub RoomForNext : Type 0
RoomForNext = (q : List ℕ) (x d e : ℕ) → length (x ∷ q) ≡ depth → push (pop (push (x ∷ q) d)) e ≡ q ++ e ∷ []

-- ---- the layout

-- hex 30, three zeros, the requester ID's two bytes, a tag, a code and eight zeros
abbrev pub laid : ℕ → ℕ → ℕ → ℕ → List ℕ
laid high low tag code = 0x30 ∷ 0 ∷ 0 ∷ 0 ∷ high ∷ low ∷ tag ∷ code ∷ 0 ∷ 0 ∷ 0 ∷ 0 ∷ 0 ∷ 0 ∷ 0 ∷ 0 ∷ []

-- with one of the three codes it is an error message, whatever requester ID and tag
abbrev pub LaidIsTaken : Type 0
LaidIsTaken = (high low tag code : ℕ) → is_error_code code ≡ true → is_error_message (laid high low tag code) ≡ true

-- and no other bytes are one
pub record Laid (s : List ℕ) : Type 0 where
  pub high : ℕ
  pub low : ℕ
  pub tag : ℕ
  pub code : ℕ
  pub same : s ≡ laid high low tag code
  pub known : is_error_code code ≡ true

abbrev pub TakenIsLaid : Type 0
TakenIsLaid = (s : List ℕ) → is_error_message s ≡ true → Laid s

-- 30, 31 and 33 are the codes, and no other number is
abbrev pub Codes : Type 0
Codes = (c : ℕ) → is_error_code c ≡ true → (c ≡ 0x30) ⊎ ((c ≡ 0x31) ⊎ (c ≡ 0x33))

-- ---- the entry, as 154 shows it

pub record Shows (s : List ℕ) : Type 0 where
  pub requester : entry_of s % 2 ^ 16 ≡ requester_of s
  pub type : entry_of s / 2 ^ 16 % 2 ^ 2 ≡ type_of (code_of s)
  pub valid : entry_of s / 2 ^ 18 ≡ 1

-- a requester ID has 16 bits where it is two bytes
abbrev pub EntryShows : Type 0
EntryShows = (s : List ℕ) → requester_of s < 2 ^ 16 → Shows s
