-- A setter changes no row but its own.
use Rattle.std.specs.Prelude.{ℕ, ◌≡◌, ◌≢◌}
use Rattle.machine.specs.State.{Bridge, slot_at, tag_at, set_missing, set_sent, set_owner, set_place, set_next, set_kind, set_state, set_size, set_pieces, set_fault, set_cause, set_session}

-- what changes slot k alone: other slots' rows, every tag's row, the settings and the core stay
pub record SlotAlone (k : ℕ) (b x : Bridge) : Type 0 where
  pub slots : (j : ℕ) → j ≢ k → slot_at x j ≡ slot_at b j
  pub tags : (t : ℕ) → tag_at x t ≡ tag_at b t
  pub settings : x.settings ≡ b.settings
  pub core : x.core ≡ b.core

-- what changes tag t alone
pub record TagAlone (t : ℕ) (b x : Bridge) : Type 0 where
  pub tags : (u : ℕ) → u ≢ t → tag_at x u ≡ tag_at b u
  pub slots : (j : ℕ) → slot_at x j ≡ slot_at b j
  pub settings : x.settings ≡ b.settings
  pub core : x.core ≡ b.core

abbrev pub SetsSlot : (ℕ → ℕ → Bridge → Bridge) → Type 0
SetsSlot set = (k v : ℕ) (b : Bridge) → SlotAlone k b (set k v b)

abbrev pub SetsTag : (ℕ → ℕ → Bridge → Bridge) → Type 0
SetsTag set = (t v : ℕ) (b : Bridge) → TagAlone t b (set t v b)

-- each setter
pub record SettersAlone : Type 0 where
  pub missing : SetsTag set_missing
  pub sent : SetsTag set_sent
  pub owner : SetsTag set_owner
  pub place : SetsTag set_place
  pub next : SetsTag set_next
  pub kind : SetsTag set_kind
  pub state : SetsSlot set_state
  pub size : SetsSlot set_size
  pub pieces : SetsSlot set_pieces
  pub fault : SetsSlot set_fault
  pub cause : SetsSlot set_cause
  pub session : SetsSlot set_session
