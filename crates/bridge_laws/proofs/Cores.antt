-- What the steps on the core leave of it, and of registers: to demand 3 they are opaque but for the link.
use Prim.Native.Nat.{ℕ}
use mathlib.Core.Path.{◌≡◌, refl, ap}
use mathlib.Core.Bool.{Bool, true, false, cond}
use Rattle.ecam.specs.Registers.{Registers}
use Rattle.ecam.specs.Registers.{raised, with_decode, local_write, local_read}
use Rattle.ecam.proofs.Writes.{write_only_named}
use Rattle.parts.specs.Cores.{Core}
use Rattle.parts.specs.Answers.{changed}
use Rattle.refusals.specs.Table.{Change, keeps, sets, change_of}
use Rattle.machine.specs.State.{with_registers, with_config, done_config, figures_now, okay, raised_core, refusal_change}
use Rattle.machine.specs.Config.{Access, local_core}

-- registers alone differ, and not the link
pub record Registered (c d : Core) : Type 0 where
  pub same : d ≡ with_registers d.registers c
  pub free : d.free ≡ c.free
  pub ticks : d.ticks ≡ c.ticks
  pub session : d.session ≡ c.session
  pub config : d.config ≡ c.config
  pub link : d.registers.link ≡ c.registers.link

pub raised_core_lem : (i : ℕ) (c : Core) → Registered c (raised_core i c)
unfolding raised_core
raised_core_lem i c = record { same = refl; free = refl; ticks = refl; session = refl; config = refl; link = refl }

changed_core : (x : Change) (c : Core) → Registered c (changed x c)
changed_core keeps c = record { same = refl; free = refl; ticks = refl; session = refl; config = refl; link = refl }
changed_core (sets i) c = raised_core_lem i c

-- a refusal's change
pub refusal_core : (n : ℕ) (c : Core) → Registered c (refusal_change n c)
unfolding refusal_change
refusal_core n c = changed_core (change_of n) c

-- ---- a local access

write_link : (x : Bool) (r : Registers) (w s d : ℕ) → (cond x (local_write r w s d) r).link ≡ r.link
write_link true r w s d = (write_only_named r w s d).link
write_link false r w s d = refl

-- registers, but not the link, and the configuration slot, which is finished as OKAY
pub record LocalCore (c : Core) (a : Access) (w : ℕ) (d : Core) : Type 0 where
  pub free : d.free ≡ c.free
  pub ticks : d.ticks ≡ c.ticks
  pub session : d.session ≡ c.session
  pub config : d.config ≡ done_config a.write okay (cond a.write 0 (local_read c.registers w)) (figures_now c)
  pub link : d.registers.link ≡ c.registers.link

pub local_core_lem : (c : Core) (a : Access) (w : ℕ) → LocalCore c a w (local_core c a w)
unfolding local_core
local_core_lem c a w =
    record { free = refl; ticks = refl; session = refl; config = refl; link = write_link a.write c.registers w a.strobes a.word }

-- the core that a local access leaves, whole
pub local_is : (c : Core) (a : Access) (w : ℕ)
    → local_core c a w
    ≡ with_registers (cond a.write (local_write c.registers w a.strobes a.word) c.registers)
    (with_config (done_config a.write okay (cond a.write 0 (local_read c.registers w)) (figures_now c)) c)
unfolding local_core
local_is c a w = refl

-- ---- equal registers stay equal: their change is a function of them

pub raised_same : (i : ℕ) (c d : Core) → c.registers ≡ d.registers → (raised_core i c).registers ≡ (raised_core i d).registers
unfolding raised_core
raised_same i c d e = ap (λ (r : Registers). with_decode r (raised r.decode i)) e

pub refusal_same : (n : ℕ) (c d : Core) → c.registers ≡ d.registers → (refusal_change n c).registers ≡ (refusal_change n d).registers
unfolding refusal_change
refusal_same n c d e = by (change_of n)
  where
    by : (x : Change) → (changed x c).registers ≡ (changed x d).registers
    by keeps = e
    by (sets i) = raised_same i c d e

pub local_same : (a : Access) (w : ℕ) (c d : Core) → c.registers ≡ d.registers → (local_core c a w).registers ≡ (local_core d a w).registers
unfolding local_core
local_same a w c d e = ap (λ (r : Registers). cond a.write (local_write r w a.strobes a.word) r) e
