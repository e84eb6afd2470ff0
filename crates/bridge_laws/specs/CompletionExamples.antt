-- W3's read and its completion, run on the definitions: start 12340ABE, 6 bytes, count 6, lower 3E.
use Rattle.std.specs.Prelude.{ℕ, ◌^◌, ◌≡◌, List, [], ◌∷◌, get_or, take, replicate}
use Rattle.burst.specs.Examples.{incr}
use Rattle.machine.specs.Bridge.{Bridge}
use Rattle.machine.specs.State.{missing_of}
use Rattle.machine.specs.Memory.{area_size, read_step}
use Rattle.machine.specs.Completions.{store_size, Held, held, completed, complete_refusal}
use Rattle.bridge_laws.specs.ExampleBridges.{up}

-- the bridge that W3's read leaves, its link up
abbrev pub waiting : Bridge
waiting = (read_step up (incr 0x12340ABE 2 2) area_size).bridge

-- with a store of 32,768 bytes, all 9
abbrev pub waiting_store : Held
waiting_store = held waiting (replicate store_size 9)

-- with data, 2 words; status, count, requester 0, tag 0, lower address; and 8 bytes
abbrev pub answer : ℕ → ℕ → ℕ → List ℕ
answer poison count lower =
    0x4A ∷ 0 ∷ poison ∷ 2 ∷ 0 ∷ 0 ∷ 0 ∷ count ∷ 0 ∷ 0 ∷ 0 ∷ lower ∷ 21 ∷ 22 ∷ 23 ∷ 24 ∷ 25 ∷ 26 ∷ 27 ∷ 28 ∷ []

-- the number of a completion that comes first
abbrev pub number : List ℕ → ℕ
number s = complete_refusal waiting store_size s

-- the read as it comes: its six bytes are in the slot, it is finished OKAY, its tag is free, and the same again is not expected
pub record W3Completed : Type 0 where
  pub accepted : number (answer 0 6 0x3E) ≡ 0
  pub bytes : take 8 (completed waiting_store (answer 0 6 0x3E)).store ≡ 23 ∷ 24 ∷ 25 ∷ 26 ∷ 27 ∷ 28 ∷ 9 ∷ 9 ∷ []
  pub finished : get_or (completed waiting_store (answer 0 6 0x3E)).bridge.state 0 0 ≡ 2
  pub okay : get_or (completed waiting_store (answer 0 6 0x3E)).bridge.cause 0 0 ≡ 0
  pub closed : missing_of (completed waiting_store (answer 0 6 0x3E)).bridge 0 ≡ 0
  pub free : (completed waiting_store (answer 0 6 0x3E)).bridge.core.free ≡ 0xFFFFFFFF
  pub again : complete_refusal (completed waiting_store (answer 0 6 0x3E)).bridge store_size (answer 0 6 0x3E) ≡ 13

-- what is not expected: another count, another lower address; and what is malformed: a byte short, bit 7 of the lower address
pub record W3Refused : Type 0 where
  pub count : number (answer 0 5 0x3E) ≡ 13
  pub lower : number (answer 0 6 0x3D) ≡ 13
  pub short : number (take 19 (answer 0 6 0x3E)) ≡ 12
  pub reserved : number (answer 0 6 0xBE) ≡ 12
  pub room : complete_refusal waiting 32767 (answer 0 6 0x3E) ≡ 8
  pub bit : (completed waiting_store (answer 0 5 0x3E)).bridge.core.registers.decode ≡ 2 ^ 21

-- poisoned: SLVERR, bit 23 and zero bytes
pub record W3Poisoned : Type 0 where
  pub accepted : number (answer 0x40 6 0x3E) ≡ 0
  pub bytes : take 8 (completed waiting_store (answer 0x40 6 0x3E)).store ≡ 0 ∷ 0 ∷ 0 ∷ 0 ∷ 0 ∷ 0 ∷ 9 ∷ 9 ∷ []
  pub slverr : get_or (completed waiting_store (answer 0x40 6 0x3E)).bridge.cause 0 0 ≡ 2
  pub bit : (completed waiting_store (answer 0x40 6 0x3E)).bridge.core.registers.decode ≡ 2 ^ 23
