-- What is proved of a fresh bridge, of configuration accesses and of taking an answer, for every bridge and all arguments.
use Rattle.std.specs.Prelude.{◌≡◌, ◌≢◌, List, [], ◌++◌, true, false, cond, ℕ, suc, ◌+◌, ◌*◌, ◌^◌, ◌<◌, length, get_or, take, eqb, Ok}
use Rattle.bits.specs.Bits.{clear_bit}
use Rattle.tags.specs.Tags.{lowest, available}
use Rattle.tlp.specs.declared.request.Request.{Request}
use Rattle.tlp.specs.Request.{request_bytes, read_request}
use Rattle.address.specs.declared.Settings.{Settings}
use Rattle.address.specs.Settings.{settings_number}
use Rattle.ecam.specs.Route.{Route, Local}
use Rattle.ecam.specs.Registers.{fresh, local_read, local_write}
use Rattle.refusals.specs.declared.Response.{Response}
use Rattle.refusals.specs.Responses.{code_of}
use Rattle.parts.specs.Cores.{Core}
use Rattle.machine.specs.Bridge.{Bridge}
use Rattle.machine.specs.State.{tag_count, config_slot, config_read, config_write, with_registers, with_config, free_config, open_config, done_config, figures_now, core_in, put_state, tag_at, slot_at, session_of, failure_of, slot_count, okay, response_of, refusal, answered, new_bridge, registers_of, line_of}
use Rattle.machine.specs.Code.Passing.{Passed}
use Rattle.machine.specs.Config.{Access, route_of, goes_out, config_number, config_refusal, routed_request, payload_of, config_bytes, config_step, config_area}
use Rattle.machine.specs.Completions.{size_of}
use Rattle.machine.specs.Take.{state_of, take_refusal, looked, release_step}
use Rattle.bridge_laws.specs.MemoryLaws.{Tables}

-- ---- a fresh bridge

-- whatever the settings: 'link down, all registers and the tick counter zero, 32 free tags, 8 free read slots and one free
-- configuration slot'; a local word reads 0, but for 130; the session counter and the sessions of the slots are 0
pub record Fresh (b : Bridge) : Type 0 where
  pub registers : registers_of b ≡ fresh
  pub words : (v : ℕ) → local_read (registers_of b) v ≡ cond (eqb v 0x130) 0x0000000B 0
  pub line : line_of b ≡ false
  pub ticks : b.core.ticks ≡ 0
  pub counter : b.core.session ≡ 0
  pub sessions : (k : ℕ) → session_of b k ≡ 0
  pub config : b.core.config ≡ free_config
  pub tags : available tag_count b.core.free ≡ tag_count
  pub missing : (t : ℕ) → get_or b.missing t 0 ≡ 0
  pub slots : (k : ℕ) → state_of b k ≡ 0

abbrev pub NewIsFresh : Type 0
NewIsFresh = (s : Settings) → Fresh (new_bridge s).bridge

-- its number is the settings', and the settings of the bridge keep their rules in either case
abbrev pub NewNumber : Type 0
NewNumber = (s : Settings) → (new_bridge s).answer.number ≡ settings_number s

abbrev pub NewKeeps : Type 0
NewKeeps = (s : Settings) → settings_number s ≡ 0 → (new_bridge s).bridge.settings ≡ s

abbrev pub NewIsRight : Type 0
NewIsRight = (s : Settings) → settings_number (new_bridge s).bridge.settings ≡ 0

-- ---- configuration accesses

-- an access that has passed each test is accepted; that an accepted one has passed them is `AcceptedPassed`
abbrev pub PassedAccepted : Type 0
PassedAccepted = (c : Core) (x : Route) (room : ℕ) → Passed c x room → config_number c x room ≡ 0

-- a refused access changes nothing in the bridge, and no byte of the area
pub record Refused (b : Bridge) (a : Access) (area : List ℕ) : Type 0 where
  pub step : config_step b a (length area) ≡ answered b (refusal (config_refusal b a (length area)))
  pub bytes : config_area b a area ≡ area

abbrev pub ConfigRefused : Type 0
ConfigRefused = (b : Bridge) (a : Access) (area : List ℕ) → (config_refusal b a (length area) ≡ 0 → ⊥) → Refused b a area

-- a local access sends nothing
abbrev pub LocalSendsNothing : Type 0
LocalSendsNothing = (b : Bridge) (a : Access) (w : ℕ) → route_of b a ≡ Local w → config_bytes b a ≡ []

-- a local read, accepted or refused, changes no register
abbrev pub LocalReadKeeps : Type 0
LocalReadKeeps =
    (b : Bridge) (a : Access) (w room : ℕ)
    → route_of b a ≡ Local w
    → a.write ≡ false
    → registers_of (config_step b a room).bridge ≡ registers_of b

-- an accepted one finishes the configuration slot with the word's value, and nothing else differs
abbrev pub LocalReadFinishes : Type 0
LocalReadFinishes =
    (b : Bridge) (a : Access) (w room : ℕ)
    → route_of b a ≡ Local w
    → a.write ≡ false
    → config_refusal b a room ≡ 0
    → (config_step b a room).bridge
    ≡ core_in (with_config (done_config false okay (local_read (registers_of b) w) (figures_now b.core)) b.core) b

-- an accepted local write changes the registers as its word, strobes and data say, and finishes the slot with word 0
abbrev pub LocalWriteFinishes : Type 0
LocalWriteFinishes =
    (b : Bridge) (a : Access) (w room : ℕ)
    → route_of b a ≡ Local w
    → a.write ≡ true
    → config_refusal b a room ≡ 0
    → (config_step b a room).bridge
    ≡ core_in
    (with_registers (local_write (registers_of b) w a.strobes a.word)
    (with_config (done_config true okay 0 (figures_now b.core)) b.core)) b

-- an accepted access that goes out takes the lowest free tag, and its slot is open: no setting, register, tick, session, read
-- slot or other tag changes
pub record Opens (a : Access) (b c : Bridge) : Type 0 where
  pub settings : c.settings ≡ b.settings
  pub registers : registers_of c ≡ registers_of b
  pub ticks : c.core.ticks ≡ b.core.ticks
  pub counter : c.core.session ≡ b.core.session
  pub config : c.core.config ≡ open_config a.write (figures_now b.core)
  pub free : c.core.free ≡ clear_bit b.core.free (lowest tag_count b.core.free)
  pub fewer : available tag_count b.core.free ≡ suc (available tag_count c.core.free)
  pub slots : (k : ℕ) → slot_at c k ≡ slot_at b k
  pub others : (t : ℕ) → t ≢ lowest tag_count b.core.free → tag_at c t ≡ tag_at b t
  -- the tag waits for the 4 bytes of slot 8, from now on
  pub tag :
      Tables b
      → tag_at c (lowest tag_count b.core.free)
      ≡ record {
        missing = 4;
        sent = b.core.ticks;
        owner = config_slot;
        place = 0;
        next = 0;
        kind = cond a.write config_write config_read;
      }

abbrev pub RoutedOpens : Type 0
RoutedOpens =
    (b : Bridge) (a : Access) (room : ℕ)
    → config_refusal b a room ≡ 0
    → goes_out (route_of b a) ≡ true
    → Opens a b (config_step b a room).bridge

-- an accepted access that goes out, of a bridge whose requester ID has 16 bits, as accepted settings have it
pub record Routed (b : Bridge) (a : Access) (room : ℕ) : Type 0 where
  pub requester : b.settings.requester < 2 ^ 16
  pub accepted : config_refusal b a room ≡ 0
  pub out : goes_out (route_of b a) ≡ true

abbrev pub request_of : Bridge → Access → Request
request_of b a = routed_request (route_of b a) a b.settings.requester (lowest tag_count b.core.free)

-- sends the header of its request and, for a write, the data word: 12 bytes or 16
pub record Packet (b : Bridge) (a : Access) : Type 0 where
  pub bytes : config_bytes b a ≡ request_bytes (request_of b a) ++ payload_of a.write a.word
  pub size : length (config_bytes b a) ≡ cond a.write 16 12
  pub header : read_request (take 12 (config_bytes b a)) ≡ Ok (request_of b a)

abbrev pub RoutedPacket : Type 0
RoutedPacket = (b : Bridge) (a : Access) (room : ℕ) → Routed b a room → Packet b a

-- ---- taking an answer; look and release borrow the store, and hand back none: neither changes a byte

-- 'two calls with one set of refusals': the release's number is the look's, and where it is not 0 the look's part is empty
-- and the release changes nothing
abbrev pub ReleaseNumber : Type 0
ReleaseNumber = (b : Bridge) (room k : ℕ) → (release_step b room k).answer.number ≡ take_refusal b room k

pub record Untaken (b : Bridge) (store : List ℕ) (k : ℕ) : Type 0 where
  pub part : looked b store k ≡ []
  pub step : release_step b (length store) k ≡ answered b (refusal (take_refusal b (length store) k))

abbrev pub TakeRefused : Type 0
TakeRefused = (b : Bridge) (store : List ℕ) (k : ℕ) → (take_refusal b (length store) k ≡ 0 → ⊥) → Untaken b store k

-- the number by which a slot keeps a response gives that response back, as the release does
abbrev pub ResponseCoded : Type 0
ResponseCoded = (r : Response) → code_of r < 4 → response_of (code_of r) ≡ r

-- an accepted release gives the response that the slot keeps
abbrev pub ReleaseResponds : Type 0
ReleaseResponds =
    (b : Bridge) (room k : ℕ) → take_refusal b room k ≡ 0
    → (k < slot_count → (release_step b room k).answer.response ≡ response_of (failure_of b k))
    × (k ≡ config_slot → (release_step b room k).answer.response ≡ response_of b.core.config.response)

-- the look's bytes stand in the store
pub record PartOf (part store : List ℕ) : Type 0 where
  pub before : List ℕ
  pub after : List ℕ
  pub whole : before ++ (part ++ after) ≡ store

abbrev pub LookIsPart : Type 0
LookIsPart = (b : Bridge) (store : List ℕ) (k : ℕ) → PartOf (looked b store k) store

-- those of a finished read are its slot's, from 4,096k on, as many as its burst has
pub record SlotBytes (b : Bridge) (store : List ℕ) (k : ℕ) : Type 0 where
  pub size : length (looked b store k) ≡ size_of b k
  pub at : (i : ℕ) → i < size_of b k → get_or (looked b store k) i 0 ≡ get_or store (4096 * k + i) 0

abbrev pub LookAtSlot : Type 0
LookAtSlot = (b : Bridge) (store : List ℕ) (k : ℕ) → take_refusal b (length store) k ≡ 0 → k < 8 → SlotBytes b store k

-- the configuration slot's part is empty
abbrev pub LookAtConfig : Type 0
LookAtConfig = (b : Bridge) (store : List ℕ) → looked b store 8 ≡ []

-- a released slot is free, slot 8 as in a fresh bridge, every other is as before, and nothing but the slots' states differs: no tag, no register
pub record Released (b : Bridge) (k : ℕ) (c : Bridge) : Type 0 where
  pub free : state_of c k ≡ 0
  pub others : (j : ℕ) → (j ≡ k → ⊥) → state_of c j ≡ state_of b j
  pub config : k < 8 → c.core.config ≡ b.core.config
  pub emptied : k ≡ config_slot → c.core.config ≡ free_config
  pub rest : c ≡ core_in (with_config c.core.config b.core) (put_state c.state b)

abbrev pub ReleaseFrees : Type 0
ReleaseFrees = (b : Bridge) (room k : ℕ) → take_refusal b room k ≡ 0 → Released b k (release_step b room k).bridge

-- so an answer is taken once
abbrev pub ReleaseOnce : Type 0
ReleaseOnce = (b : Bridge) (room k : ℕ) → take_refusal b room k ≡ 0 → take_refusal (release_step b room k).bridge room k ≡ 14
