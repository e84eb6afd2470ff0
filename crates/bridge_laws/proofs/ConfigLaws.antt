-- Configuration accesses: accepted, refused, local and routed.
use mathlib.Core.Path.{◌≡◌, refl, sym, ap, subst, ◌∙◌}
use mathlib.Core.Bool.{Bool, true, false, cond, not, ◌&&◌}
use mathlib.Core.List.{List, [], ◌∷◌, ◌++◌}
use Prim.Native.Nat.{ℕ, ◌+◌, ◌<◌}
use native.Mathlib.Decide.{ℕ_discrete}
use native.Mathlib.Omega.{arith}
use borrow.Author.Tests.{le-ltb, eq-eqb, ne_eqb}
use lib.ListN.{length, take, length-append}
use lib.Seq.{take_at}
use lib.Dec.{eqb}
use Rattle.refusals.specs.Table.{link_down, few_tags, refused_by}
use Rattle.tags.specs.Tags.{lowest, available}
use Rattle.tags.proofs.Tags.{lowest_is, take_one_less}
use Rattle.tlp.specs.Request.{valid_request, target_bytes, request_bytes, read_request}
use Rattle.tlp.specs.Laws.{Address}
use Rattle.tlp.proofs.Laws.{request_laws}
use Rattle.ecam.specs.Route.{Route, OutOfRange, Local, Type0, Type1, NotRouted, DeviceNotZero, number_of}
use Rattle.ecam.specs.Request.{config_target, config_request, data_bytes}
use Rattle.ecam.proofs.Requests.{config_request_valid}
use Rattle.parts.specs.Cores.{Core}
use Rattle.machine.specs.Bridge.{Bridge}
use Rattle.machine.specs.State.{tag_count, Answered, core_in, refusal_change, refusal, answered, refused, registers_of}
use Rattle.machine.specs.Memory.{area_size, packet}
use Rattle.machine.specs.Config.{Access, route_of, goes_out, config_number, config_refusal, routed_bridge, payload_of, config_bytes, config_step, config_area}
use Rattle.bridge_laws.specs.ConfigLaws.{PassedAccepted, ConfigRefused, LocalSendsNothing, LocalReadKeeps, LocalReadFinishes, LocalWriteFinishes, Opens, RoutedOpens, Routed, request_of, RoutedPacket}
use Rattle.machine.proofs.Configs.{passed, routed_step}
use Rattle.bridge_laws.proofs.Cores.{local_is}
use Rattle.bridge_laws.proofs.Serving.{routed_acts, routed_takes}

-- ---- accepted

pub passes : PassedAccepted
unfolding config_number
passes c x room p =
    rw (le-ltb room area_size p.long, eq-eqb c.config.state 0 p.free, eq-eqb (number_of x) 0 p.routed) (by (goes_out x) refl)
  where
    by : (g : Bool) → goes_out x ≡ g → refused_by (link_down ∷ few_tags ∷ []) ((g && not c.registers.link) ∷ (g && eqb (available tag_count c.free) 0) ∷ []) ≡ 0
    by true e = rw (p.up e, ne_eqb (available tag_count c.free) 0 (λ z. omega (arith, z, p.tag e)))
    by false e = refl

-- ---- refused

-- no number of the order changes anything
stays : (d : Core) (t : Bool) (n r : ℕ) → refusal_change n d ≡ d → refusal_change r d ≡ d → refusal_change (cond t n r) d ≡ d
stays d true n r e f = e
stays d false n r e f = f

kept : (d c : Core) (x : Route) (room : ℕ) → refusal_change (config_number c x room) d ≡ d
unfolding config_number refusal_change
kept d c OutOfRange room = search (stays d) depth 8
kept d c (Local w) room = search (stays d) depth 8
kept d c Type0 room = search (stays d) depth 8
kept d c Type1 room = search (stays d) depth 8
kept d c NotRouted room = search (stays d) depth 8
kept d c DeviceNotZero room = search (stays d) depth 8

refused_step : (b : Bridge) (a : Access) (room : ℕ) → (config_refusal b a room ≡ 0 → ⊥) → config_step b a room ≡ answered b (refusal (config_refusal b a room))
unfolding config_step refused
refused_step b a room h =
    rw (ne_eqb _ _ h) (ap (λ (c : Core). answered (core_in c b) (refusal (config_refusal b a room))) (kept b.core b.core (route_of b a) room))

pub config_refused : ConfigRefused
unfolding config_area
config_refused b a area h = record { step = refused_step b a (length area) h; bytes = rw (ne_eqb _ _ h) }

-- ---- local

pub local_sends_nothing : LocalSendsNothing
local_sends_nothing b a w l = rw l

pub local_read_finishes : LocalReadFinishes
unfolding config_step
local_read_finishes b a w room l z e = rw (eq-eqb _ _ e, l, local_is b.core a w, z)

pub local_write_finishes : LocalWriteFinishes
unfolding config_step
local_write_finishes b a w room l z e = rw (eq-eqb _ _ e, l, local_is b.core a w, z)

pub local_read_keeps : LocalReadKeeps
local_read_keeps b a w room l z = by (ℕ_discrete (config_refusal b a room) 0)
  where
    by : Dec (config_refusal b a room ≡ 0) → registers_of (config_step b a room).bridge ≡ registers_of b
    by (yes e) = ap registers_of (local_read_finishes b a w room l z e)
    by (no e) = ap (λ (r : Answered). registers_of r.bridge) (refused_step b a room e)

-- ---- routed

-- its header has 12 bytes, and an address that fits it
header_fits : (x : Route) (o : ℕ) (write : Bool) (s requester tag : ℕ)
    → (length (request_bytes (config_request x o write s requester tag)) ≡ 12) × Address (config_request x o write s requester tag).target
unfolding request_bytes target_bytes config_request config_target
header_fits OutOfRange o write s requester tag = (refl, tt)
header_fits (Local w) o write s requester tag = (refl, tt)
header_fits Type0 o write s requester tag = (refl, tt)
header_fits Type1 o write s requester tag = (refl, tt)
header_fits NotRouted o write s requester tag = (refl, tt)
header_fits DeviceNotZero o write s requester tag = (refl, tt)

payload_size : (write : Bool) (word : ℕ) → 12 + length (payload_of write word) ≡ cond write 16 12
unfolding payload_of data_bytes
payload_size true word = refl
payload_size false word = refl

-- ---- a tag that waits

opens : (b : Bridge) (a : Access) → 0 < available tag_count b.core.free → Opens a b (routed_bridge b a)
opens b a h =
    let t = lowest tag_count b.core.free in
    let r = routed_takes b a in
    record {
      settings = r.settings;
      registers = ap (λ (c : Core). c.registers) r.core;
      ticks = ap (λ (c : Core). c.ticks) r.core;
      counter = ap (λ (c : Core). c.session) r.core;
      config = ap (λ (c : Core). c.config) r.core;
      free = ap (λ (c : Core). c.free) r.core;
      fewer = rw r.core (take_one_less tag_count b.core.free t (lowest_is tag_count b.core.free h).tag);
      slots = r.slots;
      others = r.tags;
      tag = λ v. (routed_acts b a 0 v h).tag;
    }

pub routed_opens : RoutedOpens
routed_opens b a room e g =
    let s = routed_step b a room e g in
    subst (Opens a b) (sym (ap (λ (r : Answered). r.bridge) s))
    (opens b a ((passed b.core (route_of b a) room e).tag g))

module _ (b : Bridge) (a : Access) (room : ℕ) (r : Routed b a room) where
  tag_fits : lowest tag_count b.core.free < 256
  tag_fits =
      let t = (lowest_is tag_count b.core.free ((passed b.core (route_of b a) room r.accepted).tag r.out)).tag.below in
      omega (arith, t)

  valid : valid_request (request_of b a) ≡ true
  valid =
      config_request_valid (route_of b a) a.offset a.write a.strobes b.settings.requester (lowest tag_count b.core.free)
      r.requester tag_fits

  sent : config_bytes b a ≡ request_bytes (request_of b a) ++ payload_of a.write a.word
  unfolding packet
  sent = rw (r.out, valid)

  fits : (length (request_bytes (request_of b a)) ≡ 12) × Address (request_of b a).target
  fits = header_fits (route_of b a) a.offset a.write a.strobes b.settings.requester (lowest tag_count b.core.free)

pub routed_packet : RoutedPacket
routed_packet b a room r =
    record {
      bytes = sent b a room r;
      size =
          ap length (sent b a room r)
          ∙ length-append (request_bytes (request_of b a)) (payload_of a.write a.word)
          ∙ ap (λ (n : ℕ). n + length (payload_of a.write a.word)) (fits b a room r).0
          ∙ payload_size a.write a.word;
      header =
          ap (λ (s : List ℕ). read_request (take 12 s)) (sent b a room r)
          ∙ ap read_request (take_at (request_bytes (request_of b a)) (payload_of a.write a.word) 12 (fits b a room r).0)
          ∙ request_laws.reads_back (request_of b a)
          (valid b a room r, (fits b a room r).1);
    }
