-- What an event asks is what it sends.
use Prim.Native.Nat.{ℕ, ◌^◌, ◌<◌}
use mathlib.Core.Path.{◌≡◌, refl, sym, ap, ◌∙◌}
use mathlib.Core.List.{List, [], ◌∷◌, ◌++◌, map, flat_map, append-nil}
use mathlib.Core.Bool.{Bool, true, false, cond, ◌&&◌}
use lib.Dec.{ltb, eqb}
use borrow.Author.Tests.{eqb-true, ltb-true}
use Rattle.common.proofs.Tests.{and_left, and_right}
use Rattle.address.specs.declared.Settings.{Settings}
use Rattle.address.specs.Settings.{between, power_of_two, windows_right, settings_right, settings_number}
use Rattle.address.proofs.Laws.{accepted}
use Rattle.burst.specs.declared.Burst.{Burst}
use Rattle.burst.specs.Pieces.{addresses}
use Rattle.machine.specs.Bridge.{Bridge}
use Rattle.machine.specs.Memory.{pieces_of, read_refusal, read_bytes}
use Rattle.machine.specs.Config.{Access, route_of, goes_out, config_refusal, routed_bytes}
use Rattle.machine.specs.Completions.{Held}
use Rattle.bridge_laws.proofs.Sends.{accepted_read_sends}
use Rattle.bridge_laws.proofs.ConfigLaws.{routed_packet}
use Rattle.machine.proofs.Judging.{never}
use Rattle.trace.specs.Events as event
use Rattle.trace.specs.Events.{Event, step}
use Rattle.trace.specs.FarSide.{ask_of, asked}
use Rattle.trace.specs.Sound.{Sound}
use Rattle.trace.specs.Sent.{header_of, word_packet, is_write, AskedIsSent}
use Rattle.trace.proofs.Soundness.Sound.{run_sound}
use Rattle.trace.proofs.Tags.Opened.{turns, word_ask}

flat_map_lem : {A B C : Type 0} (g : B → List C) (f : A → B) (l : List A) → flat_map g (map f l) ≡ flat_map (λ x. g (f x)) l
unfolding flat_map
flat_map_lem g f [] = refl
flat_map_lem g f (x ∷ l) = ap (◌++◌ (g (f x))) (flat_map_lem g f l)

-- the requester ID of right settings has 16 bits
requester_fits : (s : Settings) → settings_number s ≡ 0 → s.requester < 2 ^ 16
unfolding settings_right
requester_fits s e =
    let buses = and_right (windows_right s.windows) _ (accepted s e) in
    let reads = and_right (between 1 8 s.bits) _ buses in
    let writes = and_right (power_of_two 7 12 s.reads) _ reads in
    let limit = and_right (power_of_two 7 10 s.writes) _ writes in
    ltb-true _ _ (and_left (ltb s.requester (2 ^ 16)) _ (and_right (between 1 65535 s.limit) _ limit))

module _ (h : Held) (v : Sound h) where
  abbrev b : Bridge
  b = h.bridge

  read_by : (q : Burst) (room : ℕ) (z : Bool) → eqb (read_refusal b q room) 0 ≡ z
      → cond z (read_bytes b q) [] ≡ flat_map (header_of b) (cond z (turns b q) [])
  unfolding flat_map
  read_by q room true e =
      (accepted_read_sends b q room v.right (eqb-true _ _ e)).sent
      ∙ sym (flat_map_lem (header_of b) (ask_of b q) (addresses 0 (pieces_of b.settings.reads q)))
  read_by q room false e = refl

  read_sent_lem : (q : Burst) (room : ℕ) → (step h (event.call (event.read q room))).out.sent ≡ flat_map (header_of b) (asked h (event.call (event.read q room)))
  read_sent_lem q room = read_by q room (eqb (read_refusal b q room) 0) refl

  config_by : (a : Access) (room : ℕ) (z g : Bool) → eqb (config_refusal b a room) 0 ≡ z → goes_out (route_of b a) ≡ g
      → cond z (cond g (routed_bytes b a) []) [] ≡ flat_map (word_packet b a) (cond (z && g) (word_ask b a) [])
  unfolding flat_map
  config_by a room true true e g =
      rw g at (routed_packet b a room (record { requester = requester_fits b.settings v.right; accepted = eqb-true _ _ e; out = g })).bytes
      ∙ sym (append-nil _)
  config_by a room true false e g = refl
  config_by a room false g e f = refl

  config_sent : (a : Access) (room : ℕ) → (step h (event.call (event.config a room))).out.sent ≡ flat_map (word_packet b a) (asked h (event.call (event.config a room)))
  config_sent a room = config_by a room (eqb (config_refusal b a room) 0) (goes_out (route_of b a)) refl refl

  nothing_sent : (e : Event) → is_write e ≡ false → asked h e ≡ [] → (step h e).out.sent ≡ []
  unfolding flat_map
  nothing_sent (event.call (event.read q room)) w n = read_sent_lem q room ∙ ap (flat_map (header_of b)) n
  nothing_sent (event.call (event.write q bs room)) w n = never w
  nothing_sent (event.call (event.config a room)) w n = config_sent a room ∙ ap (flat_map (word_packet b a)) n
  nothing_sent (event.completion i s) w n = refl
  nothing_sent event.tick w n = refl
  nothing_sent (event.link up) w n = refl
  nothing_sent (event.call (event.look k)) w n = refl
  nothing_sent (event.call (event.release k)) w n = refl
  nothing_sent (event.call (event.message m)) w n = refl

pub asked_is_sent : AskedIsSent
asked_is_sent s store l es =
    let v = run_sound s store l es in
    record { read = read_sent_lem _ v; config = config_sent _ v; nothing = nothing_sent _ v }
