-- The requests that `asked` counts are the packets that the bridge sends, after every list of events.
use Rattle.std.specs.Prelude.{ℕ, ◌≤◌, ◌≡◌, Bool, false, length}
use mathlib.Core.List.{List, [], ◌++◌, flat_map}
use Rattle.tlp.specs.Request.{request_bytes}
use Rattle.address.specs.declared.Settings.{Settings}
use Rattle.burst.specs.declared.Burst.{Burst}
use Rattle.machine.specs.Bridge.{Bridge}
use Rattle.machine.specs.Memory.{memory_request}
use Rattle.machine.specs.Config.{Access, route_of, routed_request, payload_of}
use Rattle.machine.specs.Completions.{store_size, Held}
use Rattle.trace.specs.Events.{read, config, posts, Event, call, completion, tick, link, step, run, start}
use Rattle.trace.specs.FarSide.{Wanted, bytes, word, Ask, asked}

-- the header of a request for bytes; that of a configuration word needs its access
abbrev pub header_by : ℕ → ℕ → Wanted → List ℕ
header_by requester tag (bytes a n) = request_bytes (memory_request false requester tag a n)
header_by requester tag word = []

abbrev pub header_of : Bridge → Ask → List ℕ
header_of b x = header_by b.settings.requester x.tag x.wanted

-- the header of a configuration request, and its payload
abbrev pub word_packet : Bridge → Access → Ask → List ℕ
word_packet b a x =
    request_bytes (routed_request (route_of b a) a b.settings.requester x.tag) ++ payload_of a.write a.word

-- posted: a write sends packets that nothing answers
abbrev pub is_write : Event → Bool
is_write (call c) = posts c
is_write (completion i s) = false
is_write tick = false
is_write (link up) = false

-- what each event sends: a read one header for each of its requests, a configuration access the packet of its one request;
-- refused calls and local accesses ask nothing
pub record SendsAsked (h : Held) : Type 0 where
  pub read :
      (q : Burst) (room : ℕ)
      → (step h (call (read q room))).out.sent ≡ flat_map (header_of h.bridge) (asked h (call (read q room)))
  pub config :
      (a : Access) (room : ℕ)
      → (step h (call (config a room))).out.sent ≡ flat_map (word_packet h.bridge a) (asked h (call (config a room)))
  pub nothing : (e : Event) → is_write e ≡ false → asked h e ≡ [] → (step h e).out.sent ≡ []

abbrev pub AskedIsSent : Type 0
AskedIsSent =
    (s : Settings) (store : List ℕ) → store_size ≤ length store → (es : List Event) → SendsAsked (run (start s store) es)
