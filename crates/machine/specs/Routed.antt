-- A configuration access by its route (01, 'Configuration space').
use Rattle.std.specs.Prelude.{ℕ, List, [], Bool, cond}
use Rattle.tlp.specs.declared.request.Request.{Request}
use Rattle.ecam.specs.Route.{Route}
use Rattle.ecam.specs.Request.{config_request, data_bytes}
use Rattle.parts.specs.Access.{Access}

-- the request of one that goes out, with the requester ID and the tag
abbrev pub routed_request : Route → Access → ℕ → ℕ → Request
routed_request x a requester tag = config_request x a.offset a.write a.strobes requester tag

-- a write's data word, low byte first; a read has none
unfoldable pub payload_of : Bool → ℕ → List ℕ
payload_of write word = cond write (data_bytes word) []
