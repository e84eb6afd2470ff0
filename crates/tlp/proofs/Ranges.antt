-- The ranges of a valid header value, one by one.
use mathlib.Core.Path.{◌≡◌}
use mathlib.Core.Bool.{true}
use mathlib.Core.List.{[], ◌∷◌}
use lib.Dec.{ltb, leb}
use Prim.Native.Nat.{◌<◌, ◌≤◌, ◌^◌}
use borrow.Author.Tests.{ltb-true, leb-true}
use Rattle.common.proofs.Tests.{row}
use Rattle.tlp.specs.declared.request.ConfigAddress.{ConfigAddress}
use Rattle.tlp.specs.declared.request.Request.{Request}
use Rattle.tlp.specs.declared.completion.Completion.{Completion}
use Rattle.tlp.specs.Completion.{valid_payload, valid_completion}
use Rattle.tlp.specs.Request.{valid_config, valid_target, valid_enables, valid_request}

pub record ConfigRanges (p : ConfigAddress) : Type 0 where
  pub bus : p.bus < 256
  pub device : p.device < 32
  pub function : p.function < 8
  pub extended : p.extended < 16
  pub register : p.register < 64

pub config_ranges : (p : ConfigAddress) → valid_config p ≡ true → ConfigRanges p
config_ranges p e =
    let r =
    row (ltb p.bus 256)
    (ltb p.device 32 ∷ ltb p.function 8 ∷ ltb p.extended 16 ∷ ltb p.register 64 ∷ []) e
    in record {
      bus = ltb-true _ _ r.0;
      device = ltb-true _ _ r.1.0;
      function = ltb-true _ _ r.1.1.0;
      extended = ltb-true _ _ r.1.1.1.0;
      register = ltb-true _ _ r.1.1.1.1.0;
    }

pub record RequestRanges (r : Request) : Type 0 where
  pub some : 1 ≤ r.length
  pub many : r.length ≤ 1024
  pub requester : r.requester < 2 ^ 16
  pub tag : r.tag < 256
  pub last : r.last < 16
  pub first : r.first < 16
  pub enables : valid_enables r.length r.last r.first ≡ true
  pub target : valid_target r.length r.target ≡ true

pub request_ranges : (r : Request) → valid_request r ≡ true → RequestRanges r
unfolding valid_request
request_ranges r e =
    let f =
    row (leb 1 r.length)
    (leb r.length 1024
    ∷ ltb r.requester (2 ^ 16)
    ∷ ltb r.tag 256
    ∷ ltb r.last 16
    ∷ ltb r.first 16
    ∷ valid_enables r.length r.last r.first
    ∷ valid_target r.length r.target
    ∷ [])
    e
    in record {
      some = leb-true _ _ f.0;
      many = leb-true _ _ f.1.0;
      requester = ltb-true _ _ f.1.1.0;
      tag = ltb-true _ _ f.1.1.1.0;
      last = ltb-true _ _ f.1.1.1.1.0;
      first = ltb-true _ _ f.1.1.1.1.1.0;
      enables = f.1.1.1.1.1.1.0;
      target = f.1.1.1.1.1.1.1.0;
    }

pub record CompletionRanges (c : Completion) : Type 0 where
  pub payload : valid_payload c ≡ true
  pub completer : c.completer < 2 ^ 16
  pub status : c.status < 8
  pub some : 1 ≤ c.count
  pub many : c.count ≤ 4096
  pub requester : c.requester < 2 ^ 16
  pub tag : c.tag < 256
  pub lower : c.lower < 128

pub completion_ranges : (c : Completion) → valid_completion c ≡ true → CompletionRanges c
unfolding valid_completion
completion_ranges c e =
    let f =
    row (valid_payload c)
    (ltb c.completer (2 ^ 16)
    ∷ ltb c.status 8
    ∷ leb 1 c.count
    ∷ leb c.count 4096
    ∷ ltb c.requester (2 ^ 16)
    ∷ ltb c.tag 256
    ∷ ltb c.lower 128
    ∷ [])
    e
    in record {
      payload = f.0;
      completer = ltb-true _ _ f.1.0;
      status = ltb-true _ _ f.1.1.0;
      some = leb-true _ _ f.1.1.1.0;
      many = leb-true _ _ f.1.1.1.1.0;
      requester = ltb-true _ _ f.1.1.1.1.1.0;
      tag = ltb-true _ _ f.1.1.1.1.1.1.0;
      lower = ltb-true _ _ f.1.1.1.1.1.1.1.0;
    }
