-- The parts of rows that are the same.
use mathlib.Core.Path.{◌≡◌, ap}
use Rattle.machine.specs.State.{Tag, Slot}

pub same_missing : {r s : Tag} → r ≡ s → r.missing ≡ s.missing
same_missing e = ap (λ (x : Tag). x.missing) e

pub same_sent : {r s : Tag} → r ≡ s → r.sent ≡ s.sent
same_sent e = ap (λ (x : Tag). x.sent) e

pub same_owner : {r s : Tag} → r ≡ s → r.owner ≡ s.owner
same_owner e = ap (λ (x : Tag). x.owner) e

pub same_place : {r s : Tag} → r ≡ s → r.place ≡ s.place
same_place e = ap (λ (x : Tag). x.place) e

pub same_next : {r s : Tag} → r ≡ s → r.next ≡ s.next
same_next e = ap (λ (x : Tag). x.next) e

pub same_kind : {r s : Tag} → r ≡ s → r.kind ≡ s.kind
same_kind e = ap (λ (x : Tag). x.kind) e

pub same_state : {r s : Slot} → r ≡ s → r.state ≡ s.state
same_state e = ap (λ (x : Slot). x.state) e

pub same_size : {r s : Slot} → r ≡ s → r.size ≡ s.size
same_size e = ap (λ (x : Slot). x.size) e

pub same_pieces : {r s : Slot} → r ≡ s → r.pieces ≡ s.pieces
same_pieces e = ap (λ (x : Slot). x.pieces) e

pub same_fault : {r s : Slot} → r ≡ s → r.fault ≡ s.fault
same_fault e = ap (λ (x : Slot). x.fault) e

pub same_cause : {r s : Slot} → r ≡ s → r.cause ≡ s.cause
same_cause e = ap (λ (x : Slot). x.cause) e
