-- A struct is decided by its view, but for where its queue stands: its rows are decided by their columns.
use Rattle.std.proofs.Common.{◌≡◌, ℕ, List, sym, ap, ◌∙◌}
use Rattle.parts.specs.Cores.{Core}
use Rattle.parts.specs.declared.TagRow.{TagRow}
use Rattle.parts.specs.declared.SlotRow.{SlotRow}
use Rattle.parts.specs.Code.Struct.{core_at}
use Rattle.address.specs.declared.Settings.{Settings}
use Rattle.messages.specs.declared.queue.Ring.{Ring}
use Rattle.machine.proofs.Tables.{tags_agree, slots_agree}
use Rattle.machine.specs.State.{Bridge}
use Rattle.bridge.specs.declared.Bridge as code
use Rattle.bridge.specs.View.{ViewDecides, view_of}

-- a struct from its parts, the queue's ring and cells among them
abbrev made : Ring → List ℕ → Settings → Core → List ℕ → List TagRow → List SlotRow → code.Bridge
made ring cells s c m t x =
    record { state = record { settings = s; core = core_at ring c; missing = m; tags = t; slots = x }; cells = cells }

pub view_decides : ViewDecides
view_decides x y v w e =
    let t : x.state.tags ≡ y.state.tags =
    tags_agree x.state.tags y.state.tags (v.tags ∙ sym w.tags) (ap (λ (b : Bridge). b.sent) e) (ap (λ (b : Bridge). b.owner) e) (ap (λ (b : Bridge). b.place) e) (ap (λ (b : Bridge). b.next) e) (ap (λ (b : Bridge). b.kind) e) in
    let s : x.state.slots ≡ y.state.slots =
    slots_agree x.state.slots y.state.slots (v.slots ∙ sym w.slots) (ap (λ (b : Bridge). b.state) e) (ap (λ (b : Bridge). b.size) e) (ap (λ (b : Bridge). b.pieces) e) (ap (λ (b : Bridge). b.fault) e) (ap (λ (b : Bridge). b.cause) e) (ap (λ (b : Bridge). b.session) e) in
    let from = made y.state.core.registers.errors y.cells in
    ap (λ (b : Bridge). from b.settings b.core b.missing x.state.tags x.state.slots) e
    ∙ (ap (λ (z : List TagRow). from y.state.settings (view_of y).core y.state.missing z x.state.slots) t
    ∙ ap (from y.state.settings (view_of y).core y.state.missing y.state.tags) s)
