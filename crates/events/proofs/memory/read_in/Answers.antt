use Rattle.std.proofs.Common.{◌≡◌, ℕ, [], refl, sym, ap, ◌∙◌, length}
use Rattle.address.specs.declared.Settings.{Settings}
use Rattle.burst.specs.declared.Burst.{Burst}
use Rattle.machine.specs.Bridge.{Bridge}
use Rattle.machine.specs.Memory.{claimed, filled, pieces_of, read_to, read_sent}
use Rattle.refusals.specs.Refusals.{number_of}
use Rattle.machine.specs.State.{refused, free_slot}
use Rattle.machine.specs.Code.Tables.{bridge_of}
use Rattle.machine.proofs.Refusals.{not_zero, read_ok, read_refused_lem, read_done}
use Rattle.events.proofs.memory.read_in.Goals as goal

pub returns-in-Err-clause-step : goal.returns-in-Err-clause-step
unfolding refused
returns-in-Err-clause-step c = λ cells.
    let a = c.args in
    let why = c.in-Err.why in
    rw (c.refuse.ensures.core cells, c.refuse.ensures.answer)
    (read_refused_lem (bridge_of cells a.b.now) a.q a.area.now (number_of why) (c.in-Err.ensures.number cells) (not_zero why)).0

pub returns-in-Err-clause-area : goal.returns-in-Err-clause-area
returns-in-Err-clause-area c = λ cells.
    let a = c.args in
    let why = c.in-Err.why in
    (read_refused_lem (bridge_of cells a.b.now) a.q a.area.now (number_of why) (c.in-Err.ensures.number cells) (not_zero why)).1

-- what a claimed slot leaves
settings_stay : (k : ℕ) (q : Burst) (b : Bridge) → (claimed k q b).settings ≡ b.settings
unfolding claimed
settings_stay k q b = refl

free_stays : (k : ℕ) (q : Burst) (b : Bridge) → (claimed k q b).core.free ≡ b.core.free
unfolding claimed
free_stays k q b = refl

pub read_pieces-sent-requires : goal.read_pieces-sent-requires
read_pieces-sent-requires c =
    let a = c.args in
    let b = bridge_of [] a.b.now in
    let ok = read_ok b a.q (length a.area.now) (sym (c.in-Ok.ensures.number [])) in
    let s : c.claim.new.b.settings ≡ a.b.now.settings = ap (λ (x : Bridge). x.settings) (c.claim.ensures.tables []) ∙ settings_stay c.in-Ok.slot.number a.q b in
    let f : c.claim.new.b.core.free ≡ a.b.now.core.free = ap (λ (x : Bridge). x.core.free) (c.claim.ensures.tables []) ∙ free_stays c.in-Ok.slot.number a.q b in
    rw (s, f) (ok.tags, ok.area)

pub returns-in-Ok-clause-step : goal.returns-in-Ok-clause-step
returns-in-Ok-clause-step c = λ cells.
    let a = c.args in
    let b = bridge_of cells a.b.now in
    let t = c.read_pieces-sent in
    let es : c.in-Ok.slot.number ≡ free_slot b = c.in-Ok.ensures.slot cells c.in-Ok.slot refl in
    let s : c.claim.new.b.settings ≡ a.b.now.settings = ap (λ (x : Bridge). x.settings) (c.claim.ensures.tables cells) ∙ settings_stay c.in-Ok.slot.number a.q b in
    rw c.sent.ensures
    (read_done b (bridge_of cells c.claim.new.b) (bridge_of cells t.new.b) a.q c.in-Ok.slot.number t.result a.area.now t.new.area es (sym (c.in-Ok.ensures.number cells))
    (c.claim.ensures.tables cells)
    (t.ensures.tables cells ∙ ap (λ (x : Settings). read_to c.in-Ok.slot.number a.q (bridge_of cells c.claim.new.b) (pieces_of x.reads a.q)) s)
    (t.ensures.sent cells ∙ ap (λ (x : Settings). length (read_sent c.in-Ok.slot.number a.q (bridge_of cells c.claim.new.b) (pieces_of x.reads a.q))) s)
    (t.ensures.area cells ∙ ap (λ (x : Settings). filled (read_sent c.in-Ok.slot.number a.q (bridge_of cells c.claim.new.b) (pieces_of x.reads a.q)) a.area.now) s)).0

pub returns-in-Ok-clause-area : goal.returns-in-Ok-clause-area
returns-in-Ok-clause-area c = λ cells.
    let a = c.args in
    let b = bridge_of cells a.b.now in
    let t = c.read_pieces-sent in
    let es : c.in-Ok.slot.number ≡ free_slot b = c.in-Ok.ensures.slot cells c.in-Ok.slot refl in
    let s : c.claim.new.b.settings ≡ a.b.now.settings = ap (λ (x : Bridge). x.settings) (c.claim.ensures.tables cells) ∙ settings_stay c.in-Ok.slot.number a.q b in
    (read_done b (bridge_of cells c.claim.new.b) (bridge_of cells t.new.b) a.q c.in-Ok.slot.number t.result a.area.now t.new.area es (sym (c.in-Ok.ensures.number cells))
    (c.claim.ensures.tables cells)
    (t.ensures.tables cells ∙ ap (λ (x : Settings). read_to c.in-Ok.slot.number a.q (bridge_of cells c.claim.new.b) (pieces_of x.reads a.q)) s)
    (t.ensures.sent cells ∙ ap (λ (x : Settings). length (read_sent c.in-Ok.slot.number a.q (bridge_of cells c.claim.new.b) (pieces_of x.reads a.q))) s)
    (t.ensures.area cells ∙ ap (λ (x : Settings). filled (read_sent c.in-Ok.slot.number a.q (bridge_of cells c.claim.new.b) (pieces_of x.reads a.q)) a.area.now) s)).1
