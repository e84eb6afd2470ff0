use mathlib.Core.Path.{sym, ap, ◌∙◌}
use mathlib.Core.Bool.{Bool, ◌&&◌}
use Prim.Native.Nat.{◌*◌, ◌%◌, ◌^◌}
use native.Mathlib.Omega.{arith}
use borrow.Author.Rules.{rules}
use lib.Dec.{leb}
use lib.ListN.{length}
use Rattle.records.specs.declared.kind.Kind.TheVariants as kind
use Rattle.records.specs.Events.{read, write, config_read, config_write, completion}
use Rattle.records.specs.Events as events
use Rattle.records.specs.Code.Parts.{burst_parts, config_parts, byte_parts, plain_parts}
use Rattle.records.proofs.Holding.{holds_read, holds_write, holds_config_read, config_read_tested, holds_config_write, config_write_tested, holds_completion, holds_link, holds_tick, holds_take, take_slot}
use Rattle.records.proofs.Laying.{lays_if, read_laid, write_laid, config_read_laid, config_write_laid, completion_laid, link_bit, link_laid, tick_laid, take_laid}
use Rattle.records.proofs.writing.event_parts.Goals as goal

pub returns-in-Read : goal.returns-in-Read
returns-in-Read c =
    let q = c.in-Read.q in
    let d = c.args.lent.now in
    rw c.in-Read.is (lays_if c.then.result _ (burst_parts kind.Read q 0) (read q) d c.then.ensures.variant (λ r e. let l = rw e at c.then.ensures.some in search rules) (holds_read q ∙ sym c.burst_fits.ensures) (read_laid q d))

pub returns-in-Write : goal.returns-in-Write
returns-in-Write c =
    let q = c.in-Write.q in
    let d = c.args.lent.now in
    rw c.in-Write.is (lays_if c.then-in-Write.result _ (burst_parts kind.Write q (length d)) (write q d) d c.then-in-Write.ensures.variant (λ r e. let l = rw e at c.then-in-Write.ensures.some in search rules) (holds_write q d ∙ ap (λ (b : Bool). b && leb (length d) 4102) (sym c.burst_fits-in-Write.ensures)) (write_laid q d))

pub returns-in-ConfigRead : goal.returns-in-ConfigRead
returns-in-ConfigRead c =
    let o = c.in-ConfigRead.offset in
    let d = c.args.lent.now in
    rw c.in-ConfigRead.is (lays_if c.then-in-ConfigRead.result _ (config_parts o 0 0 0) (config_read o) d c.then-in-ConfigRead.ensures.variant (λ r e. let l = rw e at c.then-in-ConfigRead.ensures.some in search rules) (holds_config_read o ∙ config_read_tested o) (λ h. config_read_laid o d))

pub returns-in-ConfigWrite : goal.returns-in-ConfigWrite
returns-in-ConfigWrite c =
    let o = c.in-ConfigWrite.offset in
    let s = c.in-ConfigWrite.strobes in
    let w = c.in-ConfigWrite.word in
    let d = c.args.lent.now in
    rw c.in-ConfigWrite.is (lays_if c.then-in-ConfigWrite.result _ (config_parts o 1 s w) (config_write o s w) d c.then-in-ConfigWrite.ensures.variant (λ r e. let l = rw e at c.then-in-ConfigWrite.ensures.some in search rules) (holds_config_write o s w ∙ config_write_tested o s w (search rules)) (λ h. config_write_laid o s w d))

pub returns-in-Completion : goal.returns-in-Completion
returns-in-Completion c =
    let d = c.args.lent.now in
    rw c.in-Completion.is (lays_if c.then-in-Completion.result _ (plain_parts kind.Completion (length d)) (completion d) d c.then-in-Completion.ensures.variant (λ r e. let l = rw e at c.then-in-Completion.ensures.some in search rules) (holds_completion d ∙ sym c.fits-fits.ensures) (completion_laid d))

pub returns-in-Link : goal.returns-in-Link
returns-in-Link c =
    let up = c.in-Link.up in
    rw (c.in-Link.is, c.byte_parts.ensures) (holds_link up, link_laid up _ c.args.lent.now (link_bit up c.from.result c.from.ensures))

pub returns-in-Tick : goal.returns-in-Tick
returns-in-Tick c = rw (c.in-Tick.is, c.plain_parts.ensures) (holds_tick, tick_laid c.args.lent.now)

pub returns-in-Take : goal.returns-in-Take
returns-in-Take c =
    let n = c.in-Take.slot in
    let d = c.args.lent.now in
    rw c.in-Take.is (lays_if c.then-in-Take.result _ (byte_parts kind.Take (n * 16 % 2 ^ 32)) (events.take n) d c.then-in-Take.ensures.variant (λ r e. let l = rw e at c.then-in-Take.ensures.some in search rules) (holds_take n) (λ h. take_laid n _ d (omega (arith, take_slot n h))))
