use Rattle.std.proofs.Common.{[], sym, ap, ◌∙◌, lt-ltb, le-ltb}
use Rattle.machine.specs.Bridge.{Bridge}
use Rattle.machine.specs.Completions.{held, expected}
use Rattle.machine.proofs.Tables.{owner_cell}
use Rattle.events.proofs.complete.header_in.Goals.{in-Some, in-None}
use Rattle.events.proofs.complete.header_in.Goals as goal

pub bounds-b-h : goal.bounds-b-h
bounds-b-h c = (c.verdict_in-v.ensures.expects [] (sym c.is_unexpected.ensures ∙ c.if-is_unexpected.false)).tag

pub memory_in-requires : goal.memory_in-requires
memory_in-requires c =
    let y = c.verdict_in-v.ensures.expects [] (sym c.is_unexpected.ensures ∙ c.if-is_unexpected.false) in
    (c.requires.0, (y.tag, (y.opened, (c.requires.1.1, y.fits c.requires.1.0 (rw (owner_cell c.args.b.now.tags c.args.h.tag, ← c.in-Some.ensures.slot) c.in-Some.k.in_range)))))

pub returns-clause-tables : goal.returns-clause-tables
unfolding expected
returns-clause-tables c = λ cells.
    let a = c.args in
    let u = sym c.is_unexpected.ensures ∙ c.if-is_unexpected.false in
    elim c.match-read_slot.branch [
      | in-Some w ↦
          rw (w.b-is, w.store-is, ← c.verdict_in-v.ensures.verdict cells, u, owner_cell a.b.now.tags a.h.tag, ← w.in-Some.ensures.slot, lt-ltb _ _ w.in-Some.k.in_range) (w.memory_in.ensures cells)
      | in-None w ↦
          rw (w.b-is, w.store-is, ← c.verdict_in-v.ensures.verdict cells, u, owner_cell a.b.now.tags a.h.tag, le-ltb _ _ w.in-None.ensures.config)
          (ap (λ (x : Bridge). held x a.store.now) (w.finish_config.ensures cells))
    ]
