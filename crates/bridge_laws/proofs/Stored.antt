-- What an accepted read stores.
use mathlib.Core.Path.{◌≡◌, ◌∙◌}
use lib.ListN.{get_or}
use Rattle.tags.specs.Tags.{free_tags, without, lowest_few}
use Rattle.machine.specs.State.{tag_count, tag_at, free_slot}
use Rattle.machine.specs.Memory.{pieces_of, piece_of, piece_pending, claimed, read_bridge}
use Rattle.machine.proofs.Refusals.{read_ok}
use Rattle.bridge_laws.specs.MemoryLaws.{AcceptedReadOpens}
use Rattle.bridge_laws.specs.Rows.{pending_tag}
use Rattle.bridge_laws.proofs.Verbs.{claimed_acts, claimed_alone, as_claimed}
use Rattle.bridge_laws.proofs.Pieces.{opens_all, opens_slot}

pub accepted_read_opens : AcceptedReadOpens
accepted_read_opens b q room v e =
    let k = free_slot b in
    let ok = read_ok b q room e in
    let a = claimed_alone k q b in
    let c = claimed_acts 0 k q b v ok.slot in
    let n = pieces_of b.settings.reads q in
    let x = read_bridge b q in
    let o = opens_all k q (claimed k q b) n (rw a.core ok.tags) in
    record {
      free = as_claimed k q b (λ s d. x.core.free ≡ without d.free (lowest_few tag_count d.free n)) o.word;
      tag = λ i l.
          as_claimed k q b (λ s d. tag_at x (get_or (free_tags tag_count d.free) i 0) ≡ pending_tag d.ticks (piece_pending k s q (piece_of s.reads q i)))
          (o.rows c.tables i l);
      slot = opens_slot o k ∙ c.slot;
    }
