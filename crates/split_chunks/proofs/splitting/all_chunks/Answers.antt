use Rattle.std.proofs.Common.{length, sym, subst}
use Rattle.pk_types.specs.Splitting.{PicksEndIn, IsSplit}
use Rattle.split_chunks.specs.States.{state_of}
use Rattle.split_chunks.specs.Picking.{IsHeld}
use Rattle.split_chunks.proofs.Standing.{loads_below}
use Rattle.split_chunks.proofs.PickSteps.{held_first, held_sound, group_clauses}
use Rattle.split_chunks.proofs.splitting.all_chunks.Goals as goal

pub picked-requires-clause-held : goal.picked-requires-clause-held
picked-requires-clause-held c = subst (IsHeld (length c.args.graph.now.rows)) (sym c.in_ok-state.ensures)
    (held_first (length c.args.graph.now.rows) c.args.groups.now c.in_ok-placed.placed.items c.requires.groups c.in_ok-placed.ensures c.requires.modules)

pub chunks_of-requires-clause-loads : goal.chunks_of-requires-clause-loads
chunks_of-requires-clause-loads c = loads_below (length c.args.graph.now.rows) (state_of c.in_ok-last.last)
    (held_sound (length c.args.graph.now.rows) (state_of c.in_ok-last.last) c.in_ok-last.ensures.held)

pub returns : goal.returns
returns c =
    let graph = c.args.graph.now in
    let groups = c.args.groups.now in
    let config = c.args.config.now.split in
    let placed = c.in_ok-placed.placed.items in
    let split : IsSplit graph config groups.entries placed c.in_ok-chunks.chunks = record {
      last = state_of c.in_ok-last.last;
      picks = subst (λ z. PicksEndIn graph config z (state_of c.in_ok-last.last)) c.in_ok-state.ensures c.in_ok-last.ensures.picks;
      finished = c.in_ok-chunks.ensures;
    } in
    record {
      brought = placed;
      placed = c.in_ok-placed.ensures;
      split = split;
      clauses = group_clauses graph config groups placed c.in_ok-chunks.chunks c.requires.groups c.in_ok-placed.ensures split;
    }
