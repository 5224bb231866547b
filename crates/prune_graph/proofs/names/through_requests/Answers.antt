use Rattle.std.proofs.Common.{subst}
use Rattle.prune_graph.specs.Gathering.{IsUnused}
use Rattle.prune_graph.proofs.Passes.{gathered}
use Rattle.prune_graph.proofs.names.through_requests.Goals as goal

pub returns-clause-through : goal.returns-clause-through
returns-clause-through c =
    gathered c.args.stops.now c.args.module c.args.row.now c.args.used.now c.in_ok-through.through c.add_sites.new.through c.add_used.new.through
    (subst (λ n. IsUnused n c.in_ok-through.through) c.len.ensures c.in_ok-through.ensures) c.in_ok-add_sites.ensures c.in_ok-add_used.ensures.gains
