use Rattle.std.proofs.Common.{◌↔◌, Contains, sym, subst}
use Rattle.prune_graph.specs.Gathering.{the_names}
use Rattle.prune_graph.proofs.Gaining.{list_read}
use Rattle.prune_graph.proofs.through.Through.names.Goals as goal

pub returns-clause-each : goal.returns-clause-each
returns-clause-each c =
    let read = list_read c.args.self.now.names.items c.args.request c.requires c.index.result.now c.index.ensures in
    λ name. subst (λ l. Contains (the_names c.in_ok-names.names.items) name ↔ Contains l name) (sym read) (c.in_ok-names.ensures.each name)
