use Rattle.std.proofs.Common.{sym, subst}
use Rattle.chunk_files.specs.Holding.{HoldsTogether}
use Rattle.chunk_tests.proofs.Together.{holds_together, same_material}
use Rattle.chunk_tests.proofs.files.write_files.Goals as goal

pub new-material-requires : goal.new-material-requires
new-material-requires c =
    subst HoldsTogether (sym (same_material c.in_ok-graph.graph c.in_ok-plan.plan c.in_ok-bodies.bodies c.in_ok-sources.sources c.in_ok-getters.getters
    c.in_ok-graph.ensures c.in_ok-plan.ensures c.in_ok-bodies.ensures c.in_ok-sources.ensures c.in_ok-getters.ensures)) holds_together
