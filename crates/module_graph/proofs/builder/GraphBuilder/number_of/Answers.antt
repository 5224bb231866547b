use Rattle.std.proofs.Common.{sym}
use Rattle.module_graph.proofs.Sights.{found, not_found}
use Rattle.module_graph.proofs.builder.GraphBuilder.number_of.Goals as goal

pub returns-in_err-number : goal.returns-in_err-number
returns-in_err-number c =
    rw (c.from_residual.ensures, ← c.self.view_is) (not_found c.self.inside.known.keys c.args.path.now (sym c.in_err-number.ensures.found))

pub returns : goal.returns
returns c = rw (← c.self.view_is) (found c.self.inside.known.keys c.args.path.now c.in_ok-number.number (sym c.in_ok-number.ensures.index))
