use Rattle.std.proofs.Common.{◌∷◌, [], length, length-append, ap, arith}
use Rattle.prune_graph.proofs.NameOrder.{none_more}
use Rattle.prune_graph.proofs.through.no_names.Goals as goal

pub loop-preserved : goal.loop-preserved
loop-preserved c = record {
  each = omega (arith, c.loop.invariant.each, ap length c.in_ok-push.ensures.items, length-append c.loop.names.items (c.new.result ∷ []));
  none = none_more c.loop.names.items c.push.new.self.items c.new.result c.new.ensures.empty c.in_ok-push.ensures.items c.loop.invariant.none;
}
