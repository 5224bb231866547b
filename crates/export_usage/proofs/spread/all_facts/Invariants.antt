-- what is known so far, of the same graph, and how many facts may still be
use Rattle.std.proofs.Common.{◌≡◌, ◌-◌, ◌^◌}
use Rattle.export_usage.proofs.Onward.{AreSpread}
use Rattle.export_usage.proofs.spread.all_facts.Given as goal

abbrev pub invariant-loop-place : goal.invariant-loop-place
invariant-loop-place l = record {
  same : l.resolver ≡ l.graph;
  spread : AreSpread l.graph l.facts l.place;
}

abbrev pub decreases-loop-place : goal.decreases-loop-place
decreases-loop-place l = 2 ^ 64 - l.place
