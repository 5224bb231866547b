use Rattle.std.proofs.Common.{◌≡◌, ◌<◌, ◌^◌}
use Rattle.es_sites.specs.Marks.{deleted}
use Rattle.es_sites.proofs.marks.deleted.Given as goal

abbrev pub invariant-loop-outer : goal.invariant-loop-outer
invariant-loop-outer l = record {
  same : deleted l.outlined l.outer l.end ≡ deleted l.outlined l.first l.last;
  short : l.end < 2 ^ 33;
}

abbrev pub decreases-loop-outer : goal.decreases-loop-outer
decreases-loop-outer l = l.outer
