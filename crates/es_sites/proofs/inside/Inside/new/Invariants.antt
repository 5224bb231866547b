use Rattle.es_sites.specs.Inside.{IsRequest, IsUnnamedClass}
use Rattle.es_sites.proofs.InsideLaws.{AreInTo}
use Rattle.es_sites.proofs.inside.Inside.new.Given as goal

abbrev pub invariant-loop-index : goal.invariant-loop-index
invariant-loop-index l = record {
  requests : AreInTo l.outlined.marks (IsRequest l.outlined l.asked.requests) l.index l.requests.items;
  classes : AreInTo l.outlined.marks (IsUnnamedClass l.outlined) l.index l.classes.items;
}
