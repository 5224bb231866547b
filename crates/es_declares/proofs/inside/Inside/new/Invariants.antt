use Rattle.es_declares.specs.Inside.{IsRequest, IsAsking, IsNameless}
use Rattle.es_declares.proofs.InsideLaws.{AreInsideTo}
use Rattle.es_declares.proofs.inside.Inside.new.Given as goal

abbrev pub invariant-loop-place : goal.invariant-loop-place
invariant-loop-place l = record {
  requests : AreInsideTo (IsRequest l.outlined) l.outlined.marks l.place l.requests;
  asking : AreInsideTo (IsAsking l.outlined) l.outlined.marks l.place l.asking;
  nameless : AreInsideTo (IsNameless l.outlined) l.outlined.marks l.place l.nameless;
}
