use Rattle.es_exports.specs.Noting.{AreNoted, of_request, of_numbered, of_unnamed}
use Rattle.es_exports.proofs.inside.Inside.new.Given as goal

abbrev pub invariant-loop-place : goal.invariant-loop-place
invariant-loop-place l = record {
  requests : AreNoted (of_request l.sight) l.place l.requests;
  numbered : AreNoted (of_numbered l.sight) l.place l.numbered;
  unnamed : AreNoted (of_unnamed l.sight) l.place l.unnamed;
}
