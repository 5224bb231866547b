use Rattle.es_sites.specs.Listing.{AreBefore}
use Rattle.es_touches.specs.Touches.{IsTouch}
use Rattle.es_touches.proofs.finding.touches_by.Given as goal

abbrev pub invariant-loop-place : goal.invariant-loop-place
invariant-loop-place l = AreBefore (IsTouch l.tables.source l.tables.bindings) l.place l.touches.items
