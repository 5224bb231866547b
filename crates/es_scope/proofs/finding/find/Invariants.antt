use Rattle.std.proofs.Common.{◌≡◌, None, length, reverse}
use Rattle.std.specs.Prelude.{IfSome}
use Rattle.es_scope.specs.Firsts.{told}
use Rattle.es_scope.specs.Found.{found}
use Rattle.es_scope.specs.Frames.{scopes_of}
use Rattle.es_scope.proofs.finding.find.Given as goal

abbrev pub invariant-loop-frame : goal.invariant-loop-frame
invariant-loop-frame l = record {
  further : found (λ scope. told l.firsts scope l.number) (scopes_of (reverse l.fn.frames))
      ≡ found (λ scope. told l.firsts scope l.number) (scopes_of (reverse l.left));
  vain : IfSome l.last (λ vain. told l.firsts vain l.number ≡ None);
}

abbrev pub decreases-loop-frame : goal.decreases-loop-frame
decreases-loop-frame l = length l.left
