-- what is left to go through, and that the last scope has the `var`
use Rattle.std.proofs.Common.{length, reverse, IfSome}
use Rattle.es_scope.proofs.Noting.{HasVar}
use Rattle.es_scope.proofs.Through.{Going}
use Rattle.es_scope.proofs.twice.Noted.through.Given as goal

abbrev pub invariant-loop-frame : goal.invariant-loop-frame
invariant-loop-frame l = record {
  going : Going l.number l.own l.initial.self l.parts l.self (reverse l.frames);
  last : IfSome l.last (λ scope. HasVar l.self scope l.number);
}

abbrev pub decreases-loop-frame : goal.decreases-loop-frame
decreases-loop-frame l = length l.frames
