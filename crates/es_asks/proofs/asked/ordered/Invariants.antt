use Rattle.std.proofs.Common.{List, length}
use Rattle.pk_types.specs.declared.facts.Request.{Request}
use Rattle.es_asks.specs.Passing.{AsksOnce, AreAskedTo, AreFirstsTo, IsOrderAt}
use Rattle.es_asks.proofs.asked.ordered.Given as goal

abbrev pub invariant-loop-place : goal.invariant-loop-place
invariant-loop-place l = (requests : List Request) → AsksOnce l.outlined → AreAskedTo l.outlined (length l.outlined.marks) requests l.numbers
    → AreFirstsTo (IsOrderAt l.outlined requests) l.place l.order.keys
