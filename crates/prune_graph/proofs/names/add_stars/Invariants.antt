-- the stars that were gone through have the name
use Rattle.std.proofs.Common.{take}
use Rattle.prune_graph.specs.Gathering.{Gains, IsTheStar, IsNoSpace}
use Rattle.prune_graph.proofs.names.add_stars.Given as goal

abbrev pub invariant-loop-star : goal.invariant-loop-star
invariant-loop-star l = Gains l.fn.through (IsTheStar (take l.star-index l.stars) l.exported) IsNoSpace l.through
