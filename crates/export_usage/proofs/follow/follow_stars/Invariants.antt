-- the name is used of what the stars lead to that were gone through
use Rattle.std.proofs.Common.{take}
use Rattle.export_usage.specs.Claims.{Learns}
use Rattle.export_usage.specs.Steps.{Each, SaysStar}
use Rattle.export_usage.proofs.follow.follow_stars.Given as goal

abbrev pub invariant-loop-star : goal.invariant-loop-star
invariant-loop-star l = Learns l.fn.facts (Each (SaysStar l.targets l.name) (take l.star-index l.stars)) l.facts
