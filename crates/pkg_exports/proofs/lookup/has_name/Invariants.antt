use Rattle.std.proofs.Common.{◌≡◌, length}
use Rattle.pkg_exports.specs.Shapes.{has_names}
use Rattle.pkg_exports.proofs.lookup.has_name.Given as goal

abbrev pub invariant-loop-members : goal.invariant-loop-members
invariant-loop-members l = has_names l.dotted l.members ≡ has_names l.dotted l.initial.members

abbrev pub decreases-loop-members : goal.decreases-loop-members
decreases-loop-members l = length l.members
