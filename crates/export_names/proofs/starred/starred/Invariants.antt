-- the search so far, and the modules that were not gone through
use Rattle.std.proofs.Common.{◌-◌, length}
use Rattle.export_names.specs.Starred.{star_edges}
use Rattle.export_names.proofs.StarSearch.{IsSearch}
use Rattle.export_names.proofs.starred.starred.Given as goal

abbrev pub invariant-loop-place : goal.invariant-loop-place
invariant-loop-place l = IsSearch (star_edges l.graph) l.module l.known.keys l.place

abbrev pub decreases-loop-place : goal.decreases-loop-place
decreases-loop-place l = length l.graph.rows - l.place
