-- the paths that are left
use Rattle.std.proofs.Common.{drop}
use Rattle.node_resolve.specs.Candidates.{Candidates}
use Rattle.node_resolve.specs.Looking.{moment}
use Rattle.node_resolve.specs.Resolution.{files}
use Rattle.node_resolve.specs.Walks.{Goes}
use Rattle.node_resolve.proofs.ask.first_file.Given as goal

abbrev pub invariant-loop-path : goal.invariant-loop-path
invariant-loop-path g l = record {
  fits : g.K.Look.fits l.look l.files;
  goes : (next : Candidates) → Goes (moment (g.F.Files.means l.fn.files) (g.K.Look.means l.fn.look)) (moment (g.F.Files.means l.files) (g.K.Look.means l.look)) l.fn.asked.items l.asked.items
      (files l.paths next) (files (drop l.path-index l.paths) next);
}
