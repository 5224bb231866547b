-- the folders that are left
use Rattle.std.proofs.Common.{ℕ, List, Option, drop}
use Rattle.node_resolve.specs.declared.sight.Package.{Package}
use Rattle.node_resolve.specs.Candidates.{Candidates, End}
use Rattle.node_resolve.specs.Looking.{moment}
use Rattle.node_resolve.specs.Resolution as spec
use Rattle.node_resolve.specs.Walks.{Goes}
use Rattle.node_resolve.proofs.walk.nearest.Given as goal

abbrev pub invariant-loop-folder : goal.invariant-loop-folder
invariant-loop-folder g l = record {
  fits : g.K.Look.fits l.look l.files;
  goes : (bad : List ℕ → End) (next : Option Package → Candidates) → Goes (moment (g.F.Files.means l.fn.files) (g.K.Look.means l.fn.look)) (moment (g.F.Files.means l.files) (g.K.Look.means l.look)) l.fn.asked.items l.asked.items
      (spec.nearest bad next l.folders) (spec.nearest bad next (drop l.folder-index l.folders));
}
