use Rattle.std.proofs.Common.{drop}
use Rattle.node_resolve.specs.Looking.{moment}
use Rattle.node_resolve.specs.Resolution.{packaged}
use Rattle.node_resolve.specs.Walks.{Goes}
use Rattle.node_resolve.proofs.package.packaged.Given as goal

abbrev pub invariant-loop-folder : goal.invariant-loop-folder
invariant-loop-folder g l = record {
  fits : g.K.Look.fits l.look l.files;
  goes : Goes (moment (g.F.Files.means l.fn.files) (g.K.Look.means l.fn.look)) (moment (g.F.Files.means l.files) (g.K.Look.means l.look)) l.fn.asked.items l.asked.items
      (packaged l.form l.request l.folders) (packaged l.form l.request (drop l.folder-index l.folders));
}
