use Rattle.watch_core.proofs.Seeing.{looks_nothing}
use Rattle.watch_core.proofs.target.file_from.Goals as goal

pub returns-in_default-clause-looks : goal.returns-in_default-clause-looks
returns-in_default-clause-looks g c = looks_nothing (g.F.Files.means c.args.files.now) c.args.sights.now
