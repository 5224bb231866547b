use Rattle.std.proofs.Common.{rules}
use Rattle.watch_core.proofs.Outwards.{none_in}
use Rattle.watch_core.proofs.manifest.put_manifest.Goals as goal

pub returns-in-None : goal.returns-in-None
returns-in-None c = none_in c.args.paths.now.items c.args.folder.now (search rules)
