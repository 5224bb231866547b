use Rattle.std.proofs.Common.{ap, subst}
use Rattle.std.specs.Map.{keys_of}
use Rattle.pk_base.specs.Causes.{is_failed}
use Rattle.pk_base.specs.Keeping.{KeepsFiles}
use Rattle.watch_core.proofs.Finding.{finds_all}
use Rattle.watch_core.proofs.Seeing.{looks_files}
use Rattle.watch_core.proofs.find.find_modules.Goals as goal

pub returns-clause-value : goal.returns-clause-value
returns-clause-value g c =
    finds_all (g.F.Files.means c.args.files.now) (g.F.Files.means c.find.new.files) c.new-sights.result c.find.new.sights c.find.result c.new-sights.ensures c.find.ensures.value c.find.ensures.looks

pub returns-clause-keeps : goal.returns-clause-keeps
returns-clause-keeps g c =
    subst (λ seen. KeepsFiles (is_failed c.find.result) seen (g.F.Files.means c.args.files.now) (g.F.Files.means c.find.new.files)) (ap keys_of c.new-sights.ensures)
    (looks_files c.find.result (g.F.Files.means c.args.files.now) (g.F.Files.means c.find.new.files) c.new-sights.result c.find.new.sights c.find.ensures.looks)
