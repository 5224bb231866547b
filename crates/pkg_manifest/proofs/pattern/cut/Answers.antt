use Rattle.pkg_manifest.proofs.Cutting.{glued_start}
use Rattle.pkg_manifest.proofs.pattern.cut.Goals as goal

pub loop-at-init : goal.loop-at-init
loop-at-init c = glued_start c.args.text.now
