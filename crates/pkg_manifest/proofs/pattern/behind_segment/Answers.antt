use Rattle.std.proofs.Common.{ap, ◌∙◌}
use Rattle.pkg_manifest.specs.BlockViews.{segments_left}
use Rattle.pkg_manifest.proofs.pattern.behind_segment.Goals as goal

pub returns-in-Some : goal.returns-in-Some
returns-in-Some c = (c.cut.result.0.now, ap segments_left c.in-Some.is ∙ c.cut.ensures)
