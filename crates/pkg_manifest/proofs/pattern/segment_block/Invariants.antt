use Rattle.std.proofs.Common.{◌≡◌, length, map}
use Rattle.pkg_manifest.specs.Patterns.{segment_step, segment_part}
use Rattle.pkg_manifest.specs.Blocks.{block}
use Rattle.pkg_manifest.specs.BlockViews.{segments_left}
use Rattle.pkg_manifest.proofs.pattern.segment_block.Given as goal

abbrev pub invariant-loop-pattern : goal.invariant-loop-pattern
invariant-loop-pattern l =
    block segment_step (map segment_part (segments_left l.pattern)) (segments_left l.path) ≡ block segment_step (map segment_part (segments_left l.initial.pattern)) (segments_left l.initial.path)

abbrev pub decreases-loop-pattern : goal.decreases-loop-pattern
decreases-loop-pattern l = length (segments_left l.pattern)
