use Rattle.std.proofs.Common.{◌≡◌, ◌+◌, ◌∷◌, length, map}
use Rattle.pkg_manifest.specs.Fitting.{many, fits}
use Rattle.pkg_manifest.specs.Patterns.{segment_step, segment_part}
use Rattle.pkg_manifest.specs.BlockViews.{segments_left}
use Rattle.pkg_manifest.proofs.pattern.search_segments.Given as goal

abbrev pub invariant-loop-more : goal.invariant-loop-more
invariant-loop-more l =
    fits segment_step (many ∷ map segment_part (segments_left l.pattern)) (segments_left l.path) ≡ fits segment_step (many ∷ map segment_part (segments_left l.initial.pattern)) (segments_left l.initial.path)

abbrev pub decreases-loop-more : goal.decreases-loop-more
decreases-loop-more l = length (segments_left l.pattern) + length (segments_left l.path)
