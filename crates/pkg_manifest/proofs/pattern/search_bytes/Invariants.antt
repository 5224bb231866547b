use Rattle.std.proofs.Common.{◌≡◌, ◌+◌, ◌∷◌, length, map}
use Rattle.pkg_manifest.specs.Fitting.{many, fits}
use Rattle.pkg_manifest.specs.Patterns.{byte_step, byte_part}
use Rattle.pkg_manifest.proofs.pattern.search_bytes.Given as goal

abbrev pub invariant-loop-more : goal.invariant-loop-more
invariant-loop-more l = fits byte_step (many ∷ map byte_part l.pattern) l.text ≡ fits byte_step (many ∷ map byte_part l.initial.pattern) l.initial.text

abbrev pub decreases-loop-more : goal.decreases-loop-more
decreases-loop-more l = length l.pattern + length l.text
