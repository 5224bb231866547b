use Rattle.std.proofs.Common.{◌≡◌, length, map}
use Rattle.pkg_manifest.specs.Patterns.{byte_step, byte_part}
use Rattle.pkg_manifest.specs.Blocks.{block}
use Rattle.pkg_manifest.proofs.pattern.byte_block.Given as goal

abbrev pub invariant-loop-pattern : goal.invariant-loop-pattern
invariant-loop-pattern l = block byte_step (map byte_part l.pattern) l.text ≡ block byte_step (map byte_part l.initial.pattern) l.initial.text

abbrev pub decreases-loop-pattern : goal.decreases-loop-pattern
decreases-loop-pattern l = length l.pattern
