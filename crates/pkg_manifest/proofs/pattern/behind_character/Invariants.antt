use Rattle.std.proofs.Common.{◌≡◌, length}
use Rattle.pkg_manifest.specs.Patterns.{behind_character}
use Rattle.pkg_manifest.proofs.pattern.behind_character.Given as goal

abbrev pub invariant-loop-text : goal.invariant-loop-text
invariant-loop-text l = behind_character l.text ≡ behind_character l.initial.text

abbrev pub decreases-loop-text : goal.decreases-loop-text
decreases-loop-text l = length l.text
