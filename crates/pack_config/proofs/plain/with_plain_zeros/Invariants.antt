-- what was written, and what is left
use Rattle.std.proofs.Common.{◌≡◌, ◌++◌, [], length, map}
use Rattle.std.specs.List.{list_all}
use Rattle.pack_config.specs.Reading.{plain, is_good}
use Rattle.pack_config.proofs.plain.with_plain_zeros.Given as goal

abbrev pub invariant-loop-token : goal.invariant-loop-token
invariant-loop-token l =
    (l.writer.before ≡ []) × (list_all is_good l.reader ≡ list_all is_good l.initial.reader) × (l.writer.tokens ++ map plain l.reader ≡ map plain l.initial.reader)

abbrev pub decreases-loop-token : goal.decreases-loop-token
decreases-loop-token l = length l.reader
