-- copies of the first names
use Rattle.std.proofs.Common.{◌≡◌, take}
use Rattle.export_usage.proofs.reading.texts.Given as goal

abbrev pub invariant-loop-number : goal.invariant-loop-number
invariant-loop-number l = l.texts.items ≡ take l.number l.names
