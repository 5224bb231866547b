-- the names of the exports that were gone through are added
use Rattle.std.proofs.Common.{take}
use Rattle.export_names.specs.Collected.{key_names, HasMore, IsGiven}
use Rattle.export_names.proofs.exported.add.Given as goal

abbrev pub invariant-loop-entry : goal.invariant-loop-entry
invariant-loop-entry l = HasMore (key_names l.fn.names.keys) (IsGiven (take l.entry-index l.exports) l.with_default) (key_names l.names.keys)
