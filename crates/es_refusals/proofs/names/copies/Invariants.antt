-- copies of the names that were gone through
use Rattle.std.proofs.Common.{◌≡◌, take}
use Rattle.export_names.specs.Collected.{key_names}
use Rattle.es_refusals.proofs.names.copies.Given as goal

abbrev pub invariant-loop-name : goal.invariant-loop-name
invariant-loop-name l = l.copies.items ≡ key_names (take l.name-index l.names)
