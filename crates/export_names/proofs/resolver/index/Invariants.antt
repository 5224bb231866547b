-- the names of the exports that were gone through
use Rattle.std.proofs.Common.{◌≡◌, map, take}
use Rattle.export_names.specs.Indexed.{export_names}
use Rattle.export_names.proofs.resolver.index.Given as goal

abbrev pub invariant-loop-entry : goal.invariant-loop-entry
invariant-loop-entry l = map (λ key. key.0.now) l.names.keys ≡ export_names (take l.entry-index l.exports)
