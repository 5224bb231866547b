-- the names of the modules that were gone through
use Rattle.std.proofs.Common.{◌↔◌, ℕ, List, take}
use Rattle.std.specs.List.{Contains}
use Rattle.export_names.specs.Collected.{key_names, IsCollected}
use Rattle.export_names.proofs.exported.collected.Given as goal

abbrev pub invariant-loop-number : goal.invariant-loop-number
invariant-loop-number l = (name : List ℕ) → Contains (key_names l.names.keys) name ↔ IsCollected l.graph l.module (take l.number-index l.number-items) name
