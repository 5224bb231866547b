use Rattle.std.proofs.Common.{◌≡◌, ◌+◌, ◌-◌, ◌≤◌, length, drop}
use Rattle.es_tree.specs.Units as spec
use Rattle.es_lexer.specs.Kinds.{unit_of}
use Rattle.es_lexer.proofs.units.run.Given as goal

abbrev pub invariant-units : goal.invariant-units
invariant-units l = record {
  inside : l.at ≤ length l.text;
  so_far : l.at + spec.run (unit_of l.unit) (drop l.at l.text) ≡ spec.run (unit_of l.unit) l.text;
}

abbrev pub decreases-units : goal.decreases-units
decreases-units l = length l.text - l.at
