use Rattle.std.proofs.Common.{◌≡◌, ◌+◌, ◌-◌, ◌≤◌, length, drop}
use Rattle.es_tree.specs.Units as spec
use Rattle.es_tree.specs.Characters.{is_identifier_part}
use Rattle.es_lexer.proofs.units.name_length.Given as goal

abbrev pub invariant-units : goal.invariant-units
invariant-units l = record {
  inside : l.at ≤ length l.text;
  so_far : l.at + spec.run (spec.name_unit is_identifier_part) (drop l.at l.text) ≡ spec.run (spec.name_unit is_identifier_part) l.text;
}

abbrev pub decreases-units : goal.decreases-units
decreases-units l = length l.text - l.at
