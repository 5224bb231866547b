use Rattle.std.proofs.Common.{◌≡◌, ◌+◌, ◌-◌, ◌≤◌, length, drop}
use Rattle.es_tree.specs.Units as spec
use Rattle.es_lexer.proofs.lexemes.regex_length.Given as goal

abbrev pub invariant-units : goal.invariant-units
invariant-units l = record {
  inside : l.at ≤ length l.text;
  so_far : l.at + spec.run (spec.regex_unit) (drop l.at l.text) ≡ spec.run (spec.regex_unit) l.text;
}

abbrev pub decreases-units : goal.decreases-units
decreases-units l = length l.text - l.at
