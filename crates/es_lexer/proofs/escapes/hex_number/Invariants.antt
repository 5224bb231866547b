use Rattle.std.proofs.Common.{◌≡◌, ◌≤◌, drop}
use Rattle.es_tree.specs.Units.{hex_number}
use Rattle.es_lexer.proofs.escapes.hex_number.Given as goal

abbrev pub invariant-loop-i : goal.invariant-loop-i
invariant-loop-i l = record {
  small : l.so_far ≤ 0x110000;
  so_far : hex_number l.so_far (drop l.i l.digits) ≡ hex_number 0 l.digits;
}
