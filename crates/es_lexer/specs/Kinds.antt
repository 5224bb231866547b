-- The units that runs are made of, by their names in the code.
use Rattle.std.specs.Prelude.{ℕ, List}
use Rattle.es_tree.specs.Characters.{is_identifier_part}
use Rattle.es_tree.specs.Units as units
use Rattle.es_lexer.specs.declared.units.Unit.{Unit}
use Rattle.es_lexer.specs.declared.units.Unit.TheVariants.{Comment, Flag, Digit, String, Template, Class}

abbrev pub unit_of : Unit → List ℕ → ℕ
unit_of Comment = units.comment_character
unit_of Flag = units.of_class is_identifier_part
unit_of (Digit radix) = units.digit_unit radix
unit_of (String quote) = units.string_unit quote
unit_of Template = units.template_unit
unit_of Class = units.class_unit
