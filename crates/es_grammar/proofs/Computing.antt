-- `unfolding lexing` lets `refl` compute the token at a place of a text.
use Rattle.unicode_ident.proofs.Computing.{unicode_ident}
use Rattle.es_tree.specs.Characters.{is_white_space, is_line_terminator, is_line_character, is_gap_character, is_identifier_start, is_identifier_part}
use Rattle.es_tree.specs.Utf8.{character}
use Rattle.es_tree.specs.Units.{run_from, of_class, line_comment, comment_character, block_comment, gap_unit, hex_number, hex_digit, braced_escape, plain_escape, unicode_escape, hidden, name_unit, digit_unit, string_escape, string_unit, template_unit, class_unit, bracketed, regex_unit}
use Rattle.es_tree.specs.Marks.{is_single, is_doubled, takes_equals, is_pair, doubled_takes_equals, is_triple, mark_length}
use Rattle.es_tree.specs.Names.{encoded, all_encoded, points_from, name_meaning, name_of}
use Rattle.es_tree.specs.ReservedWords.{words_of_scripts, words_of_modules, is_reserved}
use Rattle.es_grammar.specs.Semicolons.{binary_marks, binary_words, assignment_marks}
use Rattle.es_grammar.specs.Operators.{prefix_words, prefix_marks, update_marks, loose_marks}
use Rattle.es_grammar.specs.Statements.{declaration_words}
use Rattle.es_grammar.specs.Expressions.{literal_words}
use Rattle.es_tree.specs.Lexical.{hashbang_length, gap_end, has_line_terminator, identifier_length, digits_length, exponent_length, integer_length, fraction_length, decimal_length, radix_length, numeric_length, number_length, string, template, regex_stopped, regex, private, open_comment, word_or_mark, lexeme, token_at}

unfoldable pub lexing : Unit {0}
unfolding unicode_ident is_white_space is_line_terminator is_line_character is_gap_character is_identifier_start is_identifier_part character run_from
    of_class line_comment comment_character block_comment gap_unit hex_number hex_digit braced_escape plain_escape unicode_escape hidden name_unit
    digit_unit string_escape string_unit template_unit class_unit bracketed regex_unit is_single is_doubled takes_equals is_pair doubled_takes_equals
    is_triple mark_length hashbang_length gap_end has_line_terminator identifier_length digits_length exponent_length integer_length fraction_length
    decimal_length radix_length numeric_length number_length string template regex_stopped regex private open_comment word_or_mark lexeme token_at
lexing = tt

-- `unfolding spelling` lets it compute what is asked of a token's spelling
unfoldable pub spelling : Unit {0}
unfolding character encoded all_encoded points_from unicode_escape plain_escape braced_escape run_from hex_digit hex_number name_meaning name_of
    words_of_scripts words_of_modules is_reserved binary_marks binary_words assignment_marks prefix_words prefix_marks update_marks loose_marks
    declaration_words literal_words
spelling = tt

-- both
unfoldable pub reading : Unit {0}
unfolding lexing spelling
reading = tt
