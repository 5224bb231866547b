-- Names and strings with escapes, each with what it means.
use Rattle.std.proofs.Common.{◌≡◌, [], ◌∷◌, refl}
use Rattle.std.specs.Prelude.{codes}
use Rattle.es_tree.specs.Characters.{is_line_terminator}
use Rattle.es_tree.specs.Utf8.{character}
use Rattle.es_tree.specs.Units.{run_from, hex_digit, hex_number, braced_escape, plain_escape, unicode_escape}
use Rattle.es_tree.specs.Names.{encoded, all_encoded, points_from, name_meaning, name_of, escape_meaning, string_meaning, joined, string_value}

plain_name : name_of (codes "ab$") ≡ codes "ab$"
unfolding encoded all_encoded points_from character name_meaning name_of
plain_name = refl

escaped_name : name_of (codes "\\u0061\\u{62}c") ≡ codes "abc"
unfolding encoded all_encoded points_from character run_from hex_digit hex_number braced_escape plain_escape unicode_escape name_meaning name_of
escaped_name = refl

-- `é`, as it is and escaped
wide_name : name_of (0xC3 ∷ 0xA9 ∷ codes "\\u00e9") ≡ 0xC3 ∷ 0xA9 ∷ 0xC3 ∷ 0xA9 ∷ []
unfolding encoded all_encoded points_from character plain_escape unicode_escape name_meaning name_of
wide_name = refl

plain_string : string_value (codes "'a'") ≡ codes "a"
unfolding encoded all_encoded points_from character string_meaning joined string_value
plain_string = refl

-- `\n`, `\x41`, `\0` and `\'`
escaped_string : string_value (codes "'\\n\\x41\\0\\''") ≡ 0x0A ∷ 0x41 ∷ 0 ∷ 0x27 ∷ []
unfolding encoded all_encoded points_from character is_line_terminator escape_meaning string_meaning joined string_value
escaped_string = refl

-- an end of line behind `\` is nothing
continued_string : string_value (codes "'a\\\nb'") ≡ codes "ab"
unfolding encoded all_encoded points_from character is_line_terminator escape_meaning string_meaning joined string_value
continued_string = refl

-- two surrogates are U+1F600
paired_string : string_value (codes "'\\uD83D\\uDE00'") ≡ 0xF0 ∷ 0x9F ∷ 0x98 ∷ 0x80 ∷ []
unfolding encoded all_encoded points_from character is_line_terminator plain_escape unicode_escape escape_meaning string_meaning joined string_value
paired_string = refl

-- one alone has three bytes
lone_string : string_value (codes "'\\uD83Da'") ≡ 0xED ∷ 0xA0 ∷ 0xBD ∷ 0x61 ∷ []
unfolding encoded all_encoded points_from character is_line_terminator plain_escape unicode_escape escape_meaning string_meaning joined string_value
lone_string = refl
