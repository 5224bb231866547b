-- The classes of source characters, by their code points: ECMA-262, clauses 12.2, 12.3 and 12.7.
use Rattle.std.specs.Prelude.{ℕ, Bool, ◌||◌, ◌&&◌, not, ◌==◌, nat_lt, nat_le}
use Rattle.std.specs.Char.{digit_value}
use Rattle.unicode_ident.specs.Ident.{is_xid_start, is_xid_continue}

-- WhiteSpace: TAB, VT, FF, U+FEFF, and the characters of Unicode's category Zs
unfoldable pub is_white_space : ℕ → Bool
is_white_space c =
    c == 0x9 || c == 0xB || c == 0xC || c == 0x20 || c == 0xA0 || c == 0x1680 || nat_le 0x2000 c && nat_le c 0x200A || c == 0x202F || c == 0x205F || c == 0x3000 || c == 0xFEFF

-- LineTerminator: LF, CR, U+2028 and U+2029
unfoldable pub is_line_terminator : ℕ → Bool
is_line_terminator c = c == 0xA || c == 0xD || c == 0x2028 || c == 0x2029

-- any character within a line
unfoldable pub is_line_character : ℕ → Bool
is_line_character c = not (is_line_terminator c)

-- what stands alone between tokens
unfoldable pub is_gap_character : ℕ → Bool
is_gap_character c = is_white_space c || is_line_terminator c

-- a Unicode scalar value: a code point that is no surrogate
abbrev pub is_scalar : ℕ → Bool
is_scalar c = nat_lt c 0xD800 || nat_le 0xE000 c && nat_lt c 0x110000

-- IdentifierStartChar: `$`, `_`, and the characters with XID_Start
unfoldable pub is_identifier_start : ℕ → Bool
is_identifier_start c = c == 0x24 || c == 0x5F || is_scalar c && is_xid_start c

-- IdentifierPartChar: `$`, U+200C, U+200D, and the characters with XID_Continue, of which `_` is one
unfoldable pub is_identifier_part : ℕ → Bool
is_identifier_part c = c == 0x24 || c == 0x200C || c == 0x200D || is_scalar c && is_xid_continue c

-- the digits below a radix, from `0` on: `0` to `9`, and then letters, small or capital
abbrev pub is_digit : ℕ → ℕ → Bool
is_digit radix c = nat_le 0x30 c && nat_lt (digit_value c) radix
