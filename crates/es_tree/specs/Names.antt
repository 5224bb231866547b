-- What identifier names and strings mean: the name with its escapes decoded, and the StringValue, both in UTF-8.
use Rattle.std.specs.Prelude.{ℕ, zero, suc, ◌+◌, ◌*◌, ◌-◌, ◌/◌, ◌%◌, Bool, ◌&&◌, ◌==◌, nat_lt, nat_le, if◌then◌else◌, List, [], ◌∷◌, ◌++◌, length, take, drop}
use Rattle.std.specs.Char.{digit_value}
use Rattle.es_tree.specs.Characters.{is_line_terminator}
use Rattle.es_tree.specs.Utf8.{byte, character}
use Rattle.es_tree.specs.Units.{unicode_escape}

-- a code point in UTF-8; a surrogate has three bytes too
unfoldable pub encoded : ℕ → List ℕ
encoded code =
    if nat_lt code 0x80 then code ∷ []
    else (if nat_lt code 0x800 then (0xC0 + code / 64) ∷ (0x80 + code % 64) ∷ []
    else (if nat_lt code 0x10000 then (0xE0 + code / 4096) ∷ (0x80 + code / 64 % 64) ∷ (0x80 + code % 64) ∷ []
    else (0xF0 + code / 262144) ∷ (0x80 + code / 4096 % 64) ∷ (0x80 + code / 64 % 64) ∷ (0x80 + code % 64) ∷ []))

unfoldable pub all_encoded : List ℕ → List ℕ
all_encoded [] = []
all_encoded (code ∷ codes) = encoded code ++ all_encoded codes

-- the code points that a unit stands for, and the bytes that it takes
abbrev pub Meaning : Type 0
Meaning = List ℕ × ℕ

abbrev pub one : ℕ × ℕ → Meaning
one found = (found.0 ∷ [], found.1)

-- the code points of a text, unit by unit: first the bytes that are left of a unit are passed
unfoldable pub points_from : (List ℕ → Meaning) → ℕ → List ℕ → List ℕ
points_from meaning left [] = []
points_from meaning (suc left) (b ∷ rest) = points_from meaning left rest
points_from meaning zero (b ∷ rest) = (meaning (b ∷ rest)).0 ++ points_from meaning ((meaning (b ∷ rest)).1 - 1) rest

-- in a name: a character, or an escape (IdentifierCodePoints)
unfoldable pub name_meaning : List ℕ → Meaning
name_meaning text = if byte text 0 == 0x5C then one (unicode_escape text) else one (character text)

-- the name that an IdentifierName spells
unfoldable pub name_of : List ℕ → List ℕ
name_of spelling = all_encoded (points_from name_meaning 0 spelling)

-- what one character stands for behind `\`: `b` `t` `n` `v` `f` `r` `0`, else itself
abbrev pub single_escape : ℕ → ℕ
single_escape c =
    if c == 0x62 then 0x08
    else (if c == 0x74 then 0x09
    else (if c == 0x6E then 0x0A
    else (if c == 0x76 then 0x0B
    else (if c == 0x66 then 0x0C
    else (if c == 0x72 then 0x0D
    else (if c == 0x30 then 0 else c))))))

-- behind `\` an end of line stands for nothing
unfoldable pub escape_meaning : List ℕ → Meaning
escape_meaning text =
    let c = byte text 1 in
    let found = character (drop 1 text) in
    if c == 0x0D && byte text 2 == 0x0A then ([], 3)
    else (if is_line_terminator found.0 then ([], 1 + found.1)
    else (if c == 0x78 then ((digit_value (byte text 2) * 16 + digit_value (byte text 3)) ∷ [], 4)
    else (if c == 0x75 then one (unicode_escape text) else (single_escape found.0 ∷ [], 1 + found.1))))

unfoldable pub string_meaning : List ℕ → Meaning
string_meaning text = if byte text 0 == 0x5C then escape_meaning text else one (character text)

abbrev pub is_high_surrogate : ℕ → Bool
is_high_surrogate c = nat_le 0xD800 c && nat_lt c 0xDC00

abbrev pub is_low_surrogate : ℕ → Bool
is_low_surrogate c = nat_le 0xDC00 c && nat_lt c 0xE000

-- a high surrogate with a low one behind it is one code point
unfoldable pub joined : List ℕ → List ℕ
joined [] = []
joined (c ∷ []) = c ∷ []
joined (c ∷ d ∷ rest) = if is_high_surrogate c && is_low_surrogate d then (0x10000 + (c - 0xD800) * 1024 + (d - 0xDC00)) ∷ joined rest else c ∷ joined (d ∷ rest)

-- the value that a StringLiteral spells; a surrogate that stays alone has three bytes, which no UTF-8 has
unfoldable pub string_value : List ℕ → List ℕ
string_value spelling = all_encoded (joined (points_from string_meaning 0 (take (length spelling - 2) (drop 1 spelling))))
