-- The units of which gaps and tokens are made. Each has the number of bytes that it takes at the front of a text, and 0 where the text begins with none.
use Rattle.std.specs.Prelude.{ℕ, zero, suc, ◌+◌, ◌*◌, ◌-◌, min, Bool, true, not, ◌&&◌, ◌||◌, ◌==◌, nat_lt, if◌then◌else◌, List, [], ◌∷◌, take, drop}
use Rattle.std.specs.Char.{digit_value}
use Rattle.es_tree.specs.Characters.{is_line_character, is_gap_character, is_digit}
use Rattle.es_tree.specs.Utf8.{byte, Character, no_character, character}

-- units one behind the other, as many as there are: `run_from` first passes the bytes that are left of a unit
unfoldable pub run_from : (List ℕ → ℕ) → ℕ → List ℕ → ℕ
run_from unit left [] = 0
run_from unit (suc left) (b ∷ rest) = suc (run_from unit left rest)
run_from unit zero (b ∷ rest) = if unit (b ∷ rest) == 0 then 0 else suc (run_from unit (unit (b ∷ rest) - 1) rest)

abbrev pub run : (List ℕ → ℕ) → List ℕ → ℕ
run unit text = run_from unit 0 text

-- the first of two units, else the second
abbrev pub else_unit : ℕ → ℕ → ℕ
else_unit first second = if nat_lt 0 first then first else second

abbrev pub any_character : List ℕ → ℕ
any_character text = (character text).1

-- a character of a class
unfoldable pub of_class : (ℕ → Bool) → List ℕ → ℕ
of_class class text = if class (character text).0 then (character text).1 else 0

abbrev pub line_character : List ℕ → ℕ
line_character text = of_class is_line_character text

abbrev pub begins : List ℕ → ℕ → ℕ → Bool
begins text a b = byte text 0 == a && byte text 1 == b

-- Comments (clause 12.4)

-- `//` and the rest of the line
unfoldable pub line_comment : List ℕ → ℕ
line_comment text = if begins text 0x2F 0x2F then 2 + run line_character (drop 2 text) else 0

-- what stands in a comment before `*/`
unfoldable pub comment_character : List ℕ → ℕ
comment_character text = if begins text 0x2A 0x2F then 0 else any_character text

unfoldable pub block_comment : List ℕ → ℕ
block_comment text =
    let size = 2 + run comment_character (drop 2 text) in
    if begins text 0x2F 0x2A && begins (drop size text) 0x2A 0x2F then size + 2 else 0

unfoldable pub gap_unit : List ℕ → ℕ
gap_unit text = else_unit (of_class is_gap_character text) (else_unit (line_comment text) (block_comment text))

-- Escapes

-- the number that hexadecimal digits spell behind a number; what is beyond Unicode counts as 0x110000
unfoldable pub hex_number : ℕ → List ℕ → ℕ
hex_number so_far [] = so_far
hex_number so_far (c ∷ rest) = hex_number (min (16 * so_far + digit_value c) 0x110000) rest

unfoldable pub hex_digit : List ℕ → ℕ
hex_digit text = if is_digit 16 (byte text 0) then 1 else 0

-- `\u{` digits `}`
unfoldable pub braced_escape : List ℕ → Character
braced_escape text =
    let digits = run hex_digit (drop 3 text) in
    let code = hex_number 0 (take digits (drop 3 text)) in
    if nat_lt 0 digits && byte (drop (3 + digits) text) 0 == 0x7D && nat_lt code 0x110000 then (code, digits + 4) else no_character

-- `\u` and four digits
unfoldable pub plain_escape : List ℕ → Character
plain_escape text =
    let a = byte text 2 in let b = byte text 3 in let c = byte text 4 in let d = byte text 5 in
    if is_digit 16 a && is_digit 16 b && is_digit 16 c && is_digit 16 d
    then (digit_value a * 4096 + digit_value b * 256 + digit_value c * 16 + digit_value d, 6) else no_character

-- `\` UnicodeEscapeSequence (clause 12.9.4): its code point, and its bytes
unfoldable pub unicode_escape : List ℕ → Character
unicode_escape text =
    if begins text 0x5C 0x75 then (if byte text 2 == 0x7B then braced_escape text else plain_escape text) else no_character

-- `\` and a character of a class
unfoldable pub hidden : (ℕ → Bool) → List ℕ → ℕ
hidden class text = let size = of_class class (drop 1 text) in if nat_lt 0 size then 1 + size else 0

-- Names (clause 12.7): a character, or an escape that stands for it
unfoldable pub name_unit : (ℕ → Bool) → List ℕ → ℕ
name_unit class text =
    if byte text 0 == 0x5C then (if class (unicode_escape text).0 then (unicode_escape text).1 else 0) else of_class class text

-- Digits (clause 12.9.3): a digit, or `_` and a digit
unfoldable pub digit_unit : ℕ → List ℕ → ℕ
digit_unit radix text = if is_digit radix (byte text 0) then 1 else (if byte text 0 == 0x5F && is_digit radix (byte text 1) then 2 else 0)

-- Strings (clause 12.9.4)

-- `\` and what it escapes: an end of line, `x` and two digits, `u` and its digits, `0` with no digit behind it, and characters other than digits
unfoldable pub string_escape : List ℕ → ℕ
string_escape text =
    let c = byte text 1 in
    if c == 0x0D && byte text 2 == 0x0A then 3
    else (if c == 0x78 then (if is_digit 16 (byte text 2) && is_digit 16 (byte text 3) then 4 else 0)
    else (if c == 0x75 then (unicode_escape text).1
    else (if is_digit 10 c then (if c == 0x30 && not (is_digit 10 (byte text 2)) then 2 else 0) else hidden (λ _. true) text)))

unfoldable pub string_unit : ℕ → List ℕ → ℕ
string_unit quote text =
    let c = byte text 0 in
    if c == quote || c == 0x0A || c == 0x0D then 0 else (if c == 0x5C then string_escape text else any_character text)

-- Templates (clause 12.9.6): any character but a back quote and the `$` of `${`, or `\` and any character
unfoldable pub template_unit : List ℕ → ℕ
template_unit text =
    if byte text 0 == 0x60 || begins text 0x24 0x7B then 0 else (if byte text 0 == 0x5C then hidden (λ _. true) text else any_character text)

-- Regular expressions (clause 12.9.5)

-- within brackets: any character of the line but `]`, or `\` and one
unfoldable pub class_unit : List ℕ → ℕ
class_unit text = if byte text 0 == 0x5D then 0 else (if byte text 0 == 0x5C then hidden is_line_character text else line_character text)

-- `[` `]` and what they hold
unfoldable pub bracketed : List ℕ → ℕ
bracketed text = let size = 1 + run class_unit (drop 1 text) in if byte (drop size text) 0 == 0x5D then size + 1 else 0

-- any character of the line but `/`, or `\` and one, or a class in brackets
unfoldable pub regex_unit : List ℕ → ℕ
regex_unit text =
    let c = byte text 0 in
    if c == 0x2F then 0 else (if c == 0x5C then hidden is_line_character text else (if c == 0x5B then bracketed text else line_character text))
