-- The token at a place of a text of bytes: ECMA-262, clause 12.
use Rattle.std.specs.Prelude.{ℕ, ◌+◌, Bool, ◌||◌, ◌&&◌, ◌==◌, nat_lt, if◌then◌else◌, List, [], ◌∷◌, length, drop, slice_range, Result, Ok, Err}
use Rattle.es_tree.specs.declared.tokens.TokenKind.{TokenKind}
use Rattle.es_tree.specs.declared.tokens.TokenKind.TheVariants.{IdName, Private, Number, String, Template, Regex, Punctuator, End}
use Rattle.es_tree.specs.declared.tokens.Token.{Token}
use Rattle.es_tree.specs.declared.tokens.Goal.{Goal}
use Rattle.es_tree.specs.declared.tokens.Goal.TheVariants as goal
use Rattle.es_tree.specs.declared.tokens.LexFault.{LexFault}
use Rattle.es_tree.specs.declared.tokens.LexFault.TheVariants.{NotUtf8, NoToken}
use Rattle.es_tree.specs.Characters.{is_identifier_start, is_identifier_part, is_digit}
use Rattle.es_tree.specs.Utf8.{byte, character}
use Rattle.es_tree.specs.Units.{run, begins, line_character, comment_character, gap_unit, of_class, name_unit, digit_unit, string_unit, template_unit, class_unit, regex_unit}
use Rattle.es_tree.specs.Marks.{mark_length}

-- The gap: white space, line terminators and comments; at the start of a text a first line that begins `#!` (clause 12.5), also behind U+FEFF

-- the first line, where it is a Hashbang
unfoldable pub hashbang_length : List ℕ → ℕ
hashbang_length text =
    let mark = if begins text 0xEF 0xBB && byte text 2 == 0xBF then 3 else 0 in
    if begins (drop mark text) 0x23 0x21 then mark + 2 + run line_character (drop (mark + 2) text) else 0

-- where the gap begins behind a first line
abbrev pub gap_start : List ℕ → ℕ → ℕ
gap_start bytes at = if at == 0 then hashbang_length bytes else at

-- where the gap at a place ends
unfoldable pub gap_end : List ℕ → ℕ → ℕ
gap_end bytes at = gap_start bytes at + run gap_unit (drop (gap_start bytes at) bytes)

-- not all of a gap is of characters of one line
unfoldable pub has_line_terminator : List ℕ → Bool
has_line_terminator gap = nat_lt (run line_character gap) (length gap)

-- Each kind of token: how many bytes of it a text begins with, and 0 for none. For strings, templates and regular expressions, which are closed, else how far they can be read

abbrev pub Lexeme : Type 0
Lexeme = Result (TokenKind × ℕ) ℕ

-- how far reading came that stopped: a `\` is read
abbrev pub stopped : List ℕ → ℕ → Lexeme
stopped text size = Err (if byte (drop size text) 0 == 0x5C then size + 1 else size)

-- IdentifierName: a start, and then parts
unfoldable pub identifier_length : List ℕ → ℕ
identifier_length text =
    let first = name_unit is_identifier_start text in
    if first == 0 then 0 else first + run (name_unit is_identifier_part) (drop first text)

-- NumericLiteral

unfoldable pub digits_length : ℕ → List ℕ → ℕ
digits_length radix text = if is_digit radix (byte text 0) then run (digit_unit radix) text else 0

-- an `n`
abbrev pub big_length : List ℕ → ℕ
big_length text = if byte text 0 == 0x6E then 1 else 0

-- `e`, a sign, and digits
unfoldable pub exponent_length : List ℕ → ℕ
exponent_length text =
    let size = if byte text 1 == 0x2B || byte text 1 == 0x2D then 2 else 1 in
    let digits = digits_length 10 (drop size text) in
    if (byte text 0 == 0x65 || byte text 0 == 0x45) && nat_lt 0 digits then size + digits else 0

-- `0`, or digits that begin otherwise
unfoldable pub integer_length : List ℕ → ℕ
integer_length text = if byte text 0 == 0x30 then 1 else digits_length 10 text

-- behind an integer, which may be empty: a fraction and an exponent
unfoldable pub fraction_length : List ℕ → ℕ → ℕ
fraction_length text whole =
    let digits = digits_length 10 (drop (whole + 1) text) in
    let size = whole + 1 + digits in
    if byte (drop whole text) 0 == 0x2E then (if whole + digits == 0 then 0 else size + exponent_length (drop size text))
    else (if whole == 0 then 0 else whole + exponent_length (drop whole text))

unfoldable pub decimal_length : List ℕ → ℕ
decimal_length text =
    let whole = integer_length text in
    if nat_lt 0 whole && byte (drop whole text) 0 == 0x6E then whole + 1 else fraction_length text whole

-- the radix that the letter behind a first `0` tells, or 0
abbrev pub radix_of : ℕ → ℕ
radix_of c = if c == 0x78 || c == 0x58 then 16 else (if c == 0x6F || c == 0x4F then 8 else (if c == 0x62 || c == 0x42 then 2 else 0))

unfoldable pub radix_length : ℕ → List ℕ → ℕ
radix_length radix text =
    let digits = digits_length radix (drop 2 text) in
    if digits == 0 then 0 else 2 + digits + big_length (drop (2 + digits) text)

unfoldable pub numeric_length : List ℕ → ℕ
numeric_length text =
    let radix = radix_of (byte text 1) in
    if byte text 0 == 0x30 && nat_lt 0 radix then radix_length radix text else decimal_length text

-- no digit and no identifier start stands directly behind a number
unfoldable pub number_length : List ℕ → ℕ
number_length text =
    let size = numeric_length text in
    let behind = drop size text in
    if is_digit 10 (byte behind 0) || nat_lt 0 (name_unit is_identifier_start behind) then 0 else size

-- a number, or a name, or nothing
abbrev pub some_of : TokenKind → ℕ → Lexeme
some_of kind size = if size == 0 then Err 0 else Ok (kind, size)

-- StringLiteral
unfoldable pub string : List ℕ → Lexeme
string text =
    let size = 1 + run (string_unit (byte text 0)) (drop 1 text) in
    if byte (drop size text) 0 == byte text 0 then Ok (String, size + 1) else stopped text size

-- NoSubstitutionTemplate, TemplateHead, TemplateMiddle, TemplateTail: from a back quote or `}` to a back quote or `${`
unfoldable pub template : List ℕ → Lexeme
template text =
    let size = 1 + run template_unit (drop 1 text) in
    if byte (drop size text) 0 == 0x60 then Ok (Template, size + 1)
    else (if begins (drop size text) 0x24 0x7B then Ok (Template, size + 2) else stopped text size)

-- within a regular expression's brackets reading stops behind what they hold
unfoldable pub regex_stopped : List ℕ → ℕ → Lexeme
regex_stopped text size =
    if byte (drop size text) 0 == 0x5B then stopped text (size + 1 + run class_unit (drop (size + 1) text)) else stopped text size

-- RegularExpressionLiteral: its body, and flags
unfoldable pub regex : List ℕ → Lexeme
regex text =
    let size = 1 + run regex_unit (drop 1 text) in
    if byte (drop size text) 0 == 0x2F then Ok (Regex, size + 1 + run (of_class is_identifier_part) (drop (size + 1) text)) else regex_stopped text size

-- PrivateIdentifier: `#` and an IdentifierName
unfoldable pub private : List ℕ → Lexeme
private text = let size = identifier_length (drop 1 text) in if size == 0 then Err 1 else Ok (Private, 1 + size)

-- a comment that is not closed is no token
unfoldable pub open_comment : List ℕ → Lexeme
open_comment text = Err (2 + run comment_character (drop 2 text))

unfoldable pub word_or_mark : List ℕ → Lexeme
word_or_mark text =
    let size = identifier_length text in
    if size == 0 then some_of Punctuator (mark_length text) else Ok (IdName, size)

-- at goal Operand `/` begins a regular expression; it divides elsewhere
abbrev pub slash : Goal → List ℕ → Lexeme
slash goal.Operand text = regex text
slash goal.Operator text = some_of Punctuator (mark_length text)
slash goal.Template text = some_of Punctuator (mark_length text)

-- at goal Template `}` goes on with a template
abbrev pub brace : Goal → List ℕ → Lexeme
brace goal.Operand text = some_of Punctuator (mark_length text)
brace goal.Operator text = some_of Punctuator (mark_length text)
brace goal.Template text = template text

-- the kind is told by the first characters
unfoldable pub lexeme : Goal → List ℕ → Lexeme
lexeme goal [] = Ok (End, 0)
lexeme goal (c ∷ rest) =
    let text = c ∷ rest in
    if c == 0x2F then (if byte rest 0 == 0x2A then open_comment text else slash goal text)
    else (if c == 0x7D then brace goal text
    else (if c == 0x22 || c == 0x27 then string text
    else (if c == 0x60 then template text
    else (if c == 0x23 then private text
    else (if is_digit 10 c || c == 0x2E && is_digit 10 (byte rest 0) then some_of Number (number_length text) else word_or_mark text)))))

-- where reading stopped stand bytes that are no UTF-8, else no token begins
abbrev pub fault_of : ℕ → List ℕ → ℕ → LexFault
fault_of start text reach = if nat_lt reach (length text) && (character (drop reach text)).1 == 0 then NotUtf8 (start + reach) else NoToken start

-- the answer where the lexeme begins at this place
abbrev pub token_from : ℕ → Bool → List ℕ → Lexeme → Result Token LexFault
token_from start newline text (Err reach) = Err (fault_of start text reach)
token_from start newline text (Ok found) = Ok (record { kind = found.0; start = start; end = start + found.1; newline = newline })

-- the token that stands behind the gap at a place of a text
unfoldable pub token_at : List ℕ → ℕ → Goal → Result Token LexFault
token_at bytes at goal =
    let start = gap_end bytes at in
    token_from start (has_line_terminator (slice_range bytes at start)) (drop start bytes) (lexeme goal (drop start bytes))
