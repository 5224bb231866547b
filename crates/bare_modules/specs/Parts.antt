-- What a token is in a module's text.
use Rattle.std.specs.Prelude.{ℕ, Bool, true, false, ◌||◌, ◌&&◌, not, ◌==◌, nat_le, List, codes, nat_eq, if◌then◌else◌}
use Rattle.std.specs.Str.{bytes_eq}
use Rattle.std.specs.List.{starts_with, list_all}
use Rattle.es_tree.specs.declared.tokens.Token.{Token}
use Rattle.es_tree.specs.declared.tokens.TokenKind.{TokenKind}
use Rattle.es_tree.specs.declared.tokens.TokenKind.TheVariants as kind
use Rattle.es_tree.specs.declared.tokens.ProgramGoal.TheVariants.{Script, Module}
use Rattle.es_tree.specs.ReservedWords.{is_reserved}
use Rattle.bare_modules.specs.Tokens.{text_of}
use Rattle.bare_modules.specs.declared.parts.Part.{Part}
use Rattle.bare_modules.specs.declared.parts.Part.TheVariants.{Name, ScriptName, Number, String, Open, Close, Comma, Semicolon, Import, Foreign}

-- TAB, and space to `~` but for the backslash
abbrev pub is_plain : ℕ → Bool
is_plain c = c == 9 || nat_le 32 c && nat_le c 126 && not (c == 92)

abbrev pub is_decimal : ℕ → Bool
is_decimal c = nat_le 48 c && nat_le c 57

-- names that a bundle gives a meaning of its own, or that call for more than a plain call
abbrev pub is_special : List ℕ → Bool
is_special word = bytes_eq word (codes "require") || bytes_eq word (codes "eval") || starts_with nat_eq word (codes "__webpack_")

-- a reserved word: `import` begins a declaration, and what modules alone reserve is a name in scripts
abbrev pub reserved_part : List ℕ → Part
reserved_part word = if is_reserved word Script then (if bytes_eq word (codes "import") then Import else Foreign) else ScriptName

abbrev pub name_part : List ℕ → Part
name_part word =
    if not (list_all is_plain word) || is_special word then Foreign
    else (if is_reserved word Module then reserved_part word else Name)

abbrev pub mark_part : List ℕ → Part
mark_part mark =
    if bytes_eq mark (codes "(") then Open
    else (if bytes_eq mark (codes ")") then Close
    else (if bytes_eq mark (codes ",") then Comma
    else (if bytes_eq mark (codes ";") then Semicolon else Foreign)))

-- what a token is, by its kind and its text: names and strings are over plain ASCII and without escapes, numbers are digits alone
abbrev pub part_of : TokenKind → List ℕ → Part
part_of kind.IdName word = name_part word
part_of kind.Private word = Foreign
part_of kind.Number word = if list_all is_decimal word then Number else Foreign
part_of kind.String word = if list_all is_plain word then String else Foreign
part_of kind.Template word = Foreign
part_of kind.Regex word = Foreign
part_of kind.Punctuator word = mark_part word
part_of kind.End word = Foreign

-- what a token of a text is
abbrev pub part_in : List ℕ → Token → Part
part_in text token = part_of token.kind (text_of text token)

abbrev pub is_script_name : Part → Bool
is_script_name ScriptName = true
is_script_name _ = false
