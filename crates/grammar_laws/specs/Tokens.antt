-- Tokens by their places.
use Rattle.std.specs.Prelude.{ℕ, true, false}
use Rattle.es_tree.specs.declared.tokens.Token.{Token}
use Rattle.es_tree.specs.declared.tokens.TokenKind.TheVariants as kind

-- a name or a word of the grammar
abbrev pub word : ℕ → ℕ → Token
word start end = record { kind = kind.IdName; start = start; end = end; newline = false }

-- a punctuator
abbrev pub mark : ℕ → ℕ → Token
mark start end = record { kind = kind.Punctuator; start = start; end = end; newline = false }

-- a number
abbrev pub number : ℕ → ℕ → Token
number start end = record { kind = kind.Number; start = start; end = end; newline = false }

-- a string
abbrev pub string : ℕ → ℕ → Token
string start end = record { kind = kind.String; start = start; end = end; newline = false }

-- a token of a template
abbrev pub piece : ℕ → ℕ → Token
piece start end = record { kind = kind.Template; start = start; end = end; newline = false }

-- a private name
abbrev pub private : ℕ → ℕ → Token
private start end = record { kind = kind.Private; start = start; end = end; newline = false }

-- the same on a new line
abbrev pub below : Token → Token
below token = record token { newline = true }
