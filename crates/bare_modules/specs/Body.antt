-- The body that tokens make: each of them, with what stood between two of them cut down.
use Rattle.std.specs.Prelude.{ℕ, Bool, ◌||◌, ◌==◌, List, [], ◌∷◌, ◌++◌, slice_range, Option, None, Some, option_to_list, if◌then◌else◌}
use Rattle.std.specs.List.{list_any}
use Rattle.es_tree.specs.declared.tokens.Token.{Token}
use Rattle.bare_modules.specs.Tokens.{text_of}

-- LF and CR
abbrev pub is_line_end : ℕ → Bool
is_line_end c = c == 10 || c == 13

-- what is put between two tokens: LF where a line ended between them, else a space where anything stood there
abbrev pub separator_of : List ℕ → Option ℕ
separator_of [] = None
separator_of (c ∷ gap) = if list_any is_line_end (c ∷ gap) then Some 10 else Some 32

-- the tokens behind a place at which one ended
abbrev pub tokens_behind : List ℕ → ℕ → List Token → List ℕ
tokens_behind text at [] = []
tokens_behind text at (token ∷ tokens) = option_to_list (separator_of (slice_range text at token.start)) ++ text_of text token ++ tokens_behind text token.end tokens

abbrev pub body_of : List ℕ → List Token → List ℕ
body_of text [] = []
body_of text (token ∷ tokens) = text_of text token ++ tokens_behind text token.end tokens
