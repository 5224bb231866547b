-- The JSON value that the bytes of a file are: that of `serde_json`, whose grammar and values these are (`Read` of its specs), but that a number written
-- `-0` is the integer 0, where `serde_json` has a float as for `-0.0`.
use Rattle.std.specs.Prelude.{◌≡◌, ℕ, String, string_bytes, List, Bool, true, false, map, codes, Option, Some, None, option_and_then, if◌then◌else◌}
use Rattle.std.specs.List.{list_all}
use Rattle.std.specs.declared.alloc.Global.{Global}
use Rattle.std.specs.Str.{bytes_eq, is_utf8}
use Rattle.json.specs.Token.{Token, begin_object, end_object, begin_array, end_array, key, string, number, boolean, null, bad}
use Rattle.json.specs.Lex.{tokens}
use Rattle.json.specs.Json as json
use Rattle.serde_json.specs.Data.{Data}
use Rattle.serde_json.specs.Read.{of_json, max_depth}

abbrev pub plain_number : List ℕ → List ℕ
plain_number text = if bytes_eq text (codes "-0") then codes "0" else text

abbrev pub plain : Token → Token
plain begin_object = begin_object
plain end_object = end_object
plain begin_array = begin_array
plain end_array = end_array
plain (key s) = key s
plain (string s) = string s
plain (number s) = number (plain_number s)
plain (boolean b) = boolean b
plain null = null
plain bad = bad

-- the first fault of a text is the token `bad`
abbrev pub is_good : Token → Bool
is_good begin_object = true
is_good end_object = true
is_good begin_array = true
is_good end_array = true
is_good (key s) = true
is_good (string s) = true
is_good (number s) = true
is_good (boolean b) = true
is_good null = true
is_good bad = false

-- whether these are the tokens of a whole text, and another text has them too but for the zeros
abbrev pub IsPlain : List Token → Option (String Global) → Type 0
IsPlain ts None = list_all is_good ts ≡ false
IsPlain ts (Some text) = (list_all is_good ts ≡ true) × (tokens (string_bytes text) ≡ map plain ts)

-- what `read` of `serde_json` says of a text with these tokens
abbrev pub value_of_tokens : List Token → Option Data
value_of_tokens ts = option_and_then of_json (option_and_then (λ p. json.if_last p.0 p.1) (json.value max_depth ts))

unfoldable pub value_of_text : List ℕ → Option Data
value_of_text text = if list_all is_good (tokens text) then value_of_tokens (map plain (tokens text)) else None

-- None where the bytes are no JSON
abbrev pub value_of_bytes : List ℕ → Option Data
value_of_bytes bytes = if is_utf8 bytes then value_of_text bytes else None
