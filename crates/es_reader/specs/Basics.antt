-- What readers are, and the tokens that they take.
use Rattle.std.specs.Prelude.{◌≡◌, ℕ, Bool, true, false, not, ◌&&◌, List, Option, Some, None, Result, Ok, Err, if◌then◌else◌}
use Rattle.std.specs.List.{list_any}
use Rattle.std.specs.Str.{bytes_eq}
use Rattle.es_tree.specs.declared.tokens.Token.{Token}
use Rattle.es_tree.specs.declared.tokens.TokenKind.{TokenKind}
use Rattle.es_tree.specs.declared.tokens.TokenKind.TheVariants as kind
use Rattle.es_tree.specs.declared.tokens.LexFault.{LexFault}
use Rattle.es_tree.specs.declared.tokens.Goal.{Goal}
use Rattle.es_tree.specs.Lexical.{token_at}
use Rattle.es_tree.specs.Names.{name_of}
use Rattle.es_tree.specs.ReservedWords.{is_reserved}
use Rattle.es_grammar.specs.declared.places.Context.{Context}
use Rattle.es_grammar.specs.declared.places.Stop.{Stop}
use Rattle.es_grammar.specs.Reading.{Bytes, spelled}
use Rattle.es_reader.specs.declared.ParseFault.{ParseFault}
use Rattle.es_reader.specs.declared.ParseFault.TheVariants.{Syntax, NoMemory}

-- what a function of the parser answers where this is read, unless memory runs out
abbrev pub Reads : {A : Type 0} → Option A → Result A ParseFault → Type 0
Reads read (Ok x) = read ≡ Some x
Reads read (Err Syntax) = read ≡ None
Reads read (Err NoMemory) = Unit {0}

infixl 10 ◌>>=◌
abbrev pub ◌>>=◌ : {A B : Type 0} → Option A → (A → Option B) → Option B
(Some x) >>= f = f x
None >>= f = None

-- the first of two that is there
abbrev pub or_else : {A : Type 0} → Option A → Option A → Option A
or_else (Some x) y = Some x
or_else None y = y

-- a part of the tree from a place on, and where it ends
abbrev pub Reader : Type 0 → Type 0
Reader X = ℕ → Option (X × ℕ)

-- the same where it matters in what it ends
abbrev pub Ended : Type 0 → Type 0
Ended X = ℕ → Option (X × Stop)

abbrev pub answer : Result Token LexFault → Option Token
answer (Ok token) = Some token
answer (Err fault) = None

-- the token at a place
unfoldable pub token : Bytes → Goal → ℕ → Option Token
token text goal p = answer (token_at text p goal)

abbrev pub is_punctuator : TokenKind → Bool
is_punctuator kind.Punctuator = true
is_punctuator _ = false

abbrev pub is_id_name : TokenKind → Bool
is_id_name kind.IdName = true
is_id_name _ = false

-- a punctuator that is spelled so
unfoldable pub is_mark : Bytes → List ℕ → Token → Bool
is_mark text mark t = is_punctuator t.kind && bytes_eq (spelled text t) mark

-- one of some punctuators
unfoldable pub is_one_mark : Bytes → List (List ℕ) → Token → Bool
is_one_mark text marks t = is_punctuator t.kind && list_any (bytes_eq (spelled text t)) marks

-- a word of the grammar, written without escapes
unfoldable pub is_word : Bytes → List ℕ → Token → Bool
is_word text word t = is_id_name t.kind && bytes_eq (spelled text t) word

-- one of some words
unfoldable pub is_one_word : Bytes → List (List ℕ) → Token → Bool
is_one_word text words t = is_id_name t.kind && list_any (bytes_eq (spelled text t)) words

-- a Name: no reserved word
unfoldable pub is_name : Bytes → Context → Token → Bool
is_name text c t = is_id_name t.kind && not (is_reserved (name_of (spelled text t)) c.goal)

-- the token, if it is so
abbrev pub take_if : (Token → Bool) → Token → Option Token
take_if test t = if test t then Some t else None

unfoldable pub mark : Bytes → Goal → List ℕ → ℕ → Option Token
mark text goal m p = token text goal p >>= take_if (is_mark text m)

unfoldable pub word : Bytes → Goal → List ℕ → ℕ → Option Token
word text goal w p = token text goal p >>= take_if (is_word text w)

unfoldable pub name : Bytes → Goal → Context → ℕ → Option Token
name text goal c p = token text goal p >>= take_if (is_name text c)
