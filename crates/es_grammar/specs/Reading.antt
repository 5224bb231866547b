-- Tokens of a text, each at a place and a goal of the lexical grammar. Where a token ends the next one is looked for.
use Rattle.std.specs.Prelude.{◌≡◌, ℕ, true, false, List, slice_range, Ok}
use Rattle.std.specs.List.{list_any}
use Rattle.std.specs.Str.{bytes_eq}
use Rattle.es_tree.specs.declared.tokens.Token.{Token}
use Rattle.es_tree.specs.declared.tokens.TokenKind.{TokenKind}
use Rattle.es_tree.specs.declared.tokens.TokenKind.TheVariants.{IdName, Punctuator}
use Rattle.es_tree.specs.declared.tokens.Goal.{Goal}
use Rattle.es_tree.specs.Lexical.{token_at}
use Rattle.es_tree.specs.Names.{name_of}
use Rattle.es_tree.specs.ReservedWords.{is_reserved}
use Rattle.es_grammar.specs.declared.places.Context.{Context}

abbrev pub Bytes : Type 0
Bytes = List ℕ

-- how a token is spelled
abbrev pub spelled : Bytes → Token → List ℕ
spelled text token = slice_range text token.start token.end

-- this token stands at a place
abbrev pub IsAt : Bytes → Goal → ℕ → Token → Type 0
IsAt text goal at token = token_at text at goal ≡ Ok token

-- a token of a kind
pub record KindAt (text : Bytes) (goal : Goal) (kind : TokenKind) (at : ℕ) (token : Token) : Type 0 where
  pub read : IsAt text goal at token
  pub kind_is : token.kind ≡ kind

-- a punctuator
pub record MarkAt (text : Bytes) (goal : Goal) (mark : List ℕ) (at : ℕ) (token : Token) : Type 0 where
  pub is : KindAt text goal Punctuator at token
  pub spelled_as : spelled text token ≡ mark

-- one of some punctuators
pub record OneOfMarksAt (text : Bytes) (goal : Goal) (marks : List (List ℕ)) (at : ℕ) (token : Token) : Type 0 where
  pub is : KindAt text goal Punctuator at token
  pub among : list_any (bytes_eq (spelled text token)) marks ≡ true

-- a word of the grammar, which is written without escapes
pub record WordAt (text : Bytes) (goal : Goal) (word : List ℕ) (at : ℕ) (token : Token) : Type 0 where
  pub is : KindAt text goal IdName at token
  pub spelled_as : spelled text token ≡ word

-- one of some words
pub record OneOfWordsAt (text : Bytes) (goal : Goal) (words : List (List ℕ)) (at : ℕ) (token : Token) : Type 0 where
  pub is : KindAt text goal IdName at token
  pub among : list_any (bytes_eq (spelled text token)) words ≡ true

-- an Identifier: an IdentifierName that is no ReservedWord
pub record NameAt (text : Bytes) (goal : Goal) (c : Context) (at : ℕ) (token : Token) : Type 0 where
  pub is : KindAt text goal IdName at token
  pub free : is_reserved (name_of (spelled text token)) c.goal ≡ false

-- no line terminator stands before it
abbrev pub IsOnLine : Token → Type 0
IsOnLine token = token.newline ≡ false
