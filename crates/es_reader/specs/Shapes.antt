-- What the first token of an operand tells of it.
use Rattle.es_reader.specs.declared.pieces.Shape.{Shape}
use Rattle.es_reader.specs.declared.pieces.Shape.TheVariants.{Signed as signed}
use Rattle.es_reader.specs.declared.pieces.Shape.TheVariants.{Private as private}
use Rattle.es_reader.specs.declared.pieces.Shape.TheVariants.{Plain as plain}
use Rattle.std.specs.Prelude.{Bool, true, false, ◌&&◌, ◌||◌, codes, if◌then◌else◌}
use Rattle.es_tree.specs.declared.tokens.Token.{Token}
use Rattle.es_tree.specs.declared.tokens.TokenKind.{TokenKind}
use Rattle.es_tree.specs.declared.tokens.TokenKind.TheVariants as kind
use Rattle.es_grammar.specs.declared.places.Context.{Context}
use Rattle.es_grammar.specs.Reading.{Bytes}
use Rattle.es_grammar.specs.Operators.{prefix_words, prefix_marks, update_marks}
use Rattle.es_reader.specs.Basics.{is_one_mark, is_one_word, is_word}

-- with a prefix word or sign, a private name, or neither

abbrev pub is_private_kind : TokenKind → Bool
is_private_kind kind.Private = true
is_private_kind _ = false

unfoldable pub is_await : Bytes → Context → Token → Bool
is_await text c t = c.has_await && is_word text (codes "await") t

-- `delete void typeof + - ~ !`
unfoldable pub is_sign : Bytes → Token → Bool
is_sign text t = is_one_word text prefix_words t || is_one_mark text prefix_marks t

-- `++ --`
unfoldable pub is_update : Bytes → Token → Bool
is_update text t = is_one_mark text update_marks t

-- a prefix operator
unfoldable pub begins_prefixed : Bytes → Context → Token → Bool
begins_prefixed text c t = is_sign text t || is_await text c t || is_update text t

unfoldable pub shape_of : Bytes → Context → Token → Shape
shape_of text c t = if is_private_kind t.kind then private else (if is_sign text t || is_await text c t then signed else plain)
