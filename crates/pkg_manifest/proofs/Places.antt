-- The tokens of a text from a place on, by what stands there.
use Rattle.std.proofs.Common.{◌≡◌, ℕ, Bool, true, false, List, [], ◌∷◌, None, inl, inr, refl, ap, ◌∙◌}
use Rattle.std.proofs.lemmas.Bool.{false≢true, cases_Bool}
use Rattle.json.specs.Ascii.{null_text, true_text, false_text}
use Rattle.json.specs.Text.{content, plain}
use Rattle.json.specs.Token as tokens
use Rattle.json.specs.Token.{Token}
use Rattle.json.specs.Word.{is_space}
use Rattle.json.specs.Lex.{Lexeme, token, comma, colon, string_token, lex, between, in_word, in_string, Place, fresh, after_value, after_comma, after_key, begins_colon, may_begin, may_close, if_allowed, place_token, punctuate}
use Rattle.pkg_manifest.specs.Characters.{ByteAt, WordAt, BlankAt, no_blank, blank, CharsAt}
use Rattle.pkg_manifest.specs.Numbers.{NumberAt}
use Rattle.pkg_manifest.specs.Grammar.{NameAt, name}
use Rattle.pkg_manifest.proofs.Lexing.{blank_lexed, chars_lexed, chars_read}
use Rattle.pkg_manifest.proofs.Words.{Ended, number_lexed, null_lexed, true_lexed, false_lexed}

-- the tokens from p on
abbrev pub from : Place → List ℕ → List Token
from place p = punctuate place (lex between p)

-- ---- the byte behind white space

pub data Front (p : List ℕ) : Type 0 where
  ended : BlankAt p [] → Front p
  byte : (c : ℕ) (a q : List ℕ) → BlankAt p a → ByteAt c a q → is_space c ≡ false → Front p

pub front : (p : List ℕ) → Front p
front [] = ended no_blank
front (c ∷ q) = elim (cases_Bool (is_space c)) [
  | inr f ↦ byte c (c ∷ q) q no_blank refl f
  | inl t ↦ elim (front q) [
    | ended b ↦ ended (blank c t refl b)
    | byte d a r b e f ↦ byte d a r (blank c t refl b) e f
  ]
]

-- ---- lexemes

pub quote_lexed : (p q s r : List ℕ) → ByteAt 34 p q → CharsAt q s r → lex between p ≡ token (tokens.string s) ∷ lex between r
unfolding lex
quote_lexed p q s r e chars = ap (lex between) e ∙ (λ i. token (string_token (chars_read q s r chars i)) ∷ chars_lexed q s r chars i)

pub bad_quote_lexed : (p q : List ℕ) → ByteAt 34 p q → content plain q ≡ None → lex between p ≡ token tokens.bad ∷ lex in_string q
unfolding lex
bad_quote_lexed p q e none = ap (lex between) e ∙ ap (λ o. token (string_token o) ∷ lex in_string q) none

pub bad_backslash_lexed : (p q : List ℕ) → ByteAt 92 p q → lex between p ≡ token tokens.bad ∷ lex in_word q
unfolding lex
bad_backslash_lexed p q e = ap (lex between) e

pub open_bracket_lexed : (p q : List ℕ) → ByteAt 91 p q → lex between p ≡ token tokens.begin_array ∷ lex between q
unfolding lex
open_bracket_lexed p q e = ap (lex between) e

pub close_bracket_lexed : (p q : List ℕ) → ByteAt 93 p q → lex between p ≡ token tokens.end_array ∷ lex between q
unfolding lex
close_bracket_lexed p q e = ap (lex between) e

pub open_brace_lexed : (p q : List ℕ) → ByteAt 123 p q → lex between p ≡ token tokens.begin_object ∷ lex between q
unfolding lex
open_brace_lexed p q e = ap (lex between) e

pub close_brace_lexed : (p q : List ℕ) → ByteAt 125 p q → lex between p ≡ token tokens.end_object ∷ lex between q
unfolding lex
close_brace_lexed p q e = ap (lex between) e

pub comma_lexed : (p q : List ℕ) → ByteAt 44 p q → lex between p ≡ comma ∷ lex between q
unfolding lex
comma_lexed p q e = ap (lex between) e

pub colon_lexed : (p q : List ℕ) → ByteAt 58 p q → lex between p ≡ colon ∷ lex between q
unfolding lex
colon_lexed p q e = ap (lex between) e

pub end_lexed : lex between [] ≡ []
unfolding lex
end_lexed = refl

-- ---- tokens where a value or a key may begin

-- a token that is a value on its own
abbrev IsLeaf : Token → Type 0
IsLeaf tokens.begin_object = ⊥
IsLeaf tokens.end_object = ⊥
IsLeaf tokens.begin_array = ⊥
IsLeaf tokens.end_array = ⊥
IsLeaf (tokens.key s) = ⊥
IsLeaf (tokens.string s) = ⊥
IsLeaf (tokens.number s) = Unit {0}
IsLeaf (tokens.boolean b) = Unit {0}
IsLeaf tokens.null = Unit {0}
IsLeaf tokens.bad = ⊥

allowed : (b : Bool) (t : Token) (k : Place → List Token) (next : Place) → b ≡ true → if_allowed b t k next ≡ t ∷ k next
allowed b t k next e = ap (λ x. if_allowed x t k next) e

leaf : (place : Place) (t : Token) (ls : List Lexeme) → IsLeaf t → may_begin place ≡ true → punctuate place (token t ∷ ls) ≡ t ∷ punctuate after_value ls
unfolding punctuate
leaf place tokens.begin_object ls l m = absurd l
leaf place tokens.end_object ls l m = absurd l
leaf place tokens.begin_array ls l m = absurd l
leaf place tokens.end_array ls l m = absurd l
leaf place (tokens.key s) ls l m = absurd l
leaf place (tokens.string s) ls l m = absurd l
leaf place (tokens.number s) ls l m = allowed (may_begin place) (tokens.number s) (λ n. punctuate n ls) after_value m
leaf place (tokens.boolean b) ls l m = allowed (may_begin place) (tokens.boolean b) (λ n. punctuate n ls) after_value m
leaf place tokens.null ls l m = allowed (may_begin place) tokens.null (λ n. punctuate n ls) after_value m
leaf place tokens.bad ls l m = absurd l

module _ (place : Place) where
  string_token_from : (s : List ℕ) (ls : List Lexeme) → may_begin place ≡ true → begins_colon ls ≡ false → punctuate place (token (tokens.string s) ∷ ls) ≡ tokens.string s ∷ punctuate after_value ls
  unfolding punctuate
  string_token_from s ls m e = ap (λ b. place_token place (tokens.string s) b (λ n. punctuate n ls)) e ∙ allowed (may_begin place) (tokens.string s) (λ n. punctuate n ls) after_value m

  key_token_from : (s : List ℕ) (ls : List Lexeme) → may_begin place ≡ true → punctuate place (token (tokens.string s) ∷ colon ∷ ls) ≡ tokens.key s ∷ punctuate fresh ls
  unfolding punctuate
  key_token_from s ls m = allowed (may_begin place) (tokens.key s) (λ n. punctuate n (colon ∷ ls)) after_key m

  array_token : (ls : List Lexeme) → may_begin place ≡ true → punctuate place (token tokens.begin_array ∷ ls) ≡ tokens.begin_array ∷ punctuate fresh ls
  unfolding punctuate
  array_token ls m = allowed (may_begin place) tokens.begin_array (λ n. punctuate n ls) fresh m

  object_token : (ls : List Lexeme) → may_begin place ≡ true → punctuate place (token tokens.begin_object ∷ ls) ≡ tokens.begin_object ∷ punctuate fresh ls
  unfolding punctuate
  object_token ls m = allowed (may_begin place) tokens.begin_object (λ n. punctuate n ls) fresh m

  end_array_token : (ls : List Lexeme) → may_close place ≡ true → punctuate place (token tokens.end_array ∷ ls) ≡ tokens.end_array ∷ punctuate after_value ls
  unfolding punctuate
  end_array_token ls m = allowed (may_close place) tokens.end_array (λ n. punctuate n ls) after_value m

  end_object_token : (ls : List Lexeme) → may_close place ≡ true → punctuate place (token tokens.end_object ∷ ls) ≡ tokens.end_object ∷ punctuate after_value ls
  unfolding punctuate
  end_object_token ls m = allowed (may_close place) tokens.end_object (λ n. punctuate n ls) after_value m

  pub bad_token : (ls : List Lexeme) → punctuate place (token tokens.bad ∷ ls) ≡ tokens.bad ∷ []
  unfolding punctuate
  bad_token ls = refl

  pub unclosed_array : (ls : List Lexeme) → may_close place ≡ false → punctuate place (token tokens.end_array ∷ ls) ≡ tokens.bad ∷ []
  unfolding punctuate
  unclosed_array ls m = ap (λ b. if_allowed b tokens.end_array (λ n. punctuate n ls) after_value) m

  pub unclosed_object : (ls : List Lexeme) → may_close place ≡ false → punctuate place (token tokens.end_object ∷ ls) ≡ tokens.bad ∷ []
  unfolding punctuate
  unclosed_object ls m = ap (λ b. if_allowed b tokens.end_object (λ n. punctuate n ls) after_value) m

pub stray_comma : (place : Place) (ls : List Lexeme) → may_begin place ≡ true → punctuate place (comma ∷ ls) ≡ tokens.bad ∷ []
unfolding punctuate
stray_comma fresh ls m = refl
stray_comma after_value ls m = absurd (false≢true m)
stray_comma after_comma ls m = refl
stray_comma after_key ls m = absurd (false≢true m)

pub stray_colon : (place : Place) (ls : List Lexeme) → may_begin place ≡ true → punctuate place (colon ∷ ls) ≡ tokens.bad ∷ []
unfolding punctuate
stray_colon fresh ls m = refl
stray_colon after_value ls m = absurd (false≢true m)
stray_colon after_comma ls m = refl
stray_colon after_key ls m = absurd (false≢true m)

-- ---- from the grammar to tokens

module _ (place : Place) (m : may_begin place ≡ true) (p a : List ℕ) (b : BlankAt p a) where
  spaced : (ls : List Lexeme) → lex between a ≡ ls → from place p ≡ punctuate place ls
  spaced ls e = ap (punctuate place) (blank_lexed p a b ∙ e)

  pub array_from : (q : List ℕ) → ByteAt 91 a q → from place p ≡ tokens.begin_array ∷ from fresh q
  array_from q e = spaced _ (open_bracket_lexed a q e) ∙ array_token place (lex between q) m

  pub object_from : (q : List ℕ) → ByteAt 123 a q → from place p ≡ tokens.begin_object ∷ from fresh q
  object_from q e = spaced _ (open_brace_lexed a q e) ∙ object_token place (lex between q) m

  pub string_from : (c s q : List ℕ) → ByteAt 34 a c → CharsAt c s q → begins_colon (lex between q) ≡ false → from place p ≡ tokens.string s ∷ from after_value q
  string_from c s q e chars alone = spaced _ (quote_lexed a c s q e chars) ∙ string_token_from place s (lex between q) m alone

  pub number_from : (q : List ℕ) → NumberAt a q → Ended q → (t : List ℕ) × (from place p ≡ tokens.number t ∷ from after_value q)
  number_from q x end = let t = number_lexed a q x end in (t.0, spaced _ t.1 ∙ leaf place (tokens.number t.0) (lex between q) tt m)

  pub null_from : (q : List ℕ) → WordAt null_text a q → Ended q → from place p ≡ tokens.null ∷ from after_value q
  null_from q e end = spaced _ (null_lexed a q e end) ∙ leaf place tokens.null (lex between q) tt m

  pub true_from : (q : List ℕ) → WordAt true_text a q → Ended q → from place p ≡ tokens.boolean true ∷ from after_value q
  true_from q e end = spaced _ (true_lexed a q e end) ∙ leaf place (tokens.boolean true) (lex between q) tt m

  pub false_from : (q : List ℕ) → WordAt false_text a q → Ended q → from place p ≡ tokens.boolean false ∷ from after_value q
  false_from q e end = spaced _ (false_lexed a q e end) ∙ leaf place (tokens.boolean false) (lex between q) tt m

pub key_from : (place : Place) → may_begin place ≡ true → (p s q : List ℕ) → NameAt p s q → from place p ≡ tokens.key s ∷ from fresh q
key_from place m p s q (name {a = a} {b = b} {c = c} {d = d} before e chars behind f) =
    ap (punctuate place) (blank_lexed p a before ∙ quote_lexed a b s c e chars ∙ ap (λ ls. token (tokens.string s) ∷ ls) (blank_lexed c d behind ∙ colon_lexed d q f))
    ∙ key_token_from place s (lex between q) m

module _ (place : Place) (m : may_close place ≡ true) (p a q : List ℕ) (b : BlankAt p a) where
  pub end_array_from : ByteAt 93 a q → from place p ≡ tokens.end_array ∷ from after_value q
  end_array_from e = ap (punctuate place) (blank_lexed p a b ∙ close_bracket_lexed a q e) ∙ end_array_token place (lex between q) m

  pub end_object_from : ByteAt 125 a q → from place p ≡ tokens.end_object ∷ from after_value q
  end_object_from e = ap (punctuate place) (blank_lexed p a b ∙ close_brace_lexed a q e) ∙ end_object_token place (lex between q) m

pub comma_from : (p a q : List ℕ) → BlankAt p a → ByteAt 44 a q → from after_value p ≡ from after_comma q
unfolding punctuate
comma_from p a q b e = ap (punctuate after_value) (blank_lexed p a b ∙ comma_lexed a q e)

pub end_from : (p : List ℕ) → BlankAt p [] → from after_value p ≡ []
unfolding punctuate
end_from p b = ap (punctuate after_value) (blank_lexed p [] b ∙ end_lexed)
