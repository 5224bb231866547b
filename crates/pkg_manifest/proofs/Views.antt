-- What the tokens of a text from a place on tell of the text.
use Rattle.std.proofs.Common.{◌≡◌, ◌≢◌, ℕ, Bool, true, false, ◌==◌, List, [], ◌∷◌, Option, Some, None, inl, inr, refl, sym, ap, ◌∙◌}
use Rattle.std.proofs.lemmas.Bool.{false≢true, eqb-true, eqb-false, or_cases, cases_Bool}
use Rattle.json.specs.Ascii.{null_text, true_text, false_text}
use Rattle.json.specs.Text.{content, plain}
use Rattle.json.specs.Token as tokens
use Rattle.json.specs.Token.{Token}
use Rattle.json.specs.Word.{is_operator, is_space, word}
use Rattle.json.specs.Lex.{Lexeme, token, colon, lex, between, in_word, in_string, Place, fresh, after_value, after_comma, after_key, begins_colon, may_begin, may_close, place_token, punctuate}
use Rattle.pkg_manifest.specs.Characters.{ByteAt, WordAt, BlankAt, CharsAt}
use Rattle.pkg_manifest.specs.Numbers.{NumberAt}
use Rattle.pkg_manifest.specs.Grammar.{NameAt, name}
use Rattle.pkg_manifest.proofs.Lexing.{blank_lexed, chars_found}
use Rattle.pkg_manifest.proofs.Words.{word_byte, first_word, WordOf, null_word, true_word, false_word, number_word, bad_word, word_of}
use Rattle.pkg_manifest.proofs.Places.{from, ended, byte, front, quote_lexed, bad_quote_lexed, bad_backslash_lexed, open_bracket_lexed, close_bracket_lexed, open_brace_lexed, close_brace_lexed, comma_lexed, colon_lexed, end_lexed, bad_token, unclosed_array, unclosed_object, stray_comma, stray_colon, array_from, object_from, string_from, number_from, null_from, true_from, false_from, key_from, end_array_from, end_object_from, comma_from, end_from}

-- ---- which byte it is

data Byte (c : ℕ) : Type 0 where
  a_quote : c ≡ 34 → Byte c
  a_backslash : c ≡ 92 → Byte c
  opens_object : c ≡ 123 → Byte c
  closes_object : c ≡ 125 → Byte c
  opens_array : c ≡ 91 → Byte c
  closes_array : c ≡ 93 → Byte c
  a_colon : c ≡ 58 → Byte c
  a_comma : c ≡ 44 → Byte c
  of_word : c ≢ 34 → c ≢ 92 → is_operator c ≡ false → Byte c

byte_of : (c : ℕ) → Byte c
byte_of c = elim (cases_Bool (c == 34)) [
  | inl q ↦ a_quote (eqb-true c 34 q)
  | inr nq ↦ elim (cases_Bool (c == 92)) [
    | inl b ↦ a_backslash (eqb-true c 92 b)
    | inr nb ↦ elim (cases_Bool (is_operator c)) [
      | inr f ↦ of_word (eqb-false c 34 nq) (eqb-false c 92 nb) f
      | inl o ↦ elim (or_cases _ _ o) [
        | inr e ↦ a_comma (eqb-true c 44 e)
        | inl o2 ↦ elim (or_cases _ _ o2) [
          | inr e ↦ a_colon (eqb-true c 58 e)
          | inl o3 ↦ elim (or_cases _ _ o3) [
            | inr e ↦ closes_array (eqb-true c 93 e)
            | inl o4 ↦ elim (or_cases _ _ o4) [
              | inr e ↦ opens_array (eqb-true c 91 e)
              | inl o5 ↦ elim (or_cases _ _ o5) [ inr e ↦ closes_object (eqb-true c 125 e) | inl e ↦ opens_object (eqb-true c 123 e) ]
            ]
          ]
        ]
      ]
    ]
  ]
]

at_this : (c d : ℕ) (a q : List ℕ) → ByteAt c a q → c ≡ d → ByteAt d a q
at_this c d a q e k = e ∙ ap (λ x. x ∷ q) k

-- ---- a colon

colon_here : (p : List ℕ) (c : ℕ) (a q : List ℕ) → BlankAt p a → ByteAt c a q → is_space c ≡ false → begins_colon (lex between p) ≡ true → Byte c → (o : List ℕ) × (r : List ℕ) × BlankAt p o × ByteAt 58 o r
colon_here p c a q b e s h (a_quote k) = absurd (false≢true (sym (with_string (content plain q) refl) ∙ h))
  where
    with_string : (o : Option (List ℕ)) → content plain q ≡ o → begins_colon (lex between p) ≡ false
    with_string None f = ap begins_colon (blank_lexed p a b ∙ bad_quote_lexed a q (at_this c 34 a q e k) f)
    with_string (Some t) f = let r = chars_found q t f in ap begins_colon (blank_lexed p a b ∙ quote_lexed a q t r.0 (at_this c 34 a q e k) r.1)
colon_here p c a q b e s h (a_backslash k) = absurd (false≢true (sym (ap begins_colon (blank_lexed p a b ∙ bad_backslash_lexed a q (at_this c 92 a q e k))) ∙ h))
colon_here p c a q b e s h (opens_object k) = absurd (false≢true (sym (ap begins_colon (blank_lexed p a b ∙ open_brace_lexed a q (at_this c 123 a q e k))) ∙ h))
colon_here p c a q b e s h (closes_object k) = absurd (false≢true (sym (ap begins_colon (blank_lexed p a b ∙ close_brace_lexed a q (at_this c 125 a q e k))) ∙ h))
colon_here p c a q b e s h (opens_array k) = absurd (false≢true (sym (ap begins_colon (blank_lexed p a b ∙ open_bracket_lexed a q (at_this c 91 a q e k))) ∙ h))
colon_here p c a q b e s h (closes_array k) = absurd (false≢true (sym (ap begins_colon (blank_lexed p a b ∙ close_bracket_lexed a q (at_this c 93 a q e k))) ∙ h))
colon_here p c a q b e s h (a_colon k) = (a, q, b, at_this c 58 a q e k)
colon_here p c a q b e s h (a_comma k) = absurd (false≢true (sym (ap begins_colon (blank_lexed p a b ∙ comma_lexed a q (at_this c 44 a q e k))) ∙ h))
colon_here p c a q b e s h (of_word x y z) = absurd (false≢true (sym (ap begins_colon (blank_lexed p a b ∙ first_word c a q e (word_byte c x y z s))) ∙ h))

colon_found : (p : List ℕ) → begins_colon (lex between p) ≡ true → (o : List ℕ) × (r : List ℕ) × BlankAt p o × ByteAt 58 o r
colon_found p h = elim (front p) [
  | ended b ↦ absurd (false≢true (sym (ap begins_colon (blank_lexed p [] b ∙ end_lexed)) ∙ h))
  | byte c a q b e s ↦ colon_here p c a q b e s h (byte_of c)
]

-- ---- where a value or a key may begin

pub data First (place : Place) (p : List ℕ) : Type 0 where
  array : (a q : List ℕ) → BlankAt p a → ByteAt 91 a q → from place p ≡ tokens.begin_array ∷ from fresh q → First place p
  object : (a q : List ℕ) → BlankAt p a → ByteAt 123 a q → from place p ≡ tokens.begin_object ∷ from fresh q → First place p
  end_array : (a q : List ℕ) → BlankAt p a → ByteAt 93 a q → may_close place ≡ true → from place p ≡ tokens.end_array ∷ from after_value q → First place p
  end_object : (a q : List ℕ) → BlankAt p a → ByteAt 125 a q → may_close place ≡ true → from place p ≡ tokens.end_object ∷ from after_value q → First place p
  string : (a c s q : List ℕ) → BlankAt p a → ByteAt 34 a c → CharsAt c s q → from place p ≡ tokens.string s ∷ from after_value q → First place p
  key : (s q : List ℕ) → NameAt p s q → from place p ≡ tokens.key s ∷ from fresh q → First place p
  number : (a t q : List ℕ) → BlankAt p a → NumberAt a q → from place p ≡ tokens.number t ∷ from after_value q → First place p
  null : (a q : List ℕ) → BlankAt p a → WordAt null_text a q → from place p ≡ tokens.null ∷ from after_value q → First place p
  truth : (a q : List ℕ) → BlankAt p a → WordAt true_text a q → from place p ≡ tokens.boolean true ∷ from after_value q → First place p
  falsehood : (a q : List ℕ) → BlankAt p a → WordAt false_text a q → from place p ≡ tokens.boolean false ∷ from after_value q → First place p
  nothing : may_close place ≡ true → from place p ≡ [] → First place p
  faulty : from place p ≡ tokens.bad ∷ [] → First place p

module _ (place : Place) (m : may_begin place ≡ true) (p a : List ℕ) (b : BlankAt p a) where
  spaced : (ls : List Lexeme) → lex between a ≡ ls → from place p ≡ punctuate place ls
  spaced ls e = ap (punctuate place) (blank_lexed p a b ∙ e)

  faulty_lexeme : (ls : List Lexeme) → lex between a ≡ token tokens.bad ∷ ls → First place p
  faulty_lexeme ls e = faulty (spaced _ e ∙ bad_token place ls)

  first_string : (q : List ℕ) → ByteAt 34 a q → (o : Option (List ℕ)) → content plain q ≡ o → First place p
  first_string q e None f = faulty_lexeme (lex in_string q) (bad_quote_lexed a q e f)
  first_string q e (Some s) f =
      let r = chars_found q s f in
      elim (cases_Bool (begins_colon (lex between r.0))) [
        | inr alone ↦ string a q s r.0 b e r.1 (string_from place m p a b q s r.0 e r.1 alone)
        | inl h ↦
            let c = colon_found r.0 h in
            let named = name b e r.1 c.2 c.3 in
            key s c.1 named (key_from place m p s c.1 named)
      ]

  first_of_word : (c : ℕ) (q : List ℕ) → lex between a ≡ token (word a) ∷ lex in_word a → WordOf a → First place p
  first_of_word c q e (null_word {q = r} w end is) = null a r b w (null_from place m p a b r w end)
  first_of_word c q e (true_word {q = r} w end is) = truth a r b w (true_from place m p a b r w end)
  first_of_word c q e (false_word {q = r} w end is) = falsehood a r b w (false_from place m p a b r w end)
  first_of_word c q e (number_word {q = r} t x end is) = let n = number_from place m p a b r x end in number a n.0 r b x n.1
  first_of_word c q e (bad_word is) = faulty_lexeme (lex in_word a) (e ∙ ap (λ t. token t ∷ lex in_word a) is)

  first_byte : (c : ℕ) (q : List ℕ) → ByteAt c a q → is_space c ≡ false → Byte c → First place p
  first_byte c q e s (a_quote k) = first_string q (at_this c 34 a q e k) (content plain q) refl
  first_byte c q e s (a_backslash k) = faulty_lexeme (lex in_word q) (bad_backslash_lexed a q (at_this c 92 a q e k))
  first_byte c q e s (opens_object k) = let f = at_this c 123 a q e k in object a q b f (object_from place m p a b q f)
  first_byte c q e s (closes_object k) =
      let f = at_this c 125 a q e k in
      elim (cases_Bool (may_close place)) [
        | inl t ↦ end_object a q b f t (end_object_from place t p a q b f)
        | inr n ↦ faulty (spaced _ (close_brace_lexed a q f) ∙ unclosed_object place (lex between q) n)
      ]
  first_byte c q e s (opens_array k) = let f = at_this c 91 a q e k in array a q b f (array_from place m p a b q f)
  first_byte c q e s (closes_array k) =
      let f = at_this c 93 a q e k in
      elim (cases_Bool (may_close place)) [
        | inl t ↦ end_array a q b f t (end_array_from place t p a q b f)
        | inr n ↦ faulty (spaced _ (close_bracket_lexed a q f) ∙ unclosed_array place (lex between q) n)
      ]
  first_byte c q e s (a_colon k) = faulty (spaced _ (colon_lexed a q (at_this c 58 a q e k)) ∙ stray_colon place (lex between q) m)
  first_byte c q e s (a_comma k) = faulty (spaced _ (comma_lexed a q (at_this c 44 a q e k)) ∙ stray_comma place (lex between q) m)
  first_byte c q e s (of_word x y z) = first_of_word c q (first_word c a q e (word_byte c x y z s)) (word_of a)

first_at_end : (place : Place) (p : List ℕ) → may_begin place ≡ true → from place p ≡ punctuate place [] → First place p
unfolding punctuate
first_at_end fresh p m e = nothing refl e
first_at_end after_value p m e = absurd (false≢true m)
first_at_end after_comma p m e = faulty e
first_at_end after_key p m e = absurd (false≢true m)

pub first : (place : Place) → may_begin place ≡ true → (p : List ℕ) → First place p
first place m p = elim (front p) [
  | ended b ↦ first_at_end place p m (ap (punctuate place) (blank_lexed p [] b ∙ end_lexed))
  | byte c a q b e s ↦ first_byte place m p a b c q e s (byte_of c)
]

-- ---- behind a value

pub data After (p : List ℕ) : Type 0 where
  array_ends : (a q : List ℕ) → BlankAt p a → ByteAt 93 a q → from after_value p ≡ tokens.end_array ∷ from after_value q → After p
  object_ends : (a q : List ℕ) → BlankAt p a → ByteAt 125 a q → from after_value p ≡ tokens.end_object ∷ from after_value q → After p
  goes_on : (a q : List ℕ) → BlankAt p a → ByteAt 44 a q → from after_value p ≡ from after_comma q → After p
  text_ends : BlankAt p [] → from after_value p ≡ [] → After p
  faulty_after : from after_value p ≡ tokens.bad ∷ [] → After p

no_second_string : (s : List ℕ) (b : Bool) (k : Place → List Token) → place_token after_value (tokens.string s) b k ≡ tokens.bad ∷ []
no_second_string s true k = refl
no_second_string s false k = refl

string_behind : (s : List ℕ) (ls : List Lexeme) → punctuate after_value (token (tokens.string s) ∷ ls) ≡ tokens.bad ∷ []
unfolding punctuate
string_behind s ls = no_second_string s (begins_colon ls) (λ n. punctuate n ls)

array_behind : (ls : List Lexeme) → punctuate after_value (token tokens.begin_array ∷ ls) ≡ tokens.bad ∷ []
unfolding punctuate
array_behind ls = refl

object_behind : (ls : List Lexeme) → punctuate after_value (token tokens.begin_object ∷ ls) ≡ tokens.bad ∷ []
unfolding punctuate
object_behind ls = refl

null_behind : (ls : List Lexeme) → punctuate after_value (token tokens.null ∷ ls) ≡ tokens.bad ∷ []
unfolding punctuate
null_behind ls = refl

boolean_behind : (b : Bool) (ls : List Lexeme) → punctuate after_value (token (tokens.boolean b) ∷ ls) ≡ tokens.bad ∷ []
unfolding punctuate
boolean_behind b ls = refl

number_behind : (t : List ℕ) (ls : List Lexeme) → punctuate after_value (token (tokens.number t) ∷ ls) ≡ tokens.bad ∷ []
unfolding punctuate
number_behind t ls = refl

colon_behind : (ls : List Lexeme) → punctuate after_value (colon ∷ ls) ≡ tokens.bad ∷ []
unfolding punctuate
colon_behind ls = refl

module _ (p a : List ℕ) (b : BlankAt p a) where
  behind : (ls : List Lexeme) → lex between a ≡ ls → from after_value p ≡ punctuate after_value ls
  behind ls e = ap (punctuate after_value) (blank_lexed p a b ∙ e)

  after_string : (q : List ℕ) → ByteAt 34 a q → (o : Option (List ℕ)) → content plain q ≡ o → After p
  after_string q e None f = faulty_after (behind _ (bad_quote_lexed a q e f) ∙ bad_token after_value (lex in_string q))
  after_string q e (Some s) f = let r = chars_found q s f in faulty_after (behind _ (quote_lexed a q s r.0 e r.1) ∙ string_behind s (lex between r.0))

  after_word : lex between a ≡ token (word a) ∷ lex in_word a → WordOf a → After p
  after_word e (null_word w end is) = faulty_after (behind _ (e ∙ ap (λ t. token t ∷ lex in_word a) is) ∙ null_behind (lex in_word a))
  after_word e (true_word w end is) = faulty_after (behind _ (e ∙ ap (λ t. token t ∷ lex in_word a) is) ∙ boolean_behind true (lex in_word a))
  after_word e (false_word w end is) = faulty_after (behind _ (e ∙ ap (λ t. token t ∷ lex in_word a) is) ∙ boolean_behind false (lex in_word a))
  after_word e (number_word t x end is) = faulty_after (behind _ (e ∙ ap (λ k. token k ∷ lex in_word a) is) ∙ number_behind t (lex in_word a))
  after_word e (bad_word is) = faulty_after (behind _ (e ∙ ap (λ k. token k ∷ lex in_word a) is) ∙ bad_token after_value (lex in_word a))

  after_byte : (c : ℕ) (q : List ℕ) → ByteAt c a q → is_space c ≡ false → Byte c → After p
  after_byte c q e s (a_quote k) = after_string q (at_this c 34 a q e k) (content plain q) refl
  after_byte c q e s (a_backslash k) = faulty_after (behind _ (bad_backslash_lexed a q (at_this c 92 a q e k)) ∙ bad_token after_value (lex in_word q))
  after_byte c q e s (opens_object k) = faulty_after (behind _ (open_brace_lexed a q (at_this c 123 a q e k)) ∙ object_behind (lex between q))
  after_byte c q e s (closes_object k) = let f = at_this c 125 a q e k in object_ends a q b f (end_object_from after_value refl p a q b f)
  after_byte c q e s (opens_array k) = faulty_after (behind _ (open_bracket_lexed a q (at_this c 91 a q e k)) ∙ array_behind (lex between q))
  after_byte c q e s (closes_array k) = let f = at_this c 93 a q e k in array_ends a q b f (end_array_from after_value refl p a q b f)
  after_byte c q e s (a_colon k) = faulty_after (behind _ (colon_lexed a q (at_this c 58 a q e k)) ∙ colon_behind (lex between q))
  after_byte c q e s (a_comma k) = let f = at_this c 44 a q e k in goes_on a q b f (comma_from p a q b f)
  after_byte c q e s (of_word x y z) = after_word (first_word c a q e (word_byte c x y z s)) (word_of a)

pub after : (p : List ℕ) → After p
after p = elim (front p) [ ended b ↦ text_ends b (end_from p b) | byte c a q b e s ↦ after_byte p a b c q e s (byte_of c) ]
