-- What the lexer of `json` makes of white space and strings.
use Rattle.std.proofs.Common.{◌≡◌, ◌≢◌, ℕ, Bool, true, false, cond, ◌&&◌, ◌==◌, nat_lt, List, [], ◌∷◌, ◌++◌, Option, Some, None, option_and_then, ◌⊎◌, inl, inr, refl, sym, ap, subst, ◌∙◌}
use Rattle.std.proofs.lemmas.Bool.{false≢true, eqb-true, eqb-false, ne_eqb, and_parts, or_cases, le-ltb, ltb-false}
use Rattle.std.specs.Char.{encode_utf8, is_digit}
use Rattle.json.specs.Text.{Within, plain, after_backslash, after_u, after_high, content, prepend, code_unit, short_escape, is_high_surrogate, is_low_surrogate, surrogate_pair}
use Rattle.json.specs.Word.{is_operator, is_space}
use Rattle.json.specs.Lex.{Lexeme, Mode, quote as quote_class, backslash, operator, space, other, class, lex, lex_byte, between, in_string}
use Rattle.pkg_manifest.specs.Characters.{BlankAt, no_blank, blank, UnitAt, unit, CharsAt, quote, plain as plain_char, short, single, pair}

-- ---- tests

pub cond_some : {A : Type 0} (b : Bool) (x y : Option A) (s : A) → cond b x y ≡ Some s → ((b ≡ true) × (x ≡ Some s)) ⊎ ((b ≡ false) × (y ≡ Some s))
cond_some true x y s e = inl (refl, e)
cond_some false x y s e = inr (refl, e)

pub and_then_some : {A B : Type 0} (f : A → Option B) (o : Option A) (s : B) → option_and_then f o ≡ Some s → (a : A) × (o ≡ Some a) × (f a ≡ Some s)
and_then_some f None s e = absurd (cc)
and_then_some f (Some a) s e = (a, refl, e)

prepend_some : (bytes : List ℕ) (r : Option (List ℕ)) (s : List ℕ) → prepend bytes r ≡ Some s → (t : List ℕ) × (r ≡ Some t) × (bytes ++ t ≡ s)
prepend_some bytes None s e = absurd (cc)
prepend_some bytes (Some t) s e = (t, refl, cc)

-- ---- white space

space_class : (c : ℕ) → is_space c ≡ true → class c ≡ space
space_class c h = elim (or_cases _ _ h) [
  | inr d ↦ ap class (eqb-true c 13 d)
  | inl h2 ↦ elim (or_cases _ _ h2) [
    | inr d ↦ ap class (eqb-true c 10 d)
    | inl h3 ↦ elim (or_cases _ _ h3) [ inr d ↦ ap class (eqb-true c 9 d) | inl d ↦ ap class (eqb-true c 32 d) ]
  ]
]

pub blank_lexed : (p q : List ℕ) → BlankAt p q → lex between p ≡ lex between q
unfolding lex
blank_lexed p q no_blank = refl
blank_lexed p q (blank {a = a} c h e rest) = ap (lex between) e ∙ ap (λ k. lex_byte between k c a (λ m. lex m a)) (space_class c h) ∙ blank_lexed a q rest

-- ---- strings: the lexer passes a byte that is no quote and no backslash

passes : (o s : Bool) (x : ℕ) (xs : List ℕ) (k : Mode → List Lexeme) → lex_byte in_string (cond o operator (cond s space other)) x xs k ≡ k in_string
passes true s x xs k = refl
passes false true x xs k = refl
passes false false x xs k = refl

plain_passed : (x : ℕ) (xs : List ℕ) → (x == 34) ≡ false → (x == 92) ≡ false → lex in_string (x ∷ xs) ≡ lex in_string xs
unfolding lex
plain_passed x xs q b =
    (λ i. lex_byte in_string (cond (q i) quote_class (cond (b i) backslash (cond (is_operator x) operator (cond (is_space x) space other)))) x xs (λ m. lex m xs)) ∙ passes (is_operator x) (is_space x) x xs (λ m. lex m xs)

escape_passed : (x : ℕ) (xs : List ℕ) → lex in_string (92 ∷ x ∷ xs) ≡ lex in_string xs
unfolding lex
escape_passed x xs = refl

not_this : (c x : ℕ) (t : Bool) → (t ≡ true → x ≡ c) → is_digit c 16 ≡ false → is_digit x 16 ≡ true → t ≡ false
not_this c x false e never h = refl
not_this c x true e never h = absurd (false≢true (sym never ∙ ap (λ y. is_digit y 16) (sym (e refl)) ∙ h))

hex_passed : (x : ℕ) (xs : List ℕ) → is_digit x 16 ≡ true → lex in_string (x ∷ xs) ≡ lex in_string xs
hex_passed x xs h = plain_passed x xs (not_this 34 x (x == 34) (eqb-true x 34) refl h) (not_this 92 x (x == 92) (eqb-true x 92) refl h)

some_of : {A : Type 0} (b : Bool) (x u : A) → cond b (Some x) None ≡ Some u → b ≡ true
some_of true x u e = refl
some_of false x u e = absurd (cc)

digits_passed : (a b c d u : ℕ) (xs : List ℕ) → code_unit a b c d ≡ Some u → lex in_string (a ∷ b ∷ c ∷ d ∷ xs) ≡ lex in_string xs
unfolding code_unit
digits_passed a b c d u xs h =
    let p = and_parts (is_digit a 16 && is_digit b 16 && is_digit c 16) (is_digit d 16) (some_of _ _ u h) in
    let q = and_parts (is_digit a 16 && is_digit b 16) (is_digit c 16) p.0 in
    let r = and_parts (is_digit a 16) (is_digit b 16) q.0 in
    hex_passed a (b ∷ c ∷ d ∷ xs) r.0 ∙ hex_passed b (c ∷ d ∷ xs) r.1 ∙ hex_passed c (d ∷ xs) q.1 ∙ hex_passed d xs p.1

unit_passed : (p : List ℕ) (u : ℕ) (q : List ℕ) → UnitAt p u q → lex in_string p ≡ lex in_string q
unit_passed p u q (unit a b c d e h) = ap (lex in_string) e ∙ escape_passed 117 (a ∷ b ∷ c ∷ d ∷ q) ∙ digits_passed a b c d u q h

pub chars_lexed : (p s q : List ℕ) → CharsAt p s q → lex in_string p ≡ lex between q
unfolding lex
chars_lexed p s q (quote e) = ap (lex in_string) e
chars_lexed p s q (plain_char {a = a} {s = t} c e low no_quote no_backslash rest) =
    ap (lex in_string) e ∙ plain_passed c a (ne_eqb c 34 no_quote) (ne_eqb c 92 no_backslash) ∙ chars_lexed a t q rest
chars_lexed p s q (short {a = a} {s = t} x c e h rest) = ap (lex in_string) e ∙ escape_passed x a ∙ chars_lexed a t q rest
chars_lexed p s q (single {a = a} {s = t} u one high low rest) = unit_passed p u a one ∙ chars_lexed a t q rest
chars_lexed p s q (pair {a = a} {b = b} {s = t} u v one high two low rest) = unit_passed p u a one ∙ unit_passed a v b two ∙ chars_lexed b t q rest

-- ---- strings: a string of the grammar is read

read_plain : (c : ℕ) (xs : List ℕ) → (c == 34) ≡ false → (c == 92) ≡ false → nat_lt c 32 ≡ false → content plain (c ∷ xs) ≡ prepend (c ∷ []) (content plain xs)
unfolding content
read_plain c xs q b l = λ i. cond (q i) (Some []) (cond (b i) (content after_backslash xs) (cond (l i) None (prepend (c ∷ []) (content plain xs))))

read_escape : (x c : ℕ) (xs : List ℕ) → (x == 117) ≡ false → short_escape x ≡ Some c → content plain (92 ∷ x ∷ xs) ≡ prepend (c ∷ []) (content plain xs)
unfolding content
read_escape x c xs u h = λ i. cond (u i) (content after_u xs) (option_and_then (λ k. prepend (k ∷ []) (content plain xs)) (h i))

not_u : (x c : ℕ) → short_escape x ≡ Some c → x ≢ 117
unfolding short_escape
not_u x c h e = let none : None ≡ Some c = subst (λ y. short_escape y ≡ Some c) e h in absurd (cc)

read_single : (a b c d u : ℕ) (xs : List ℕ) → code_unit a b c d ≡ Some u → is_high_surrogate u ≡ false → is_low_surrogate u ≡ false
    → content plain (92 ∷ 117 ∷ a ∷ b ∷ c ∷ d ∷ xs) ≡ prepend (encode_utf8 u) (content plain xs)
unfolding content
read_single a b c d u xs h high low =
    ap (option_and_then (λ w. cond (is_high_surrogate w) (content (after_high w) xs) (cond (is_low_surrogate w) None (prepend (encode_utf8 w) (content plain xs))))) h
    ∙ (λ i. cond (high i) (content (after_high u) xs) (cond (low i) None (prepend (encode_utf8 u) (content plain xs))))

read_high : (a b c d u : ℕ) (xs : List ℕ) → code_unit a b c d ≡ Some u → is_high_surrogate u ≡ true → content plain (92 ∷ 117 ∷ a ∷ b ∷ c ∷ d ∷ xs) ≡ content (after_high u) xs
unfolding content
read_high a b c d u xs h high =
    ap (option_and_then (λ w. cond (is_high_surrogate w) (content (after_high w) xs) (cond (is_low_surrogate w) None (prepend (encode_utf8 w) (content plain xs))))) h
    ∙ (λ i. cond (high i) (content (after_high u) xs) (cond (is_low_surrogate u) None (prepend (encode_utf8 u) (content plain xs))))

read_low : (a b c d u v : ℕ) (xs : List ℕ) → code_unit a b c d ≡ Some v → is_low_surrogate v ≡ true → content (after_high u) (92 ∷ 117 ∷ a ∷ b ∷ c ∷ d ∷ xs) ≡ prepend (encode_utf8 (surrogate_pair u v)) (content plain xs)
unfolding content
read_low a b c d u v xs h low =
    ap (option_and_then (λ l. cond (is_low_surrogate l) (prepend (encode_utf8 (surrogate_pair u l)) (content plain xs)) None)) h
    ∙ (λ i. cond (low i) (prepend (encode_utf8 (surrogate_pair u v)) (content plain xs)) None)

pub chars_read : (p s q : List ℕ) → CharsAt p s q → content plain p ≡ Some s
unfolding content
chars_read p s q (quote e) = ap (content plain) e
chars_read p s q (plain_char {a = a} {s = t} c e low no_quote no_backslash rest) =
    ap (content plain) e ∙ read_plain c a (ne_eqb c 34 no_quote) (ne_eqb c 92 no_backslash) (le-ltb c 32 low) ∙ ap (prepend (c ∷ [])) (chars_read a t q rest)
chars_read p s q (short {a = a} {s = t} x c e h rest) = ap (content plain) e ∙ read_escape x c a (ne_eqb x 117 (not_u x c h)) h ∙ ap (prepend (c ∷ [])) (chars_read a t q rest)
chars_read p s q (single {a = a} {s = t} u (unit a1 b1 c1 d1 e h) high low rest) =
    ap (content plain) e ∙ read_single a1 b1 c1 d1 u a h high low ∙ ap (prepend (encode_utf8 u)) (chars_read a t q rest)
chars_read p s q (pair {a = a} {b = b} {s = t} u v (unit a1 b1 c1 d1 e h) high (unit a2 b2 c2 d2 f k) low rest) =
    ap (content plain) e ∙ read_high a1 b1 c1 d1 u a h high ∙ ap (content (after_high u)) f ∙ read_low a2 b2 c2 d2 u v b k low ∙ ap (prepend (encode_utf8 (surrogate_pair u v))) (chars_read b t q rest)

-- ---- strings: what is read is a string of the grammar

-- what stands where the rest of a string is read as s, by what stands before that rest
abbrev Found : Within → List ℕ → List ℕ → Type 0
Found plain p s = (q : List ℕ) × CharsAt p s q
Found after_backslash p s = (q : List ℕ) × CharsAt (92 ∷ p) s q
Found after_u p s = (q : List ℕ) × CharsAt (92 ∷ 117 ∷ p) s q
Found (after_high u) p s = (o : List ℕ) → UnitAt o u p → is_high_surrogate u ≡ true → (q : List ℕ) × CharsAt o s q

found : (w : Within) (p s : List ℕ) → content w p ≡ Some s → Found w p s
unfolding content
found plain [] s e = absurd (cc)
found plain (x ∷ xs) s e = elim (cond_some (x == 34) _ _ s e) [
  | inl y ↦ (xs, subst (λ t. CharsAt (x ∷ xs) t xs) (cc (y.1)) (quote (ap (λ z. z ∷ xs) (eqb-true x 34 y.0))))
  | inr n ↦ elim (cond_some (x == 92) _ _ s n.1) [
    | inl y ↦ let r = found after_backslash xs s y.1 in (r.0, subst (λ z. CharsAt (z ∷ xs) s r.0) (sym (eqb-true x 92 y.0)) r.1)
    | inr m ↦ elim (cond_some (nat_lt x 32) _ _ s m.1) [
      | inl y ↦ absurd (cc (y.1))
      | inr k ↦
          let t = prepend_some (x ∷ []) (content plain xs) s k.1 in
          let r = found plain xs t.0 t.1 in
          (r.0, subst (λ z. CharsAt (x ∷ xs) z r.0) t.2 (plain_char x refl (ltb-false x 32 k.0) (eqb-false x 34 n.0) (eqb-false x 92 m.0) r.1))
    ]
  ]
]
found after_backslash [] s e = absurd (cc)
found after_backslash (x ∷ xs) s e = elim (cond_some (x == 117) _ _ s e) [
  | inl y ↦ let r = found after_u xs s y.1 in (r.0, subst (λ z. CharsAt (92 ∷ z ∷ xs) s r.0) (sym (eqb-true x 117 y.0)) r.1)
  | inr n ↦
      let c = and_then_some _ (short_escape x) s n.1 in
      let t = prepend_some (c.0 ∷ []) (content plain xs) s c.2 in
      let r = found plain xs t.0 t.1 in
      (r.0, subst (λ z. CharsAt (92 ∷ x ∷ xs) z r.0) t.2 (short x c.0 refl c.1 r.1))
]
found after_u [] s e = absurd (cc)
found after_u (a ∷ []) s e = absurd (cc)
found after_u (a ∷ b ∷ []) s e = absurd (cc)
found after_u (a ∷ b ∷ c ∷ []) s e = absurd (cc)
found after_u (a ∷ b ∷ c ∷ d ∷ xs) s e =
    let u = and_then_some _ (code_unit a b c d) s e in
    elim (cond_some (is_high_surrogate u.0) _ _ s u.2) [
      | inl y ↦ found (after_high u.0) xs s y.1 (92 ∷ 117 ∷ a ∷ b ∷ c ∷ d ∷ xs) (unit a b c d refl u.1) y.0
      | inr n ↦ elim (cond_some (is_low_surrogate u.0) _ _ s n.1) [
        | inl y ↦ absurd (cc (y.1))
        | inr m ↦
            let t = prepend_some (encode_utf8 u.0) (content plain xs) s m.1 in
            let r = found plain xs t.0 t.1 in
            (r.0, subst (λ z. CharsAt (92 ∷ 117 ∷ a ∷ b ∷ c ∷ d ∷ xs) z r.0) t.2 (single u.0 (unit a b c d refl u.1) n.0 m.0 r.1))
      ]
    ]
found (after_high h) [] s e = absurd (cc)
found (after_high h) (x ∷ []) s e = absurd (cc)
found (after_high h) (x ∷ y ∷ []) s e = absurd (cc)
found (after_high h) (x ∷ y ∷ a ∷ []) s e = absurd (cc)
found (after_high h) (x ∷ y ∷ a ∷ b ∷ []) s e = absurd (cc)
found (after_high h) (x ∷ y ∷ a ∷ b ∷ c ∷ []) s e = absurd (cc)
found (after_high h) (x ∷ y ∷ a ∷ b ∷ c ∷ d ∷ xs) s e =
    λ o one high.
    elim (cond_some ((x == 92) && (y == 117)) _ _ s e) [
      | inr n ↦ absurd (cc (n.1))
      | inl z ↦
          let bs = and_parts (x == 92) (y == 117) z.0 in
          let v = and_then_some _ (code_unit a b c d) s z.1 in
          elim (cond_some (is_low_surrogate v.0) _ _ s v.2) [
            | inr n ↦ absurd (cc (n.1))
            | inl l ↦
                let t = prepend_some (encode_utf8 (surrogate_pair h v.0)) (content plain xs) s l.1 in
                let r = found plain xs t.0 t.1 in
                let here : x ∷ y ∷ a ∷ b ∷ c ∷ d ∷ xs ≡ 92 ∷ 117 ∷ a ∷ b ∷ c ∷ d ∷ xs = (λ i. eqb-true x 92 bs.0 i ∷ eqb-true y 117 bs.1 i ∷ a ∷ b ∷ c ∷ d ∷ xs) in
                (r.0, subst (λ w. CharsAt o w r.0) t.2 (pair h v.0 one high (unit a b c d here v.1) l.0 r.1))
          ]
    ]

pub chars_found : (p s : List ℕ) → content plain p ≡ Some s → (q : List ℕ) × CharsAt p s q
chars_found p s e = found plain p s e
