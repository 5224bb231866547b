-- What the lexer of `json` makes of numbers and literals.
use Rattle.std.proofs.Common.{◌≡◌, ◌≢◌, ℕ, zero, suc, ◌+◌, ◌-◌, ◌≤◌, Bool, true, false, cond, ◌&&◌, ◌||◌, ◌==◌, List, [], ◌∷◌, ◌++◌, length, take, drop, Option, Some, None, option_and_then, ◌⊎◌, inl, inr, refl, sym, ap, subst, ◌∙◌, arith}
use Rattle.std.proofs.lemmas.Bool.{true≢false, false≢true, eqb-true, leb-true, ne_eqb, and_parts, or_cases, cases_Bool}
use Rattle.std.proofs.lemmas.List.{take-append-drop}
use Rattle.std.proofs.lemmas.Slice.Eq.{bytes_eq-Decides}
use Rattle.std.specs.List.{prefix_len}
use Rattle.std.specs.Str.{bytes_eq}
use Rattle.std.specs.Char.{is_ascii_digit}
use Rattle.json.specs.Ascii.{null_text, true_text, false_text}
use Rattle.json.specs.Token as tokens
use Rattle.json.specs.Token.{Token}
use Rattle.json.specs.Word.{is_operator, is_space, head, ends_word, after_digits, after_minus, after_sign, after_whole, after_fraction, after_exponent, after_number, number_before, literal, word}
use Rattle.json.specs.Lex.{token, quote, backslash, operator, space, other, class, lex, lex_byte, between, in_word}
use Rattle.json.proofs.Printed.Numbers.{in_word-ended}
use Rattle.pkg_manifest.specs.Characters.{ByteAt, WordAt}
use Rattle.pkg_manifest.specs.Numbers as number
use Rattle.pkg_manifest.specs.Numbers.{DigitsAt, last_digit, digit, MinusAt, no_minus, minus, WholeAt, digits, FractionAt, no_fraction, fraction, SignAt, no_sign, sign, ExponentAt, no_exponent, exponent, NumberAt}
use Rattle.pkg_manifest.proofs.Lexing.{cond_some, and_then_some}

abbrev pub Ended : List ℕ → Type 0
Ended q = ends_word q ≡ true

-- ---- bytes of words

pub word_byte : (x : ℕ) → x ≢ 34 → x ≢ 92 → is_operator x ≡ false → is_space x ≡ false → class x ≡ other
word_byte x q b o s = λ i. cond (ne_eqb x 34 q i) quote (cond (ne_eqb x 92 b i) backslash (cond (o i) operator (cond (s i) space other)))

digit_range : (d : ℕ) → is_ascii_digit d ≡ true → (48 ≤ d) × (d ≤ 57)
digit_range d h = let b = and_parts _ _ h in (leb-true 48 d b.0, leb-true d 57 b.1)

not_op : (d : ℕ) → 48 ≤ d → d ≤ 57 → is_operator d ≡ false
not_op d l u = λ i. ne_eqb d 123 (λ e. omega arith) i || ne_eqb d 125 (λ e. omega arith) i || ne_eqb d 91 (λ e. omega arith) i || ne_eqb d 93 (λ e. omega arith) i || ne_eqb d 58 (λ e. omega arith) i || ne_eqb d 44 (λ e. omega arith) i

not_space : (d : ℕ) → 48 ≤ d → d ≤ 57 → is_space d ≡ false
not_space d l u = λ i. ne_eqb d 32 (λ e. omega arith) i || ne_eqb d 9 (λ e. omega arith) i || ne_eqb d 10 (λ e. omega arith) i || ne_eqb d 13 (λ e. omega arith) i

digit_class : (d : ℕ) → is_ascii_digit d ≡ true → class d ≡ other
digit_class d h = let r = digit_range d h in word_byte d (λ e. omega arith) (λ e. omega arith) (not_op d r.0 r.1) (not_space d r.0 r.1)

byte_passed : (c : ℕ) (p q : List ℕ) → ByteAt c p q → class c ≡ other → lex in_word p ≡ lex in_word q
unfolding lex
byte_passed c p q e k = ap (lex in_word) e ∙ ap (λ z. lex_byte in_word z c q (λ m. lex m q)) k

pub first_word : (c : ℕ) (p q : List ℕ) → ByteAt c p q → class c ≡ other → lex between p ≡ token (word p) ∷ lex in_word p
unfolding lex
first_word c p q e k = ap (lex between) e ∙ ap (λ z. lex_byte between z c q (λ m. lex m q)) k ∙ ap (λ z. token (word z) ∷ lex in_word q) (sym e) ∙ ap (λ z. token (word p) ∷ z) (sym (byte_passed c p q e k))

-- ---- a number is passed

digits_passed : (p q : List ℕ) → DigitsAt p q → lex in_word p ≡ lex in_word q
digits_passed p q (last_digit d e h) = byte_passed d p q e (digit_class d h)
digits_passed p q (digit {a = a} d e h rest) = byte_passed d p a e (digit_class d h) ∙ digits_passed a q rest

minus_passed : (p q : List ℕ) → MinusAt p q → lex in_word p ≡ lex in_word q
minus_passed p q no_minus = refl
minus_passed p q (minus e) = byte_passed 45 p q e refl

whole_passed : (p q : List ℕ) → WholeAt p q → lex in_word p ≡ lex in_word q
whole_passed p q (number.zero e) = byte_passed 48 p q e refl
whole_passed p q (digits d e no_zero rest) = digits_passed p q rest

fraction_passed : (p q : List ℕ) → FractionAt p q → lex in_word p ≡ lex in_word q
fraction_passed p q no_fraction = refl
fraction_passed p q (fraction {a = a} e rest) = byte_passed 46 p a e refl ∙ digits_passed a q rest

sign_passed : (p q : List ℕ) → SignAt p q → lex in_word p ≡ lex in_word q
sign_passed p q no_sign = refl
sign_passed p q (sign c e (inl k)) = byte_passed c p q e (ap class k)
sign_passed p q (sign c e (inr k)) = byte_passed c p q e (ap class k)

exponent_passed : (p q : List ℕ) → ExponentAt p q → lex in_word p ≡ lex in_word q
exponent_passed p q no_exponent = refl
exponent_passed p q (exponent {a = a} {b = b} c e (inl k) s rest) = byte_passed c p a e (ap class k) ∙ sign_passed a b s ∙ digits_passed b q rest
exponent_passed p q (exponent {a = a} {b = b} c e (inr k) s rest) = byte_passed c p a e (ap class k) ∙ sign_passed a b s ∙ digits_passed b q rest

number_passed : (p q : List ℕ) → NumberAt p q → lex in_word p ≡ lex in_word q
number_passed p q (number.number {a = a} {b = b} {c = c} m w f x) = minus_passed p a m ∙ whole_passed a b w ∙ fraction_passed b c f ∙ exponent_passed c q x

-- ---- a number of the grammar is read

-- no digit, point, `e` or `E` stands there
record Quiet (x : ℕ) : Type 0 where
  digit : is_ascii_digit x ≡ false
  point : (x == 46) ≡ false
  exponent : ((x == 101) || (x == 69)) ≡ false

ended_quiet : (x : ℕ) → (is_operator x || is_space x) ≡ true → Quiet x
ended_quiet x h = elim (or_cases _ _ h) [
  | inl o ↦ elim (or_cases _ _ o) [
    | inr e ↦ subst Quiet (sym (eqb-true x 44 e)) (record { digit = refl; point = refl; exponent = refl })
    | inl o2 ↦ elim (or_cases _ _ o2) [
      | inr e ↦ subst Quiet (sym (eqb-true x 58 e)) (record { digit = refl; point = refl; exponent = refl })
      | inl o3 ↦ elim (or_cases _ _ o3) [
        | inr e ↦ subst Quiet (sym (eqb-true x 93 e)) (record { digit = refl; point = refl; exponent = refl })
        | inl o4 ↦ elim (or_cases _ _ o4) [
          | inr e ↦ subst Quiet (sym (eqb-true x 91 e)) (record { digit = refl; point = refl; exponent = refl })
          | inl o5 ↦ elim (or_cases _ _ o5) [
            | inr e ↦ subst Quiet (sym (eqb-true x 125 e)) (record { digit = refl; point = refl; exponent = refl })
            | inl e ↦ subst Quiet (sym (eqb-true x 123 e)) (record { digit = refl; point = refl; exponent = refl })
          ]
        ]
      ]
    ]
  ]
  | inr s ↦ elim (or_cases _ _ s) [
    | inr e ↦ subst Quiet (sym (eqb-true x 13 e)) (record { digit = refl; point = refl; exponent = refl })
    | inl s2 ↦ elim (or_cases _ _ s2) [
      | inr e ↦ subst Quiet (sym (eqb-true x 10 e)) (record { digit = refl; point = refl; exponent = refl })
      | inl s3 ↦ elim (or_cases _ _ s3) [
        | inr e ↦ subst Quiet (sym (eqb-true x 9 e)) (record { digit = refl; point = refl; exponent = refl })
        | inl e ↦ subst Quiet (sym (eqb-true x 32 e)) (record { digit = refl; point = refl; exponent = refl })
      ]
    ]
  ]
]

no_run : (q : List ℕ) → is_ascii_digit (head q) ≡ false → prefix_len is_ascii_digit q ≡ 0
no_run [] h = refl
no_run (x ∷ xs) h = ap (λ b. cond b (1 + prefix_len is_ascii_digit xs) 0) h

run_of : (d : ℕ) (p a : List ℕ) → ByteAt d p a → is_ascii_digit d ≡ true → prefix_len is_ascii_digit p ≡ 1 + prefix_len is_ascii_digit a
run_of d p a e h = ap (prefix_len is_ascii_digit) e ∙ ap (λ b. cond b (1 + prefix_len is_ascii_digit a) 0) h

digit_run : (p q : List ℕ) → DigitsAt p q → is_ascii_digit (head q) ≡ false → (n : ℕ) × (prefix_len is_ascii_digit p ≡ suc n) × (drop (suc n) p ≡ q)
digit_run p q (last_digit d e h) fails = (0, run_of d p q e h ∙ ap (λ k. 1 + k) (no_run q fails), ap (drop 1) e)
digit_run p q (digit {a = a} d e h rest) fails =
    let r = digit_run a q rest fails in
    let long : 1 + suc r.0 ≡ suc (suc r.0) = omega arith in
    (suc r.0, run_of d p a e h ∙ ap (λ k. 1 + k) r.1 ∙ long, ap (drop (suc (suc r.0))) e ∙ r.2)

digits_read : (p q : List ℕ) → DigitsAt p q → is_ascii_digit (head q) ≡ false → after_digits p ≡ Some q
digits_read p q d fails = let r = digit_run p q d fails in
    ap (λ k. cond (k == 0) None (Some (drop k p))) r.1 ∙ ap (λ t. cond t None (Some (drop (suc r.0) p))) (ne_eqb (suc r.0) 0 (λ e. omega arith)) ∙ ap Some r.2

first_digit : (p q : List ℕ) → DigitsAt p q → (d : ℕ) × (a : List ℕ) × ByteAt d p a × (is_ascii_digit d ≡ true)
first_digit p q (last_digit d e h) = (d, q, e, h)
first_digit p q (digit {a = a} d e h rest) = (d, a, e, h)

no_sign_before : (d : ℕ) → is_ascii_digit d ≡ true → ((d == 45) || (d == 43)) ≡ false
no_sign_before d h = let r = digit_range d h in (λ i. ne_eqb d 45 (λ e. omega arith) i || ne_eqb d 43 (λ e. omega arith) i)

sign_read : (a b q : List ℕ) → SignAt a b → DigitsAt b q → after_sign a ≡ b
sign_read a b q no_sign rest =
    let f = first_digit a q rest in
    ap (λ z. cond ((head z == 45) || (head z == 43)) (drop 1 a) a) f.2 ∙ ap (λ t. cond t (drop 1 a) a) (no_sign_before f.0 f.3)
sign_read a b q (sign c e (inl k)) rest = ap after_sign (e ∙ ap (λ z. z ∷ b) k)
sign_read a b q (sign c e (inr k)) rest = ap after_sign (e ∙ ap (λ z. z ∷ b) k)

quiet_at : (p : List ℕ) (c : ℕ) (a : List ℕ) → ByteAt c p a → is_ascii_digit c ≡ false → is_ascii_digit (head p) ≡ false
quiet_at p c a e h = ap (λ z. is_ascii_digit (head z)) e ∙ h

-- what a part leaves where it is read, and that no digit and no point begins it
record Tail (p : List ℕ) (o : Option (List ℕ)) (q : List ℕ) : Type 0 where
  read : o ≡ Some q
  digit : is_ascii_digit (head p) ≡ false

exponent_read : (p q : List ℕ) → ExponentAt p q → Ended q → Tail p (after_exponent p) q × ((head p == 46) ≡ false)
exponent_read p q no_exponent end =
    let quiet = ended_quiet (head q) end in
    (record { read = ap (λ t. cond t (after_digits (after_sign (drop 1 q))) (Some q)) quiet.exponent; digit = quiet.digit }, quiet.point)
exponent_read p q (exponent {a = a} {b = b} c e (inl k) s rest) end =
    let at : p ≡ 101 ∷ a = e ∙ ap (λ z. z ∷ a) k in (
      record {
        read = ap after_exponent at ∙ ap after_digits (sign_read a b q s rest) ∙ digits_read b q rest (ended_quiet (head q) end).digit;
        digit = quiet_at p 101 a at refl;
      },
      ap (λ z. head z == 46) at,
    )
exponent_read p q (exponent {a = a} {b = b} c e (inr k) s rest) end =
    let at : p ≡ 69 ∷ a = e ∙ ap (λ z. z ∷ a) k in (
      record {
        read = ap after_exponent at ∙ ap after_digits (sign_read a b q s rest) ∙ digits_read b q rest (ended_quiet (head q) end).digit;
        digit = quiet_at p 69 a at refl;
      },
      ap (λ z. head z == 46) at,
    )

fraction_read : (p q : List ℕ) → FractionAt p q → is_ascii_digit (head q) ≡ false → (head q == 46) ≡ false → Tail p (after_fraction p) q
fraction_read p q no_fraction fails point = record { read = ap (λ t. cond t (after_digits (drop 1 q)) (Some q)) point; digit = fails }
fraction_read p q (fraction {a = a} e rest) fails point = record { read = ap after_fraction e ∙ digits_read a q rest fails; digit = quiet_at p 46 a e refl }

whole_read : (p q : List ℕ) → WholeAt p q → is_ascii_digit (head q) ≡ false → after_whole p ≡ Some q
whole_read p q (number.zero e) fails = ap after_whole e
whole_read p q (digits {a = a} d e no_zero rest) fails =
    ap (λ z. cond (head z == 48) (Some (drop 1 p)) (after_digits p)) e ∙ ap (λ t. cond t (Some (drop 1 p)) (after_digits p)) (ne_eqb d 48 no_zero) ∙ digits_read p q rest fails

first_of_whole : (p q : List ℕ) → WholeAt p q → (d : ℕ) × (a : List ℕ) × ByteAt d p a × (is_ascii_digit d ≡ true)
first_of_whole p q (number.zero e) = (48, q, e, refl)
first_of_whole p q (digits d e no_zero rest) = first_digit p q rest

minus_read : (p a b : List ℕ) → MinusAt p a → WholeAt a b → after_minus p ≡ a
minus_read p a b no_minus w =
    let f = first_of_whole p b w in
    let r = digit_range f.0 f.3 in
    ap (λ z. cond (head z == 45) (drop 1 p) p) f.2 ∙ ap (λ t. cond t (drop 1 p) p) (ne_eqb f.0 45 (λ e. omega arith))
minus_read p a b (minus e) w = ap after_minus e

number_read : (p q : List ℕ) → NumberAt p q → Ended q → after_number p ≡ Some q
unfolding after_number
number_read p q (number.number {a = a} {b = b} {c = c} m w f x) end =
    let last = exponent_read c q x end in
    let middle = fraction_read b c f last.0.digit last.1 in
    ap (λ z. option_and_then after_exponent (option_and_then after_fraction (after_whole z))) (minus_read p a b m w)
    ∙ ap (λ z. option_and_then after_exponent (option_and_then after_fraction z)) (whole_read a b w middle.digit)
    ∙ ap (option_and_then after_exponent) middle.read ∙ last.0.read

-- ---- what is read as a number is one of the grammar

run_found : (p : List ℕ) (n : ℕ) → prefix_len is_ascii_digit p ≡ suc n → DigitsAt p (drop (suc n) p)
run_found [] n e = let fails : 0 ≡ suc n = e in absurd (omega arith)
run_found (x ∷ xs) n e = elim (cases_Bool (is_ascii_digit x)) [
  | inr fails ↦ let none : 0 ≡ suc n = sym (ap (λ b. cond b (1 + prefix_len is_ascii_digit xs) 0) fails) ∙ e in absurd (omega arith)
  | inl holds ↦ by_length n (run_found xs) holds (sym (ap (λ b. cond b (1 + prefix_len is_ascii_digit xs) 0) holds) ∙ e)
]
  where
    by_length : (k : ℕ) → ((m : ℕ) → prefix_len is_ascii_digit xs ≡ suc m → DigitsAt xs (drop (suc m) xs)) → is_ascii_digit x ≡ true → 1 + prefix_len is_ascii_digit xs ≡ suc k → DigitsAt (x ∷ xs) (drop (suc k) (x ∷ xs))
    by_length zero more holds f = last_digit x refl holds
    by_length (suc m) more holds f = digit x refl holds (more m (omega arith))

digits_found : (p q : List ℕ) → after_digits p ≡ Some q → DigitsAt p q
digits_found p q e = by (prefix_len is_ascii_digit p) refl e
  where
    by : (n : ℕ) → prefix_len is_ascii_digit p ≡ n → cond (n == 0) None (Some (drop n p)) ≡ Some q → DigitsAt p q
    by zero f h = let none : None ≡ Some q = h in absurd (cc)
    by (suc n) f h =
        let left : Some (drop (suc n) p) ≡ Some q = sym (ap (λ t. cond t None (Some (drop (suc n) p))) (ne_eqb (suc n) 0 (λ e. omega arith))) ∙ h in let same : drop (suc n) p ≡ q = cc in subst (DigitsAt p) same (run_found p n f)

at_byte : (p : List ℕ) (c : ℕ) → (32 == c) ≡ false → (head p == c) ≡ true → p ≡ c ∷ drop 1 p
at_byte [] c fails h = absurd (false≢true (sym fails ∙ h))
at_byte (x ∷ xs) c fails h = ap (λ z. z ∷ xs) (eqb-true x c h)

exponent_found : (p q : List ℕ) → after_exponent p ≡ Some q → ExponentAt p q
exponent_found p q e = elim (cond_some ((head p == 101) || (head p == 69)) _ _ q e) [
  | inr fails ↦ let same : p ≡ q = cc (fails.1) in subst (ExponentAt p) same no_exponent
  | inl holds ↦
      let at : (c : ℕ) × ByteAt c p (drop 1 p) × ((c ≡ 101) ⊎ (c ≡ 69)) =
      elim (or_cases _ _ holds.0) [ inl l ↦ (101, at_byte p 101 refl l, inl refl) | inr r ↦ (69, at_byte p 69 refl r, inr refl) ] in
      let s = signed (drop 1 p) in
      exponent at.0 at.1 at.2 s (digits_found (after_sign (drop 1 p)) q holds.1)
]
  where
    signed : (a : List ℕ) → SignAt a (after_sign a)
    signed a = elim (cases_Bool ((head a == 45) || (head a == 43))) [
      | inr fails ↦ subst (SignAt a) (sym (ap (λ t. cond t (drop 1 a) a) fails)) no_sign
      | inl holds ↦
          let here : SignAt a (drop 1 a) = elim (or_cases _ _ holds) [ inl l ↦ sign 45 (at_byte a 45 refl l) (inl refl) | inr r ↦ sign 43 (at_byte a 43 refl r) (inr refl) ] in
          subst (SignAt a) (sym (ap (λ t. cond t (drop 1 a) a) holds)) here
    ]

fraction_found : (p q : List ℕ) → after_fraction p ≡ Some q → FractionAt p q
fraction_found p q e = elim (cond_some (head p == 46) _ _ q e) [
  | inr fails ↦ let same : p ≡ q = cc (fails.1) in subst (FractionAt p) same no_fraction
  | inl holds ↦ fraction (at_byte p 46 refl holds.0) (digits_found (drop 1 p) q holds.1)
]

whole_found : (p q : List ℕ) → after_whole p ≡ Some q → WholeAt p q
whole_found p q e = elim (cond_some (head p == 48) _ _ q e) [
  | inl holds ↦ let same : drop 1 p ≡ q = cc (holds.1) in number.zero (at_byte p 48 refl holds.0 ∙ ap (λ z. 48 ∷ z) same)
  | inr fails ↦
      let rest = digits_found p q fails.1 in
      let f = first_digit p q rest in
      digits f.0 f.2 (λ z. true≢false (sym (ap (λ t. head t == 48) f.2 ∙ ap (λ t. t == 48) z) ∙ fails.0)) rest
]

minus_found : (p : List ℕ) → MinusAt p (after_minus p)
minus_found p = elim (cases_Bool (head p == 45)) [
  | inr fails ↦ subst (MinusAt p) (sym (ap (λ t. cond t (drop 1 p) p) fails)) no_minus
  | inl holds ↦ subst (MinusAt p) (sym (ap (λ t. cond t (drop 1 p) p) holds)) (minus (at_byte p 45 refl holds))
]

number_found : (p q : List ℕ) → after_number p ≡ Some q → NumberAt p q
unfolding after_number
number_found p q e =
    let x = and_then_some after_exponent _ q e in
    let f = and_then_some after_fraction _ x.0 x.1 in
    number.number (minus_found p) (whole_found (after_minus p) f.0 f.1) (fraction_found f.0 x.0 f.2) (exponent_found x.0 q x.2)

-- ---- literals

ended_literal : (b : Bool) (k : Token) → b ≡ true → cond b k tokens.bad ≡ k
ended_literal true k e = refl
ended_literal false k e = absurd (false≢true e)

pub null_read : (p q : List ℕ) → WordAt null_text p q → Ended q → word p ≡ tokens.null
unfolding word
null_read p q e end = ap word e ∙ ended_literal (ends_word q) tokens.null end

pub true_read : (p q : List ℕ) → WordAt true_text p q → Ended q → word p ≡ tokens.boolean true
unfolding word
true_read p q e end = ap word e ∙ ended_literal (ends_word q) (tokens.boolean true) end

pub false_read : (p q : List ℕ) → WordAt false_text p q → Ended q → word p ≡ tokens.boolean false
unfolding word
false_read p q e end = ap word e ∙ ended_literal (ends_word q) (tokens.boolean false) end

record Literal (name : List ℕ) (k : Token) (p : List ℕ) : Type 0 where
  after : List ℕ
  word : WordAt name p after
  ended : Ended after
  read : literal name k p ≡ k

literal_found : (name : List ℕ) (k : Token) (p : List ℕ) → (literal name k p ≡ tokens.bad) ⊎ Literal name k p
literal_found name k p = elim (cases_Bool (bytes_eq name (take (length name) p) && ends_word (drop (length name) p))) [
  | inr e ↦ inl (ap (λ b. cond b k tokens.bad) e)
  | inl e ↦
      let both = and_parts _ _ e in
      let front : name ≡ take (length name) p = (bytes_eq-Decides name (take (length name) p)).0 both.0 in
      inr (record {
        after = drop (length name) p;
        word = sym (take-append-drop (length name) p) ∙ ap (λ l. l ++ drop (length name) p) (sym front);
        ended = both.1;
        read = ap (λ b. cond b k tokens.bad) e;
      })
]

-- ---- words

-- what stands at the front of a text that begins with no operator, space or quote
pub data WordOf (p : List ℕ) : Type 0 where
  null_word : {q : List ℕ} → WordAt null_text p q → Ended q → word p ≡ tokens.null → WordOf p
  true_word : {q : List ℕ} → WordAt true_text p q → Ended q → word p ≡ tokens.boolean true → WordOf p
  false_word : {q : List ℕ} → WordAt false_text p q → Ended q → word p ≡ tokens.boolean false → WordOf p
  number_word : {q : List ℕ} (t : List ℕ) → NumberAt p q → Ended q → word p ≡ tokens.number t → WordOf p
  bad_word : word p ≡ tokens.bad → WordOf p

number_cases : (p : List ℕ) (o : Option (List ℕ)) → after_number p ≡ o → word p ≡ number_before p o → WordOf p
number_cases p None e w = bad_word w
number_cases p (Some q) e w = elim (cases_Bool (ends_word q)) [
  | inr f ↦ bad_word (w ∙ ap (λ b. cond b (tokens.number (take (length p - length q) p)) tokens.bad) f)
  | inl t ↦ number_word (take (length p - length q) p) (number_found p q e) t (w ∙ ap (λ b. cond b (tokens.number (take (length p - length q) p)) tokens.bad) t)
]

-- which words the first byte leaves
chosen : (b : Bool) (x y : Token) → (b ≡ true → (cond b x y ≡ x)) × (b ≡ false → (cond b x y ≡ y))
chosen true x y = (λ e. refl, λ e. absurd (true≢false e))
chosen false x y = (λ e. absurd (false≢true e), λ e. refl)

pub word_of : (p : List ℕ) → WordOf p
unfolding word
word_of p = elim (cases_Bool (head p == 116)) [
  | inl t ↦
      let is = (chosen (head p == 116) _ _).0 t in
      elim (literal_found true_text (tokens.boolean true) p) [ inl b ↦ bad_word (is ∙ b) | inr l ↦ true_word l.word l.ended (is ∙ l.read) ]
  | inr f ↦
      let at = (chosen (head p == 116) _ _).1 f in
      elim (cases_Bool (head p == 102)) [
        | inl t ↦
            let is = at ∙ (chosen (head p == 102) _ _).0 t in
            elim (literal_found false_text (tokens.boolean false) p) [ inl b ↦ bad_word (is ∙ b) | inr l ↦ false_word l.word l.ended (is ∙ l.read) ]
        | inr g ↦
            let on = at ∙ (chosen (head p == 102) _ _).1 g in
            elim (cases_Bool (head p == 110)) [
              | inl t ↦
                  let is = on ∙ (chosen (head p == 110) _ _).0 t in
                  elim (literal_found null_text tokens.null p) [ inl b ↦ bad_word (is ∙ b) | inr l ↦ null_word l.word l.ended (is ∙ l.read) ]
              | inr h ↦ number_cases p (after_number p) refl (on ∙ (chosen (head p == 110) _ _).1 h)
            ]
      ]
]

-- ---- lexemes

-- the byte that a number begins with
number_first : (p q : List ℕ) → NumberAt p q → (c : ℕ) × (a : List ℕ) × ByteAt c p a × (class c ≡ other) × (c ≤ 57)
number_first p q (number.number {b = b} no_minus w f x) = let d = first_of_whole p b w in (d.0, d.1, d.2, digit_class d.0 d.3, (digit_range d.0 d.3).1)
number_first p q (number.number {a = a} (minus e) w f x) = (45, a, e, refl, omega arith)

below_letters : (c : ℕ) (x y z w : Token) → c ≤ 57 → cond (c == 116) x (cond (c == 102) y (cond (c == 110) z w)) ≡ w
below_letters c x y z w small = λ i. cond (ne_eqb c 116 (λ e. omega arith) i) x (cond (ne_eqb c 102 (λ e. omega arith) i) y (cond (ne_eqb c 110 (λ e. omega arith) i) z w))

number_is : (p q : List ℕ) → NumberAt p q → Ended q → (t : List ℕ) × (word p ≡ tokens.number t)
unfolding word
number_is p q x end =
    let f = number_first p q x in
    let small = f.4 in
    let w = number_before p (after_number p) in
    let first : head p ≡ f.0 = ap head f.2 in
    let s = take (length p - length q) p in (
      s,
      ap (λ c. cond (c == 116) (literal true_text (tokens.boolean true) p) (cond (c == 102) (literal false_text (tokens.boolean false) p) (cond (c == 110) (literal null_text tokens.null p) w))) first
          ∙ below_letters f.0 _ _ _ w small ∙ ap (number_before p) (number_read p q x end) ∙ ap (λ b. cond b (tokens.number s) tokens.bad) end,
    )

pub number_lexed : (p q : List ℕ) → NumberAt p q → Ended q → (t : List ℕ) × (lex between p ≡ token (tokens.number t) ∷ lex between q)
number_lexed p q x end =
    let f = number_first p q x in
    let t = number_is p q x end in
    (t.0, first_word f.0 p f.1 f.2 f.3 ∙ (λ i. token (t.1 i) ∷ (number_passed p q x ∙ in_word-ended q end) i))

three_passed : (a b c : ℕ) (q : List ℕ) → class a ≡ other → class b ≡ other → class c ≡ other → lex in_word (a ∷ b ∷ c ∷ q) ≡ lex in_word q
three_passed a b c q h k l = byte_passed a (a ∷ b ∷ c ∷ q) (b ∷ c ∷ q) refl h ∙ byte_passed b (b ∷ c ∷ q) (c ∷ q) refl k ∙ byte_passed c (c ∷ q) q refl l

pub null_lexed : (p q : List ℕ) → WordAt null_text p q → Ended q → lex between p ≡ token tokens.null ∷ lex between q
null_lexed p q e end =
    let passed : lex in_word p ≡ lex between q = ap (lex in_word) e ∙ byte_passed 110 (110 ∷ 117 ∷ 108 ∷ 108 ∷ q) (117 ∷ 108 ∷ 108 ∷ q) refl refl ∙ three_passed 117 108 108 q refl refl refl ∙ in_word-ended q end in
    first_word 110 p (117 ∷ 108 ∷ 108 ∷ q) e refl ∙ (λ i. token (null_read p q e end i) ∷ passed i)

pub true_lexed : (p q : List ℕ) → WordAt true_text p q → Ended q → lex between p ≡ token (tokens.boolean true) ∷ lex between q
true_lexed p q e end =
    let passed : lex in_word p ≡ lex between q = ap (lex in_word) e ∙ byte_passed 116 (116 ∷ 114 ∷ 117 ∷ 101 ∷ q) (114 ∷ 117 ∷ 101 ∷ q) refl refl ∙ three_passed 114 117 101 q refl refl refl ∙ in_word-ended q end in
    first_word 116 p (114 ∷ 117 ∷ 101 ∷ q) e refl ∙ (λ i. token (true_read p q e end i) ∷ passed i)

pub false_lexed : (p q : List ℕ) → WordAt false_text p q → Ended q → lex between p ≡ token (tokens.boolean false) ∷ lex between q
false_lexed p q e end =
    let passed : lex in_word p ≡ lex between q =
    ap (lex in_word) e ∙ byte_passed 102 (102 ∷ 97 ∷ 108 ∷ 115 ∷ 101 ∷ q) (97 ∷ 108 ∷ 115 ∷ 101 ∷ q) refl refl
    ∙ byte_passed 97 (97 ∷ 108 ∷ 115 ∷ 101 ∷ q) (108 ∷ 115 ∷ 101 ∷ q) refl refl ∙ three_passed 108 115 101 q refl refl refl ∙ in_word-ended q end in
    first_word 102 p (97 ∷ 108 ∷ 115 ∷ 101 ∷ q) e refl ∙ (λ i. token (false_read p q e end i) ∷ passed i)
