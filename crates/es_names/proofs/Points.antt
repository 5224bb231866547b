-- Code points are less than 0x110000.
use Rattle.std.proofs.Common.{◌≡◌, ◌<◌, ◌≤◌, ◌+◌, ◌*◌, ◌%◌, ◌&&◌, ℕ, Bool, true, false, List, [], ◌∷◌, cond, refl, arith}
use Rattle.std.specs.Prelude.{nat_lt, nat_le, ◌==◌, take, drop}
use Rattle.std.specs.Char.{digit_value}
use Rattle.std.proofs.lemmas.Bool.{leb-true, ltb-true}
use Rattle.es_tree.specs.Characters.{is_digit}
use Rattle.es_tree.specs.Utf8.{Character, byte, character, no_character, of_two, of_three, of_four, is_of_four, is_of_three, is_tail, when}
use Rattle.es_tree.specs.Units.{begins, braced_escape, hex_digit, hex_number, plain_escape, run, unicode_escape}

-- one of two that are small
either : (b : Bool) (x y : Character) → x.0 < 0x110000 → y.0 < 0x110000 → (cond b x y).0 < 0x110000
either true x y hx hy = hx
either false x y hx hy = hy

first_of : (a b : Bool) → (a && b) ≡ true → (a ≡ true) × (b ≡ true)
first_of true b e = (refl, e)
first_of false b e = absurd cc

guarded : (b : Bool) (x : Character) → (b ≡ true → x.0 < 0x110000) → (cond b x no_character).0 < 0x110000
guarded true x h = h refl
guarded false x h = omega arith

two : (a b : ℕ) → (of_two a b).0 < 0x110000
two a b = guarded (nat_le 0xC2 a && is_tail b) (a % 32 * 64 + b % 64, 2) (λ _. omega arith)

three : (a b c : ℕ) → (of_three a b c).0 < 0x110000
three a b c = guarded (is_tail b && is_tail c && is_of_three (a % 16 * 4096 + b % 64 * 64 + c % 64)) (a % 16 * 4096 + b % 64 * 64 + c % 64, 3) (λ _. omega arith)

at_most : (t : Bool) (code : ℕ) → (t && is_of_four code) ≡ true → code < 0x110000
at_most t code e =
    let h : code ≤ 0x10FFFF = leb-true code 0x10FFFF (first_of (nat_le 0x10000 code) (nat_le code 0x10FFFF) (first_of t (is_of_four code) e).1).1 in
    omega arith

four : (a b c d : ℕ) → (of_four a b c d).0 < 0x110000
four a b c d =
    let code : ℕ = a % 8 * 262144 + b % 64 * 4096 + c % 64 * 64 + d % 64 in
    guarded (is_tail b && is_tail c && is_tail d && is_of_four code) (code, 4) (λ e. at_most (is_tail b && is_tail c && is_tail d) code e)

small_of : (a b c d : ℕ)
    → (cond (nat_lt a 0x80) (a, 1) (cond (nat_lt a 0xE0) (of_two a b) (cond (nat_lt a 0xF0) (of_three a b c) (cond (nat_lt a 0xF8) (of_four a b c d) no_character)))).0 < 0x110000
small_of a b c d = by_first (nat_lt a 0x80) refl
  where
    by_first : (t : Bool) → nat_lt a 0x80 ≡ t
        → (cond t (a, 1) (cond (nat_lt a 0xE0) (of_two a b) (cond (nat_lt a 0xF0) (of_three a b c) (cond (nat_lt a 0xF8) (of_four a b c d) no_character)))).0 < 0x110000
    by_first true e = let h : a < 0x80 = ltb-true _ _ e in omega arith
    by_first false e = either (nat_lt a 0xE0) _ _ (two a b) (either (nat_lt a 0xF0) _ _ (three a b c) (guarded (nat_lt a 0xF8) _ (λ _. four a b c d)))

pub character_is_small : (text : List ℕ) → (character text).0 < 0x110000
unfolding character
character_is_small [] = omega arith
character_is_small (a ∷ rest) = small_of a (byte rest 0) (byte rest 1) (byte rest 2)

-- the code of a braced escape, where it is one
braced_of : (code digits : ℕ) (ends : Bool) → (cond (nat_lt 0 digits && ends && nat_lt code 0x110000) (code, digits + 4) no_character).0 < 0x110000
braced_of code digits ends =
    guarded (nat_lt 0 digits && ends && nat_lt code 0x110000) (code, digits + 4) (λ e. ltb-true _ _ (first_of (nat_lt 0 digits && ends) _ e).1)

braced : (text : List ℕ) → (braced_escape text).0 < 0x110000
unfolding braced_escape
braced text =
    let digits : ℕ = run hex_digit (drop 3 text) in
    braced_of (hex_number 0 (take digits (drop 3 text))) digits (byte (drop (3 + digits) text) 0 == 0x7D)

digit_is_small : (c : ℕ) → is_digit 16 c ≡ true → digit_value c < 16
digit_is_small c e = ltb-true _ _ (first_of _ _ e).1

digits_of : (a b c d : ℕ)
    → (cond (is_digit 16 a && is_digit 16 b && is_digit 16 c && is_digit 16 d)
    (digit_value a * 4096 + digit_value b * 256 + digit_value c * 16 + digit_value d, 6) no_character).0 < 0x110000
digits_of a b c d = guarded (is_digit 16 a && is_digit 16 b && is_digit 16 c && is_digit 16 d)
    (digit_value a * 4096 + digit_value b * 256 + digit_value c * 16 + digit_value d, 6) (λ e.
    let f : (is_digit 16 a && is_digit 16 b && is_digit 16 c ≡ true) × (is_digit 16 d ≡ true) = first_of _ _ e in
    let g : (is_digit 16 a && is_digit 16 b ≡ true) × (is_digit 16 c ≡ true) = first_of _ _ f.0 in
    let h : (is_digit 16 a ≡ true) × (is_digit 16 b ≡ true) = first_of _ _ g.0 in
    let i : digit_value a < 16 = digit_is_small a h.0 in
    let j : digit_value b < 16 = digit_is_small b h.1 in
    let k : digit_value c < 16 = digit_is_small c g.1 in
    let l : digit_value d < 16 = digit_is_small d f.1 in
    omega arith)

plain : (text : List ℕ) → (plain_escape text).0 < 0x110000
unfolding plain_escape
plain text = digits_of (byte text 2) (byte text 3) (byte text 4) (byte text 5)

pub escape_is_small : (text : List ℕ) → (unicode_escape text).0 < 0x110000
unfolding unicode_escape
escape_is_small text = guarded (begins text 0x5C 0x75) _ (λ e. either (byte text 2 == 0x7B) _ _ (braced text) (plain text))
