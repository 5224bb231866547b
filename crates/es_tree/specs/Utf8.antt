-- The character with which a text of bytes begins: RFC 3629.
use Rattle.std.specs.Prelude.{ℕ, ◌+◌, ◌*◌, ◌%◌, Bool, ◌&&◌, not, nat_lt, nat_le, if◌then◌else◌, List, [], ◌∷◌, slice_index_or}

-- the byte at an index, or 0 behind the end
abbrev pub byte : List ℕ → ℕ → ℕ
byte text i = slice_index_or text i 0

abbrev pub is_tail : ℕ → Bool
is_tail b = nat_le 0x80 b && nat_lt b 0xC0

-- a code point, and how many bytes it has: none where no character stands, be it at the end
abbrev pub Character : Type 0
Character = ℕ × ℕ

abbrev pub no_character : Character
no_character = (0, 0)

abbrev pub when : Bool → Character → Character
when b found = if b then found else no_character

-- a code point beyond those that two bytes hold, and no surrogate
abbrev pub is_of_three : ℕ → Bool
is_of_three code = nat_le 0x800 code && not (nat_le 0xD800 code && nat_lt code 0xE000)

-- a code point beyond those that three bytes hold
abbrev pub is_of_four : ℕ → Bool
is_of_four code = nat_le 0x10000 code && nat_le code 0x10FFFF

abbrev pub of_two : ℕ → ℕ → Character
of_two a b = when (nat_le 0xC2 a && is_tail b) (a % 32 * 64 + b % 64, 2)

abbrev pub of_three : ℕ → ℕ → ℕ → Character
of_three a b c = let code = a % 16 * 4096 + b % 64 * 64 + c % 64 in when (is_tail b && is_tail c && is_of_three code) (code, 3)

abbrev pub of_four : ℕ → ℕ → ℕ → ℕ → Character
of_four a b c d =
    let code = a % 8 * 262144 + b % 64 * 4096 + c % 64 * 64 + d % 64 in
    when (is_tail b && is_tail c && is_tail d && is_of_four code) (code, 4)

unfoldable pub character : List ℕ → Character
character [] = no_character
character (a ∷ rest) =
    if nat_lt a 0x80 then (a, 1)
    else (if nat_lt a 0xE0 then of_two a (byte rest 0)
    else (if nat_lt a 0xF0 then of_three a (byte rest 0) (byte rest 1)
    else (if nat_lt a 0xF8 then of_four a (byte rest 0) (byte rest 1) (byte rest 2) else no_character)))
