-- What a JSON value is as the value of a setting, or None where it is none of that kind.
use Rattle.std.specs.Prelude.{ℕ, ◌^◌, ◌&&◌, ◌||◌, ◌==◌, ℤ, pos, negsuc, List, length, Bool, true, false, not, nat_lt, nat_le, int_le, slice_index, codes, Option, Some, None, option_and_then, if◌then◌else◌}
use Rattle.std.specs.List.{list_all}
use Rattle.std.specs.Str.{bytes_eq}
use Rattle.pk_types.specs.declared.settings.Which.{Which}
use Rattle.pk_types.specs.declared.settings.Which.TheVariants.{Async, Initial, All}
use Rattle.serde_json.specs.Data.{Data}
use Rattle.serde_json.specs.Find.{as_str, as_number, as_u64, as_i64}

abbrev pub if_32_bits : ℕ → Option ℕ
if_32_bits n = if nat_lt n (2 ^ 32) then Some n else None

-- An integer of 32 bits, written without fraction and exponent.
abbrev pub number_of : Data → Option ℕ
number_of d = option_and_then if_32_bits (option_and_then as_u64 (as_number d))

abbrev pub is_between : ℕ → ℕ → Option ℕ → Bool
is_between least most None = false
is_between least most (Some n) = nat_le least n && nat_le n most

abbrev pub if_priority : ℤ → Option ℤ
if_priority z = if int_le (negsuc 999) z && int_le z (pos 1000) then Some z else None

abbrev pub priority_of : Data → Option ℤ
priority_of d = option_and_then if_priority (option_and_then as_i64 (as_number d))

abbrev pub ids_of : List ℕ → Option Bool
ids_of s = if bytes_eq s (codes "natural") then Some false else (if bytes_eq s (codes "hashed") then Some true else None)

-- whether numbers are taken from hashes
abbrev pub hashed_of : Data → Option Bool
hashed_of d = option_and_then ids_of (as_str d)

abbrev pub which_named : List ℕ → Option Which
which_named s = if bytes_eq s (codes "async") then Some Async else (if bytes_eq s (codes "initial") then Some Initial else (if bytes_eq s (codes "all") then Some All else None))

abbrev pub which_of : Data → Option Which
which_of d = option_and_then which_named (as_str d)

-- no control character, and none of / \ " *
abbrev pub is_segment_byte : ℕ → Bool
is_segment_byte b = nat_le 32 b && not (b == 127) && not (b == 47) && not (b == 92) && not (b == 34) && not (b == 42)

abbrev pub is_segment : List ℕ → Bool
is_segment s = not (length s == 0) && not (bytes_eq s (codes ".")) && not (bytes_eq s (codes "..")) && list_all is_segment_byte s

abbrev pub if_segment : List ℕ → Option (List ℕ)
if_segment s = if is_segment s then Some s else None

abbrev pub segment_of : Data → Option (List ℕ)
segment_of d = option_and_then if_segment (as_str d)

abbrev pub is_letter : ℕ → Bool
is_letter b = (nat_le 65 b && nat_le b 90) || (nat_le 97 b && nat_le b 122)

-- a letter, a digit, `_` or `-`
abbrev pub is_name_byte : ℕ → Bool
is_name_byte b = is_letter b || (nat_le 48 b && nat_le b 57) || (b == 95) || (b == 45)

-- a letter, and at most 63 letters, digits, `_` and `-` behind it
abbrev pub is_entry_name : List ℕ → Bool
is_entry_name s = not (length s == 0) && nat_le (length s) 64 && is_letter (slice_index s 0) && list_all is_name_byte s
