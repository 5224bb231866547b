-- Names that are taken, each with the last number that was tried behind it.
use Rattle.std.specs.Prelude.{◌≡◌, ◌↔◌, ℕ, ◌<◌, ◌≤◌, List, [], length, slice_index, slice_index_or}
use Rattle.std.specs.List.{Contains}
use Rattle.pk_types.specs.GivenNames.{numbered_name}

-- the two have the same names
abbrev pub HaveSame : List (List ℕ) → List (List ℕ) → Type 0
HaveSame names others = (name : List ℕ) → Contains names name ↔ Contains others name

-- a name is taken with each number that was tried behind it
pub record IsKept (names : List (List ℕ)) (last : List ℕ) : Type 0 where
  pub each : length last ≡ length names
  pub tried : (place number : ℕ) → place < length names → 0 < number → number ≤ slice_index last place
      → Contains names (numbered_name (slice_index_or names place []) number)

-- the name with its first number with which it isn't taken
pub record IsNext (names : List (List ℕ)) (name : List ℕ) (number : ℕ) (text : List ℕ) : Type 0 where
  pub above : 0 < number
  pub text_is : text ≡ numbered_name name number
  pub free : ¬ Contains names text
  pub first : (fewer : ℕ) → 0 < fewer → fewer < number → Contains names (numbered_name name fewer)
