-- Numbers that are told of places, gathered as a set from place to place.
use Rattle.std.specs.Prelude.{◌≡◌, ◌<◌, ◌↔◌, ℕ, if◌then◌else◌, List, [], ◌∷◌, ◌++◌, Option, Some, None}
use Rattle.std.specs.List.{Contains}
use Rattle.pk_types.specs.Numbers.{has}

-- a set once a number is told to it, or none
abbrev pub noted : List ℕ → Option ℕ → List ℕ
noted numbers None = numbers
noted numbers (Some number) = if has numbers number then numbers else numbers ++ number ∷ []

-- what is told is the one number of which this holds
abbrev pub IsTold : (ℕ → Type 0) → Option ℕ → Type 0
IsTold Holds told = (number : ℕ) → Holds number ↔ (told ≡ Some number)

-- the numbers are those of the places before the limit
abbrev pub AreGathered : (ℕ → ℕ → Type 0) → ℕ → List ℕ → Type 0
AreGathered IsAt limit numbers = (number : ℕ) → Contains numbers number ↔ ((place : ℕ) × (place < limit) × IsAt place number)
