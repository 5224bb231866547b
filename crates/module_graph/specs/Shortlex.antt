-- Lists of numbers, the shorter ones first, and those of one length by the first difference.
use Rattle.std.specs.Prelude.{◌≡◌, ℕ, ◌<◌, List, [], ◌∷◌, length, ◌⊎◌}

-- smaller at the first difference
abbrev pub IsSmaller : List ℕ → List ℕ → Type 0
IsSmaller [] ys = ⊥
IsSmaller (x ∷ xs) [] = ⊥
IsSmaller (x ∷ xs) (y ∷ ys) = (x < y) ⊎ ((x ≡ y) × IsSmaller xs ys)

-- shorter, or equally long and smaller at the first difference
abbrev pub ComesBefore : List ℕ → List ℕ → Type 0
ComesBefore xs ys = (length xs < length ys) ⊎ ((length xs ≡ length ys) × IsSmaller xs ys)

abbrev pub IsAtMost : List ℕ → List ℕ → Type 0
IsAtMost xs ys = (xs ≡ ys) ⊎ ComesBefore xs ys
