-- Numbers, each once.
use Rattle.std.specs.Prelude.{ℕ, List, [], ◌∷◌, ◌==◌, not, filter}

-- each of the numbers once, where it first comes
abbrev pub first_places : List ℕ → List ℕ
first_places [] = []
first_places (number ∷ numbers) = number ∷ filter (λ other. not (other == number)) (first_places numbers)
