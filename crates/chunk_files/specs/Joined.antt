-- Texts put together with something between each two.
use Rattle.std.specs.Prelude.{ℕ, List, [], ◌∷◌, ◌++◌}

-- the texts, each with the separator before it
abbrev pub each_behind : List ℕ → List (List ℕ) → List ℕ
each_behind separator [] = []
each_behind separator (text ∷ texts) = separator ++ text ++ each_behind separator texts

-- the texts, with the separator between each two
abbrev pub joined : List ℕ → List (List ℕ) → List ℕ
joined separator [] = []
joined separator (text ∷ texts) = text ++ each_behind separator texts
