-- Texts put together with something between each two.
use Rattle.std.specs.Prelude.{ℕ, List, [], ◌∷◌, ◌++◌}

-- the texts of these, each with the separator before it
abbrev pub each_behind : {A : Type 0} → List ℕ → (A → List ℕ) → List A → List ℕ
each_behind separator text [] = []
each_behind separator text (item ∷ items) = separator ++ text item ++ each_behind separator text items

-- the texts of these, with the separator between each two
abbrev pub joined : {A : Type 0} → List ℕ → (A → List ℕ) → List A → List ℕ
joined separator text [] = []
joined separator text (item ∷ items) = text item ++ each_behind separator text items

-- the texts of these, one behind the other
abbrev pub all_of : {A : Type 0} → (A → List ℕ) → List A → List ℕ
all_of text [] = []
all_of text (item ∷ items) = text item ++ all_of text items
