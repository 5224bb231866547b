-- Words by which the decoding of strings is told.
use Rattle.std.specs.Prelude.{ℕ, List, [], ◌∷◌, Option, Some, None, IfSome, IsTrue, ◌-◌, take, drop, length}
use Rattle.es_tree.specs.Names.{Meaning, all_encoded, is_high_surrogate, joined, points_from, string_meaning}
use Rattle.es_strings.specs.declared.units.Meaning.{Meaning as Unit}

abbrev pub points : Option ℕ → List ℕ
points None = []
points (Some code) = code ∷ []

-- what a unit says
abbrev pub meaning : Unit → Meaning
meaning unit = (points unit.code, unit.size)

-- the value of these code points
abbrev pub value_of : List ℕ → List ℕ
value_of codes = all_encoded (joined codes)

abbrev pub points_of : List ℕ → List ℕ
points_of text = points_from string_meaning 0 text

-- what waits is a high surrogate
abbrev pub IsHigh : Option ℕ → Type 0
IsHigh waits = IfSome waits (λ code. IsTrue (is_high_surrogate code))

-- what stands between the quotes of a spelling
abbrev pub inner : List ℕ → List ℕ
inner spelling = take (length spelling - 2) (drop 1 spelling)
