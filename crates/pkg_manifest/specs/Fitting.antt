-- Patterns over any elements: a part of a pattern is any run of elements, or one that takes elements from the front.
use Rattle.std.specs.Prelude.{List, [], ◌∷◌, Option, Some, None, Bool, true, false, ◌||◌}

pub data Part (A : Type 0) : Type 0 where
  many : Part A
  one : A → Part A

-- the test holds of what is left behind some run
abbrev pub some_rest : {X : Type 0} → (List X → Bool) → List X → Bool
some_rest test [] = test []
some_rest test (x ∷ s) = test (x ∷ s) || some_rest test s

abbrev pub none_left : {X : Type 0} → List X → Bool
none_left [] = true
none_left (x ∷ s) = false

abbrev pub if_taken : {X : Type 0} → (List X → Bool) → Option (List X) → Bool
if_taken test None = false
if_taken test (Some s) = test s

module _ {A X : Type 0} (step : A → List X → Option (List X)) where
  -- the whole list fits the pattern
  abbrev pub fits : List (Part A) → List X → Bool
  fits [] s = none_left s
  fits (many ∷ p) s = some_rest (fits p) s
  fits (one a ∷ p) s = if_taken (fits p) (step a s)
