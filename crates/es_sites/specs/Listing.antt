-- Lists of what stands at the places before one.
use Rattle.std.specs.Prelude.{ℕ, ◌<◌, List, Option, Some, None, ◌++◌, [], ◌∷◌, AllPairs}
use Rattle.std.specs.List.{AllZip, Contains}

-- the items are those of places before this one, in the order of places
pub record AreBefore {A : Type 0} (IsAt : ℕ → A → Type 0) (count : ℕ) (items : List A) : Type 0 where
  pub places : List ℕ
  pub order : AllPairs (λ place other. place < other) places
  pub each : AllZip IsAt places items
  pub below : (place : ℕ) → Contains places place → place < count
  pub all : (place : ℕ) (item : A) → place < count → IsAt place item → Contains places place

-- the list with one more, if there is one
abbrev pub with_one : {A : Type 0} → List A → Option A → List A
with_one items (Some item) = items ++ item ∷ []
with_one items None = items
