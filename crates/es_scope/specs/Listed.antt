-- Lists of what stands at places: all of it, in the order of places.
use Rattle.std.specs.Prelude.{ℕ, ◌<◌, List, AllPairs}
use Rattle.std.specs.List.{AllZip, Contains}

-- the items are those that are at places, in the order of places
pub record AreThose {A : Type 0} (IsAt : ℕ → A → Type 0) (items : List A) : Type 0 where
  pub places : List ℕ
  pub order : AllPairs (λ place other. place < other) places
  pub each : AllZip IsAt places items
  pub all : (place : ℕ) (item : A) → IsAt place item → Contains places place
