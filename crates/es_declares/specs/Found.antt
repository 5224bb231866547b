-- What is found at a place, of what may stand there.
use Rattle.std.specs.Prelude.{ℕ, Option, Some, None}

-- such an item stands at the place, or none does
pub data IsItemAt {A : Type 0} (IsAt : ℕ → A → Type 0) (place : ℕ) : Option A → Type 0 where
  none : ((item : A) → ¬ IsAt place item) → IsItemAt IsAt place None
  some : (item : A) → IsAt place item → IsItemAt IsAt place (Some item)
