-- What a pass over places gives: a list of what is found at places, and the first place that passes a test.
use Rattle.std.specs.Prelude.{◌≡◌, ◌<◌, ℕ, zero, suc, ◌++◌, Bool, true, false, List, [], Option, Some, None, option_to_list}

-- what is found at the places before the limit
unfoldable pub those : {A : Type 0} → (ℕ → Option A) → ℕ → List A
those found_at zero = []
those found_at (suc place) = those found_at place ++ option_to_list (found_at place)

-- the first place before the limit that passes
pub data IsFirstOf (passes : ℕ → Bool) (limit : ℕ) : Option ℕ → Type 0 where
  none : ((place : ℕ) → place < limit → passes place ≡ false) → IsFirstOf passes limit None
  some : (place : ℕ) → place < limit → passes place ≡ true → ((other : ℕ) → other < place → passes other ≡ false) → IsFirstOf passes limit (Some place)
