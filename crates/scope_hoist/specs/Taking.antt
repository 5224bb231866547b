-- How the set of a root is taken. Only private clauses cite this.
use Rattle.std.specs.Prelude.{◌≡◌, ◌≢◌, ◌⊎◌, ◌<◌, ℕ, Bool, false, List, [], ◌∷◌, ◌++◌, length, slice_index, slice_index_or, slice_set}
use Rattle.std.specs.List.{All, Contains}
use Rattle.scope_hoist.specs.declared.marks.Marks.{Marks}
use Rattle.scope_hoist.specs.Standing.{Asks, AreTogether, IsHeld, IsFree}

-- a held module is taken into the set of the root, or stays held
pub data Collects (homes : List (List ℕ)) (root member : ℕ) (old new : Marks) (roots now rest more : List ℕ) : Type 0 where
  passes : ¬ IsHeld old member → new ≡ old → now ≡ roots → more ≡ rest → Collects homes root member old new roots now rest more
  takes : IsHeld old member → AreTogether homes member root → new.held.items ≡ slice_set old.held.items member false
      → new.witness.items ≡ old.witness.items → new.list.items ≡ old.list.items → now ≡ slice_set roots member root → more ≡ rest
      → Collects homes root member old new roots now rest more
  keeps : IsHeld old member → ¬ AreTogether homes member root → new ≡ old → now ≡ roots → more ≡ rest ++ member ∷ []
      → Collects homes root member old new roots now rest more

-- The held modules in the chunks of the root make its set.
pub record AreCollected (homes : List (List ℕ)) (root : ℕ) (old new : Marks) (roots now : List ℕ) : Type 0 where
  pub each : length now ≡ length roots
  pub each_held : length new.held.items ≡ length old.held.items
  pub witness : new.witness.items ≡ old.witness.items
  pub taken : (member : ℕ) → IsHeld old member → AreTogether homes member root → (slice_index now member ≡ root) × (¬ IsHeld new member)
  pub others : (member : ℕ) → ¬ (IsHeld old member × AreTogether homes member root)
      → (slice_index now member ≡ slice_index roots member) × (slice_index_or new.held.items member false ≡ slice_index_or old.held.items member false)
  pub listed : (member : ℕ) → IsHeld new member → Contains new.list.items member
  pub within : (bound : ℕ) → All (λ member. member < bound) old.list.items → All (λ member. member < bound) new.list.items

-- a set of modules as the set of this root has to be, where the modules that no set has are free
pub record IsScope (asks homes : List (List ℕ)) (may_join : List Bool) (roots : List ℕ) (root : ℕ) (members : List ℕ) : Type 0 where
  pub free : (member : ℕ) → Contains members member → member ≢ root → IsFree may_join roots root member
  pub together : (member : ℕ) → Contains members member → member ≢ root → AreTogether homes member root
  pub closed : (member from : ℕ) → Contains members member → member ≢ root → Asks asks from member → Contains members from

-- each module has a root before this one, or none yet, and this one has none
pub record AreRootsBefore (roots : List ℕ) (root : ℕ) : Type 0 where
  pub itself : slice_index roots root ≡ root
  pub before : (member : ℕ) → member < length roots → (slice_index roots member < root) ⊎ (slice_index roots member ≡ member)

-- the root has taken its set: now the members have it as their root
pub record TakesSet (asks homes : List (List ℕ)) (may_join : List Bool) (roots now : List ℕ) (root : ℕ) : Type 0 where
  pub each : length now ≡ length roots
  pub itself : slice_index now root ≡ root
  pub same : (member : ℕ) → slice_index now member ≢ root → slice_index now member ≡ slice_index roots member
  pub free : (member : ℕ) → member < length roots → slice_index now member ≡ root → member ≢ root → IsFree may_join roots root member
  pub together : (member : ℕ) → member < length roots → slice_index now member ≡ root → member ≢ root → AreTogether homes member root
  pub closed : (member from : ℕ) → member < length roots → slice_index now member ≡ root → member ≢ root → Asks asks from member → slice_index now from ≡ root
  pub greatest : (members : List ℕ) → IsScope asks homes may_join roots root members → (member : ℕ) → Contains members member → slice_index now member ≡ root
