-- How modules go that are not in the set of a root. Only private clauses cite this.
use Rattle.std.specs.Prelude.{◌≡◌, ◌≢◌, ◌⊎◌, ◌↔◌, ◌+◌, ◌<◌, ◌≤◌, ℕ, List, [], ◌∷◌, ◌++◌, length}
use Rattle.std.specs.List.{All, Contains}
use Rattle.scope_hoist.specs.declared.marks.Marks.{Marks}
use Rattle.scope_hoist.specs.Standing.{Asks, AreTogether, IsHeld, IsFound, AreStanding, AreApart}
use Rattle.scope_hoist.specs.Steps.{LetsGo, held_count}

-- What held modules are asked for by: held modules in the same chunks, and those that went and are not gone through yet. What is left is not
-- looked at yet.
pub record AreOwed (asks homes : List (List ℕ)) (root : ℕ) (marks : Marks) (gone left : List ℕ) : Type 0 where
  pub within : All (λ member. member < length asks) gone
  pub not_held : (member : ℕ) → Contains gone member → ¬ IsHeld marks member
  pub owed : (member from : ℕ) → IsHeld marks member → member ≢ root → Asks asks from member
      → Contains left member ⊎ (AreTogether homes from member × (IsHeld marks from ⊎ Contains gone from))

-- the module stays held or not as it was, or goes because of an outsider that asks for it
pub data LooksAt (asks homes : List (List ℕ)) (root member : ℕ) (old new : Marks) (gone now : List ℕ) : Type 0 where
  spared : new ≡ old → now ≡ gone → (member ≡ root) ⊎ (¬ IsHeld old member) → LooksAt asks homes root member old new gone now
  stays : new ≡ old → now ≡ gone → ((from : ℕ) → Asks asks from member → IsHeld old from × AreTogether homes from member)
      → LooksAt asks homes root member old new gone now
  goes : (from : ℕ) → LetsGo old new member from → now ≡ gone ++ member ∷ [] → member ≢ root → IsHeld old member → Asks asks from member
      → (IsHeld old from → ¬ AreTogether homes from member) → LooksAt asks homes root member old new gone now

-- some held modules went, and are led now
pub record AreGoing (asks homes : List (List ℕ)) (root : ℕ) (old new : Marks) (gone left : List ℕ) : Type 0 where
  pub standing : AreStanding asks homes new
  pub apart : AreApart homes new
  pub itself : IsHeld new root
  pub found : (member : ℕ) → IsFound new member ↔ IsFound old member
  pub list : new.list.items ≡ old.list.items
  pub owed : AreOwed asks homes root new gone left

-- what one asks for that went, went too, but for the root
pub record PassesOn (asks homes : List (List ℕ)) (root from : ℕ) (old new : Marks) (gone now : List ℕ) : Type 0 where
  pub standing : AreStanding asks homes new
  pub apart : AreApart homes new
  pub itself : IsHeld old root → IsHeld new root
  pub found : (member : ℕ) → IsFound new member ↔ IsFound old member
  pub less : (member : ℕ) → IsHeld new member → IsHeld old member
  pub none : (member : ℕ) → Asks asks from member → member ≢ root → ¬ IsHeld new member
  pub added : List ℕ
  pub list : now ≡ gone ++ added
  pub within : All (λ member. member < length asks) added
  pub went : (member : ℕ) → Contains added member → ¬ IsHeld new member
  pub kept : (member : ℕ) → IsHeld old member → IsHeld new member ⊎ Contains added member
  pub measure : length added + held_count new ≤ held_count old

-- the held modules are asked for by one another only
pub record IsSettled (asks homes : List (List ℕ)) (root : ℕ) (old new : Marks) : Type 0 where
  pub standing : AreStanding asks homes new
  pub apart : AreApart homes new
  pub itself : IsHeld new root
  pub found : (member : ℕ) → IsFound new member ↔ IsFound old member
  pub closed : (member from : ℕ) → IsHeld new member → member ≢ root → Asks asks from member → IsHeld new from × AreTogether homes from member
