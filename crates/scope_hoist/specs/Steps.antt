-- What the steps of taking a set do to the marks. Only private clauses cite this.
use Rattle.std.specs.Prelude.{◌≡◌, ◌⊎◌, ◌↔◌, ◌+◌, ◌≤◌, ℕ, true, false, List, [], ◌∷◌, ◌++◌, Some, None, length, count_by, is_some, slice_set}
use Rattle.scope_hoist.specs.declared.marks.Marks.{Marks}
use Rattle.scope_hoist.specs.Standing.{AreTogether, IsHeld, IsLedBy, IsFound}

-- the module is held from now on
pub record Holds (old new : Marks) (member : ℕ) : Type 0 where
  pub held : new.held.items ≡ slice_set old.held.items member true
  pub witness : new.witness.items ≡ slice_set old.witness.items member None
  pub list : new.list.items ≡ old.list.items ++ member ∷ []

-- the module is led by this requester from now on
pub record LetsGo (old new : Marks) (member from : ℕ) : Type 0 where
  pub held : new.held.items ≡ slice_set old.held.items member false
  pub witness : new.witness.items ≡ slice_set old.witness.items member (Some from)
  pub list : new.list.items ≡ old.list.items

abbrev pub led_count : Marks → ℕ
led_count marks = count_by is_some marks.witness.items

abbrev pub held_count : Marks → ℕ
held_count marks = count_by (λ held. held) marks.held.items

-- more modules are held, which were led
pub record HoldsMore (old new : Marks) : Type 0 where
  pub fewer : (member from : ℕ) → IsLedBy new member from → IsLedBy old member from
  pub found : (member : ℕ) → IsFound new member ↔ IsFound old member
  pub more : (member : ℕ) → IsHeld old member → IsHeld new member
  pub list : (added : List ℕ) × (new.list.items ≡ old.list.items ++ added)
  pub measure : length new.list.items + led_count new ≤ length old.list.items + led_count old

-- no module that the one asks for is led by it, in the same chunks
abbrev pub LeadsNone : List (List ℕ) → Marks → ℕ → Type 0
LeadsNone homes marks from = (member : ℕ) → IsLedBy marks member from → ¬ AreTogether homes from member

-- the root is held, and beside it what was found is still found
pub record HoldsAll (old new : Marks) (root : ℕ) : Type 0 where
  pub itself : IsHeld new root
  pub found : (member : ℕ) → IsFound old member → IsFound new member
  pub before : (member : ℕ) → IsFound new member → (member ≡ root) ⊎ IsFound old member
