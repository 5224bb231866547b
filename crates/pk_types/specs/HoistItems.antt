-- What a scope runs, in which order: ECMA-262's depth first walk from the root, inside its set. A module of another set is evaluated where the
-- walk first comes to it, and a member runs where the walk leaves it.
use Rattle.std.specs.Prelude.{◌≡◌, ◌≢◌, ℕ, Bool, List, [], ◌∷◌, ◌++◌, Some, length, slice_get, slice_index}
use Rattle.std.specs.List.{Contains}
use Rattle.pk_types.specs.declared.plan.Active.{Active}
use Rattle.pk_types.specs.declared.plan.Hoists.{Hoists}
use Rattle.pk_types.specs.declared.plan.Item.{Item}
use Rattle.pk_types.specs.declared.plan.Item.TheVariants.{Segment, Evaluate}
use Rattle.pk_types.specs.HoistSets.{Scene, AreHoistSets, edges_at, set_of}

-- the module that the item runs or evaluates
abbrev pub module_of : Item → ℕ
module_of (Segment member) = member
module_of (Evaluate target) = target

mutual
  -- where these modules were come to before, the visit of a member notes the items, and these were come to after
  pub data Visits (active : Active) (members : List ℕ) : List ℕ → ℕ → List Item → List ℕ → Type 0 where
    visit : (before after : List ℕ) (member : ℕ) (items : List Item)
        → Follows active members (before ++ member ∷ []) (edges_at active member) items after
        → Visits active members before member (items ++ Segment member ∷ []) after

  -- the same for edges, in order
  pub data Follows (active : Active) (members : List ℕ) : List ℕ → List ℕ → List Item → List ℕ → Type 0 where
    ended : (before : List ℕ) → Follows active members before [] [] before
    passed : (before after : List ℕ) (target : ℕ) (targets : List ℕ) (items : List Item) → Contains before target
        → Follows active members before targets items after
        → Follows active members before (target ∷ targets) items after
    entered : (before between after : List ℕ) (target : ℕ) (targets : List ℕ) (items others : List Item)
        → ¬ Contains before target → Contains members target → Visits active members before target items between
        → Follows active members between targets others after
        → Follows active members before (target ∷ targets) (items ++ others) after
    noted : (before after : List ℕ) (target : ℕ) (targets : List ℕ) (items : List Item)
        → ¬ Contains before target → ¬ Contains members target
        → Follows active members (before ++ target ∷ []) targets items after
        → Follows active members before (target ∷ targets) (Evaluate target ∷ items) after

-- the items of a root with these members
abbrev pub AreItems : Active → List ℕ → ℕ → List Item → Type 0
AreItems active members root items = (after : List ℕ) × Visits active members [] root items after

-- each root has its items, and the other modules have none
pub record AreHoists (scene : Scene) (concatenate : Bool) (hoists : Hoists) : Type 0 where
  pub sets : AreHoistSets scene concatenate hoists.root
  pub each : length hoists.items ≡ length hoists.root
  pub items : (root : ℕ) (items : List Item) → slice_get hoists.items root ≡ Some items → slice_index hoists.root root ≡ root
      → AreItems scene.active (set_of hoists.root root) root items
  pub others : (member : ℕ) (items : List Item) → slice_get hoists.items member ≡ Some items → slice_index hoists.root member ≢ member → items ≡ []
