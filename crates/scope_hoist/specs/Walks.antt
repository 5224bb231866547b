-- A walk from a root, by the steps that are left of it. Only private clauses cite this.
use Rattle.std.specs.Prelude.{◌≡◌, ◌≢◌, ◌<◌, ◌≤◌, ◌+◌, ℕ, true, false, List, [], ◌∷◌, ◌++◌, nat_eq, length, slice_index, slice_index_or}
use Rattle.std.specs.List.{list_any}
use Rattle.pk_types.specs.declared.plan.Active.{Active}
use Rattle.pk_types.specs.declared.plan.Item.{Item}
use Rattle.pk_types.specs.declared.plan.Item.TheVariants.{Segment, Evaluate}
use Rattle.pk_types.specs.HoistSets.{set_of}
use Rattle.pk_types.specs.HoistItems.{AreItems}
use Rattle.scope_hoist.specs.declared.walk.Frame.{Frame}

abbrev pub targets_at : List (List ℕ) → ℕ → List ℕ
targets_at edges number = slice_index_or edges number []

-- one step of a walk, in the visit that this frame is of
pub data Steps (edges : List (List ℕ)) (roots : List ℕ) (root : ℕ) (frame : Frame) (before after : List ℕ) (stack now : List Frame) (items more : List Item) : Type 0 where
  leaves : length (targets_at edges frame.module) ≤ frame.next → after ≡ before → now ≡ stack → more ≡ items ++ Segment frame.module ∷ []
      → Steps edges roots root frame before after stack now items more
  passes : frame.next < length (targets_at edges frame.module) → list_any (nat_eq (slice_index (targets_at edges frame.module) frame.next)) before ≡ true → after ≡ before
      → now ≡ stack ++ record { «module» = frame.module; next = frame.next + 1 } ∷ [] → more ≡ items
      → Steps edges roots root frame before after stack now items more
  enters : frame.next < length (targets_at edges frame.module) → list_any (nat_eq (slice_index (targets_at edges frame.module) frame.next)) before ≡ false
      → slice_index roots (slice_index (targets_at edges frame.module) frame.next) ≡ root
      → after ≡ before ++ slice_index (targets_at edges frame.module) frame.next ∷ []
      → now ≡ (stack ++ record { «module» = frame.module; next = frame.next + 1 } ∷ []) ++ record { «module» = slice_index (targets_at edges frame.module) frame.next; next = 0 } ∷ []
      → more ≡ items → Steps edges roots root frame before after stack now items more
  notes : frame.next < length (targets_at edges frame.module) → list_any (nat_eq (slice_index (targets_at edges frame.module) frame.next)) before ≡ false
      → slice_index roots (slice_index (targets_at edges frame.module) frame.next) ≢ root
      → after ≡ before ++ slice_index (targets_at edges frame.module) frame.next ∷ []
      → now ≡ stack ++ record { «module» = frame.module; next = frame.next + 1 } ∷ []
      → more ≡ items ++ Evaluate (slice_index (targets_at edges frame.module) frame.next) ∷ [] → Steps edges roots root frame before after stack now items more

-- the items of the root, where these are the active edges
abbrev pub IsWalked : List (List ℕ) → List ℕ → ℕ → List Item → Type 0
IsWalked edges roots root items = (active : Active) → active.edges ≡ edges → AreItems active (set_of roots root) root items

-- each root has its items, and the other modules have none
pub record AreItemsOfAll (edges : List (List ℕ)) (roots : List ℕ) (items : List (List Item)) : Type 0 where
  pub each : length items ≡ length roots
  pub walked : (root : ℕ) → root < length roots → slice_index roots root ≡ root → IsWalked edges roots root (slice_index_or items root [])
  pub others : (member : ℕ) → member < length roots → slice_index roots member ≢ member → slice_index_or items member [] ≡ []
