-- How modules stand while sets are taken in the order of their roots. A module that no set has is held, where it may be in the next set, or
-- led: by a requester that keeps it out of every set but those of roots on the way to it. Only private clauses cite this.
use Rattle.std.specs.Prelude.{◌≡◌, ◌⊎◌, ◌<◌, ◌≤◌, ℕ, Bool, true, false, List, [], Some, None, length, slice_index, slice_index_or}
use Rattle.std.specs.List.{All, Contains}
use Rattle.pk_types.specs.Places.{ArePlacesIn}
use Rattle.scope_hoist.specs.declared.ground.Ground.{Ground}
use Rattle.scope_hoist.specs.declared.marks.Marks.{Marks}
use Rattle.scope_hoist.specs.Scopes.{AreTransposed}

-- the one asks for the other
abbrev pub Asks : List (List ℕ) → ℕ → ℕ → Type 0
Asks asks from target = Contains (slice_index_or asks from []) target

-- the two are in the same chunks
abbrev pub AreTogether : List (List ℕ) → ℕ → ℕ → Type 0
AreTogether homes number other = slice_index_or homes number [] ≡ slice_index_or homes other []

abbrev pub IsHeld : Marks → ℕ → Type 0
IsHeld marks member = slice_index_or marks.held.items member false ≡ true

-- the module is led by this requester
abbrev pub IsLedBy : Marks → ℕ → ℕ → Type 0
IsLedBy marks member from = slice_index_or marks.witness.items member None ≡ Some from

-- The requesters by which the module is led, one behind the other, end at one that is not led, or is in other chunks.
pub data IsLed (asks homes : List (List ℕ)) (marks : Marks) : ℕ → Type 0 where
  led : (member from : ℕ) → IsLedBy marks member from → Asks asks from member
      → ((other : ℕ) → IsLedBy marks from other → AreTogether homes from member → IsLed asks homes marks from)
      → IsLed asks homes marks member

-- the module is in no set, and the set of a root from this one on may take it in
pub record IsFree (may_join : List Bool) (roots : List ℕ) (next member : ℕ) : Type 0 where
  pub able : slice_index_or may_join member false ≡ true
  pub itself : slice_index roots member ≡ member
  pub later : next ≤ member

-- a module that is held or led
abbrev pub IsFound : Marks → ℕ → Type 0
IsFound marks member = IsHeld marks member ⊎ ((from : ℕ) × IsLedBy marks member from)

-- the marks say of each module at most one thing, and that rightly
pub record AreStanding (asks homes : List (List ℕ)) (marks : Marks) : Type 0 where
  pub each_held : length marks.held.items ≡ length asks
  pub each_witness : length marks.witness.items ≡ length asks
  pub led : (member from : ℕ) → IsLedBy marks member from → IsLed asks homes marks member
  pub not_both : (member from : ℕ) → IsLedBy marks member from → ¬ IsHeld marks member
  pub listed : (member : ℕ) → IsHeld marks member → Contains marks.list.items member
  pub within : All (λ member. member < length asks) marks.list.items

-- the free modules are found, and beside them only these
pub record AreKnown (may_join : List Bool) (roots : List ℕ) (next : ℕ) (also : List ℕ) (marks : Marks) : Type 0 where
  pub known : (member : ℕ) → IsFree may_join roots next member → IsFound marks member
  pub found : (member : ℕ) → IsFound marks member → Contains also member ⊎ IsFree may_join roots next member

-- no module is led by a held one in the same chunks
abbrev pub AreApart : List (List ℕ) → Marks → Type 0
AreApart homes marks = (member from : ℕ) → IsLedBy marks member from → IsHeld marks from → ¬ AreTogether homes from member

-- the requests are those of modules, whose requesters and chunks are known
pub record IsGround (ground : Ground) : Type 0 where
  pub within : All (ArePlacesIn ground.asks.items) ground.asks.items
  pub transposed : AreTransposed ground.asks.items (length ground.asks.items) ground.requesters.items
  pub each_home : length ground.homes.items ≡ length ground.asks.items
