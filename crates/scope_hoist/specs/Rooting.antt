-- The roots of modules, once the sets of the first roots are taken. Only private clauses cite this.
use Rattle.std.specs.Prelude.{◌≡◌, ◌≢◌, ◌⊎◌, ◌<◌, ◌≤◌, ℕ, Bool, true, false, List, None, length, slice_index, slice_index_or}
use Rattle.std.specs.List.{All, Contains}
use Rattle.scope_hoist.specs.declared.marks.Marks.{Marks}
use Rattle.scope_hoist.specs.Standing.{Asks, AreTogether, IsHeld}

-- the modules that a set may take in are held, and none is led
pub record AreFirstMarks (may_join : List Bool) (marks : Marks) : Type 0 where
  pub held : marks.held.items ≡ may_join
  pub each : length marks.witness.items ≡ length may_join
  pub none : (member : ℕ) → slice_index_or marks.witness.items member None ≡ None
  pub listed : (member : ℕ) → IsHeld marks member → Contains marks.list.items member
  pub within : All (λ member. member < length may_join) marks.list.items

-- a set of modules as the set of this root has to be
pub record MaySet (asks homes : List (List ℕ)) (may_join : List Bool) (roots : List ℕ) (root : ℕ) (members : List ℕ) : Type 0 where
  pub able : (member : ℕ) → Contains members member → member ≢ root → slice_index_or may_join member false ≡ true
  pub free : (member : ℕ) → Contains members member → member ≢ root → ¬ (slice_index roots member < root)
  pub together : (member : ℕ) → Contains members member → member ≢ root → AreTogether homes member root
  pub closed : (member from : ℕ) → Contains members member → member ≢ root → Asks asks from member → Contains members from

-- the modules with this root make its set
pub record IsSetOf (asks homes : List (List ℕ)) (may_join : List Bool) (roots : List ℕ) (root : ℕ) : Type 0 where
  pub able : (member : ℕ) → member < length roots → slice_index roots member ≡ root → member ≢ root → slice_index_or may_join member false ≡ true
  pub together : (member : ℕ) → member < length roots → slice_index roots member ≡ root → member ≢ root → AreTogether homes member root
  pub closed : (member from : ℕ) → member < length roots → slice_index roots member ≡ root → member ≢ root → Asks asks from member
      → slice_index roots from ≡ root
  pub greatest : (members : List ℕ) → MaySet asks homes may_join roots root members → (member : ℕ) → Contains members member
      → slice_index roots member ≡ root

-- the first modules have their roots, and each root before the next one has its set
pub record HaveSetsBefore (asks homes : List (List ℕ)) (may_join shares : List Bool) (next : ℕ) (roots : List ℕ) : Type 0 where
  pub each : length roots ≡ length asks
  pub in_order : (member : ℕ) → member < length roots → slice_index roots member ≤ member
  pub before : (member : ℕ) → member < length roots → (slice_index roots member < next) ⊎ (slice_index roots member ≡ member)
  pub rooted : (member : ℕ) → member < length roots → slice_index roots member < next → slice_index roots (slice_index roots member) ≡ slice_index roots member
  pub alone : (root : ℕ) → root < next → slice_index roots root ≡ root → ¬ (slice_index_or shares root false ≡ true)
      → (member : ℕ) → member < length roots → slice_index roots member ≡ root → member ≡ root
  pub sets : (root : ℕ) → root < next → slice_index roots root ≡ root → slice_index_or shares root false ≡ true → IsSetOf asks homes may_join roots root

-- the same of all modules
abbrev pub HaveSets : List (List ℕ) → List (List ℕ) → List Bool → List Bool → List ℕ → Type 0
HaveSets asks homes may_join shares roots = HaveSetsBefore asks homes may_join shares (length asks) roots
