-- The modules that are met from the entries on. Only private clauses cite this.
use Rattle.std.specs.Prelude.{◌≡◌, ◌↔◌, ◌⊎◌, ℕ, List, [], ◌∷◌, ◌++◌, Some, slice_get}
use Rattle.std.specs.List.{Contains}
use Rattle.pk_types.specs.declared.facts.SiteKind.{SiteKind}
use Rattle.pk_types.specs.declared.graph.Graph.{Graph}
use Rattle.pk_types.specs.declared.graph.Row.{Row}
use Rattle.pk_types.specs.declared.plan.Used.{Used}
use Rattle.pk_types.specs.ActiveEdges.{HasEdges}
use Rattle.pk_types.specs.Requests.{site_kinds}
use Rattle.pk_types.specs.Sites.{called_requests}

-- exactly these are known beside what was, behind it
pub record Meets (old : List ℕ) (IsMet : ℕ → Type 0) (new : List ℕ) : Type 0 where
  pub more : List ℕ
  pub behind : new ≡ old ++ more
  pub each : (number : ℕ) → Contains new number ↔ (Contains old number ⊎ IsMet number)

-- one of the sites calls for the module
abbrev pub OneCalls : List ℕ → List SiteKind → ℕ → Type 0
OneCalls targets kinds target = (kind : SiteKind) × (request : ℕ) × Contains kinds kind × (called_requests kind ≡ request ∷ [])
    × (slice_get targets request ≡ Some target)

-- the module calls for this one
abbrev pub IsCalled : Row → ℕ → Type 0
IsCalled row target = OneCalls row.targets (site_kinds row) target

-- the edges of the module are these, and it was gone through
pub record IsGoneThrough (graph : Graph) (used : Used) (number : ℕ) (edges before after : List ℕ) : Type 0 where
  pub row : Row
  pub at : slice_get graph.rows number ≡ Some row
  pub names : List (List ℕ)
  pub used_at : slice_get used.names number ≡ Some names
  pub has : HasEdges graph number row names edges
  pub meets : Meets before (λ target. Contains edges target ⊎ IsCalled row target) after
