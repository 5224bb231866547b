-- What the sites of a module use. Only private clauses cite this.
use Rattle.std.specs.Prelude.{ℕ, List}
use Rattle.std.specs.List.{Contains}
use Rattle.pk_types.specs.declared.facts.Ref.{Ref}
use Rattle.pk_types.specs.declared.facts.Ref.TheVariants as ref
use Rattle.pk_types.specs.declared.facts.SiteKind.{SiteKind}
use Rattle.pk_types.specs.declared.facts.SiteKind.TheVariants.{Init, Read, Write, Member, Space, Require, Import}
use Rattle.pk_types.specs.declared.graph.Row.{Row}
use Rattle.pk_types.specs.Requests.{AsksFor}
use Rattle.prune_graph.specs.Gathering.{IsTheName, IsTheSpace}

-- what is named asks for the name by the request
abbrev pub AsksBy : Row → Ref → ℕ → List ℕ → Type 0
AsksBy row (ref.Own binding) request name = ⊥
AsksBy row (ref.Imported place) request name = AsksFor row place request name

-- a site of this kind uses the name through the request
abbrev pub UsesName : Row → SiteKind → ℕ → List ℕ → Type 0
UsesName row (Init binding) request name = ⊥
UsesName row (Read named) request name = AsksBy row named request name
UsesName row (Write named) request name = AsksBy row named request name
UsesName row (Member place named) request name = IsTheName place named request name
UsesName row (Space place) request name = ⊥
UsesName row (Require place) request name = ⊥
UsesName row (Import place) request name = ⊥

-- a site of this kind uses the namespace through the request
abbrev pub UsesSpace : SiteKind → ℕ → Type 0
UsesSpace (Init binding) request = ⊥
UsesSpace (Read named) request = ⊥
UsesSpace (Write named) request = ⊥
UsesSpace (Member place named) request = ⊥
UsesSpace (Space place) request = IsTheSpace place request
UsesSpace (Require place) request = ⊥
UsesSpace (Import place) request = ⊥

-- one of the sites does
abbrev pub OneUsesName : Row → List SiteKind → ℕ → List ℕ → Type 0
OneUsesName row kinds request name = (kind : SiteKind) × Contains kinds kind × UsesName row kind request name

abbrev pub OneUsesSpace : List SiteKind → ℕ → Type 0
OneUsesSpace kinds request = (kind : SiteKind) × Contains kinds kind × UsesSpace kind request
