-- The edges that are added in turn. Only private clauses cite this.
use Rattle.std.specs.Prelude.{◌≡◌, ℕ, List, nat_eq}
use Rattle.std.specs.List.{AllZip, concat}
use Rattle.indexmap.specs.IndexSet.{insert_all}
use Rattle.pk_types.specs.declared.graph.Graph.{Graph}
use Rattle.pk_types.specs.StopSearch.{HasStops}

-- such a part is added
abbrev pub Adds : (List ℕ → Type 0) → List ℕ → List ℕ → Type 0
Adds IsPart before after = (part : List ℕ) × IsPart part × (after ≡ insert_all nat_eq before part)

-- for each of these a part is added
abbrev pub AddsEach : {A : Type 0} → (A → List ℕ → Type 0) → List A → List ℕ → List ℕ → Type 0
AddsEach IsPart items before after = (parts : List (List ℕ)) × AllZip IsPart items parts × (after ≡ insert_all nat_eq before (concat parts))

-- the stops of these names of the module are added
abbrev pub AddsStops : Graph → ℕ → List (List ℕ) → List ℕ → List ℕ → Type 0
AddsStops graph target names before after = AddsEach (HasStops graph target) names before after
