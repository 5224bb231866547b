-- The modules of a tree that were followed so far, in the order of their numbers.
use Rattle.std.specs.Prelude.{◌≡◌, ℕ, ◌≤◌, List, [], ◌∷◌, map, take, length, true, false}
use Rattle.std.specs.List.{All, AllZip, flat_map, list_any, sum_by}
use Rattle.std.specs.Str.{bytes_eq}
use Rattle.pk_types.specs.declared.limits.TheConstants.{MAX_MODULES, MAX_SOURCE_BYTES}
use Rattle.pk_base.specs.FileTree.{FileTree}
use Rattle.pk_types.specs.declared.graph.Row.{Row}
use Rattle.emit_body.specs.declared.body.Body.{Body}
use Rattle.bare_modules.specs.declared.read.ModuleText.{ModuleText}
use Rattle.module_graph.specs.Building.{Building, so_far}
use Rattle.module_graph.specs.Known.{numbers_in}
use Rattle.module_graph.specs.ModuleOrder.{IsModuleOrder}
use Rattle.watch_core.specs.Modules.{IsModule, facts_of, module_asks}

abbrev pub IsKnown : List (List ℕ) → List ℕ → Type 0
IsKnown known path = list_any (bytes_eq path) known ≡ true

abbrev pub AreKnown : List (List ℕ) → List (List ℕ) → Type 0
AreKnown known paths = All (IsKnown known) paths

-- the row and the body are those of the tree's module at a path; each of its targets is known, and has its number there
pub record IsFollowed (t : FileTree) (known : List (List ℕ)) (row : Row) (body : Body) : Type 0 where
  pub bytes : List ℕ
  pub said : ModuleText
  pub targets : List (List ℕ)
  pub is : IsModule t row.label bytes said targets
  pub facts : row.facts ≡ facts_of said
  pub are_known : AreKnown known targets
  pub leads : row.targets ≡ numbers_in known targets
  pub flagged : row.flagged ≡ false
  pub size : row.size ≡ length bytes
  pub body_is : body ≡ record { text = said.body; pieces = [] }

abbrev pub source_bytes : List Row → ℕ
source_bytes rows = sum_by (λ row. row.size) rows

-- The modules begin with that of the entry and stand in order. Those that have rows were followed: their targets are known, and each known path is that of the entry or of such a target.
pub record AreFollowed (t : FileTree) (entry : List ℕ) (building : Building) (bodies : List Body) : Type 0 where
  pub first : take 1 building.known ≡ entry ∷ []
  pub entries : building.entries ≡ 0 ∷ []
  pub labels : map (λ row. row.label) building.rows ≡ take (length building.rows) building.known
  pub each : AllZip (IsFollowed t building.known) building.rows bodies
  pub few : length building.known ≤ MAX_MODULES
  pub few_bytes : source_bytes building.rows ≤ MAX_SOURCE_BYTES
  pub order : IsModuleOrder (so_far building)

-- the paths that are looked at for modules: each module's own, and those for its requests
abbrev pub row_asks : FileTree → Row → List (List ℕ)
row_asks t row = row.label ∷ module_asks t row.label (map (λ request. request.text) row.facts.requests)

abbrev pub rows_asks : FileTree → List Row → List (List ℕ)
rows_asks t rows = flat_map (row_asks t) rows
