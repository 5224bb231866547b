-- What the head of a scope's factory lists: what its modules declare, which of these names other scopes spell, and the names of its root's
-- namespace where that is asked for.
use Rattle.std.specs.Prelude.{◌≡◌, ◌≢◌, ◌⊎◌, ℕ, ◌&&◌, Bool, true, List, [], ◌∷◌, Option, Some, None, length, map, filter, flat_map, nat_eq, slice_get}
use Rattle.std.specs.List.{All, Contains, list_any, range_with_len}
use Rattle.emit_body.specs.declared.getters.Getter.{Getter}
use Rattle.emit_body.specs.declared.getters.Getters.{Getters}
use Rattle.emit_body.specs.declared.getters.ScopeGetters.{ScopeGetters}
use Rattle.emit_body.specs.declared.getters.Variable.{Variable}
use Rattle.pk_types.specs.declared.facts.Binding.{Binding}
use Rattle.pk_types.specs.declared.facts.Kind.TheVariants.{Es}
use Rattle.pk_types.specs.declared.found.Found.TheVariants as found
use Rattle.pk_types.specs.declared.graph.Graph.{Graph}
use Rattle.pk_types.specs.declared.graph.Row.{Row}
use Rattle.pk_types.specs.declared.plan.Active.{Active}
use Rattle.pk_types.specs.declared.plan.Used.{Used}
use Rattle.pk_types.specs.ChunkGroups.{IsImportTarget}
use Rattle.pk_types.specs.ExportedNames.{IsExported}
use Rattle.pk_types.specs.HoistSets.{set_of, IsReachedModule, IsRequired}
use Rattle.pk_types.specs.Reexports.{NamespaceNames}
use Rattle.pk_types.specs.Requests.{NamesAtSite}
use Rattle.pk_types.specs.Resolving.{kind_at, Resolves}
use Rattle.module_spelling.specs.Layout.{Layout, root_of, names_of, name_of}
use Rattle.module_spelling.specs.Spelled.{SpellsName}

-- ---- which namespaces are asked for

-- The namespace of the module is used, or a `require` or an `import()` of a reached module leads to it.
abbrev pub IsAsked : Graph → Active → Used → ℕ → Type 0
IsAsked graph active used number = (slice_get used.whole number ≡ Some true) ⊎ (IsRequired graph active number ⊎ IsImportTarget graph active number)

-- the module is the root of a scope, and its namespace is asked for
pub record HasSpace (layout : Layout) (active : Active) (used : Used) (number : ℕ) : Type 0 where
  pub kind : kind_at layout.graph number ≡ Some Es
  pub root : root_of layout number ≡ number
  pub asked : IsAsked layout.graph active used number

-- ---- which names other scopes spell

-- a binding, by its module and its place
abbrev pub Cell : Type 0
Cell = ℕ × ℕ

-- in the module `from` the name of the target stands for the binding, which is of another set
pub record IsOfOther (layout : Layout) (from target : ℕ) (name : List ℕ) (cell : Cell) : Type 0 where
  pub resolves : Resolves layout.graph target name (found.Binding cell.0 cell.1)
  pub other : root_of layout from ≢ root_of layout cell.0

-- a site of the module, which has this row, spells the binding
abbrev pub SpellsAtSite : Layout → ℕ → Row → Cell → Type 0
SpellsAtSite layout from row cell = (request : ℕ) × (target : ℕ) × (name : List ℕ) × NamesAtSite row request name
    × (slice_get row.targets request ≡ Some target) × IsOfOther layout from target name cell

-- a name of the root's namespace is spelled as the binding
abbrev pub SpellsInSpace : Layout → ℕ → Cell → Type 0
SpellsInSpace layout root cell = (name : List ℕ) × IsExported layout.graph root name × IsOfOther layout root root name cell

-- a scope of reached modules spells the binding, which is of another one: at a site, or in the list of a namespace
abbrev pub IsCell : Layout → Active → Used → Cell → Type 0
IsCell layout active used cell =
    ((from : ℕ) × (row : Row) × IsReachedModule active from × (slice_get layout.graph.rows from ≡ Some row) × SpellsAtSite layout from row cell)
    ⊎ ((root : ℕ) × HasSpace layout active used root × SpellsInSpace layout root cell)

-- ---- the lists of a scope

-- bindings with the names that they have
abbrev pub variables_of : List Binding → List (List ℕ) → List Variable
variables_of [] names = []
variables_of (binding ∷ bindings) [] = []
variables_of (binding ∷ bindings) (name ∷ names) = record { kind = binding.kind; name = name } ∷ variables_of bindings names

-- what a module declares
abbrev pub bindings_at : Option Row → List Binding
bindings_at None = []
bindings_at (Some row) = row.facts.bindings

abbrev pub module_variables : Layout → ℕ → List Variable
module_variables layout member = variables_of (bindings_at (slice_get layout.graph.rows member)) (names_of layout member)

abbrev pub is_cell : Cell → Cell → Bool
is_cell cell other = nat_eq cell.0 other.0 && nat_eq cell.1 other.1

-- the names of a module's bindings that are among the cells, by place
abbrev pub module_cells : Layout → List Cell → ℕ → List (List ℕ)
module_cells layout cells member = map (name_of layout member) (filter (λ place. list_any (is_cell (member, place)) cells) (range_with_len 0 (length (names_of layout member))))

-- the getters of a namespace: its names in byte order, each as the root spells it
pub record AreGetters (layout : Layout) (root : ℕ) (getters : List Getter) : Type 0 where
  pub names : NamespaceNames layout.graph root (map (λ getter. getter.name) getters)
  pub spelled : All (λ getter. SpellsName layout root root getter.name getter.spelling) getters

-- there are getters exactly where the namespace is asked for
abbrev pub AreSpace : Layout → Active → Used → ℕ → Option (List Getter) → Type 0
AreSpace layout active used root None = ¬ HasSpace layout active used root
AreSpace layout active used root (Some getters) = HasSpace layout active used root × AreGetters layout root getters

-- the lists of the scope of a root, where these are the cells; a module that is no root has an empty set
pub record IsScope (layout : Layout) (active : Active) (used : Used) (cells : List Cell) (root : ℕ) (scope : ScopeGetters) : Type 0 where
  pub variables : scope.variables ≡ flat_map (module_variables layout) (set_of layout.roots root)
  pub cells_are : scope.cells ≡ flat_map (module_cells layout cells) (set_of layout.roots root)
  pub space : AreSpace layout active used root scope.space

-- the lists of each module
pub record HasGetters (layout : Layout) (active : Active) (used : Used) (getters : Getters) : Type 0 where
  pub each : length getters.scopes ≡ length layout.graph.rows
  pub cells : List Cell
  pub are_cells : (cell : Cell) → (Contains cells cell → IsCell layout active used cell) × (IsCell layout active used cell → Contains cells cell)
  pub scopes : (root : ℕ) (scope : ScopeGetters) → slice_get getters.scopes root ≡ Some scope → IsScope layout active used cells root scope
