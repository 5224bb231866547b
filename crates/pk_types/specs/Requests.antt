-- What the requests of a module lead to, by where the module makes them, and which names they ask for.
use Rattle.std.specs.Prelude.{◌≡◌, ℕ, Bool, List, map, Option, Some, slice_get}
use Rattle.std.specs.List.{Contains}
use Rattle.std.specs.Option.{option_map}
use Rattle.pk_types.specs.declared.facts.ImportEntry.{ImportEntry}
use Rattle.pk_types.specs.declared.facts.Ref.TheVariants.{Imported}
use Rattle.pk_types.specs.declared.facts.SiteKind.{SiteKind}
use Rattle.pk_types.specs.declared.facts.SiteKind.TheVariants.{Read, Write, Member, Space, Require, Import}
use Rattle.pk_types.specs.declared.graph.Graph.{Graph}
use Rattle.pk_types.specs.declared.graph.Row.{Row}

abbrev pub site_kinds : Row → List SiteKind
site_kinds row = map (λ site. site.kind) row.facts.sites

-- whether the module's author says that it has no side effects
abbrev pub flag_of : Graph → ℕ → Option Bool
flag_of graph number = option_map (λ row. row.flagged) (slice_get graph.rows number)

-- a declaration of the module, by this request, leads to the target
abbrev pub Declares : Graph → ℕ → ℕ → ℕ → Type 0
Declares graph number request target = (row : Row) × (slice_get graph.rows number ≡ Some row) × Contains row.facts.order request
    × (slice_get row.targets request ≡ Some target)

-- a `require` of the module leads to the target
abbrev pub CallsRequire : Graph → ℕ → ℕ → Type 0
CallsRequire graph number target = (row : Row) × (request : ℕ) × (slice_get graph.rows number ≡ Some row) × Contains (site_kinds row) (Require request)
    × (slice_get row.targets request ≡ Some target)

-- an `import()` of the module leads to the target
abbrev pub CallsImport : Graph → ℕ → ℕ → Type 0
CallsImport graph number target = (row : Row) × (request : ℕ) × (slice_get graph.rows number ≡ Some row) × Contains (site_kinds row) (Import request)
    × (slice_get row.targets request ≡ Some target)

-- the import at this place asks for the name by the request
abbrev pub AsksFor : Row → ℕ → ℕ → List ℕ → Type 0
AsksFor row place request name = (entry : ImportEntry) × (slice_get row.facts.imports place ≡ Some entry) × (entry.request ≡ request) × (entry.name ≡ Some name)

-- a site of the module reads or writes an import, or a member of a namespace
pub data NamesAtSite (row : Row) : ℕ → List ℕ → Type 0 where
  reads : (place request : ℕ) (name : List ℕ) → Contains (site_kinds row) (Read (Imported place)) → AsksFor row place request name
      → NamesAtSite row request name
  writes : (place request : ℕ) (name : List ℕ) → Contains (site_kinds row) (Write (Imported place)) → AsksFor row place request name
      → NamesAtSite row request name
  member : (request : ℕ) (name : List ℕ) → Contains (site_kinds row) (Member request name) → NamesAtSite row request name

-- a site of the module uses the namespace of what the request leads to as a value
abbrev pub UsesSpaceAtSite : Row → ℕ → Type 0
UsesSpaceAtSite row request = Contains (site_kinds row) (Space request)
