-- What is written at the sites of a module.
use Rattle.std.specs.Prelude.{◌≡◌, ℕ, List, ◌++◌, ◌==◌, if◌then◌else◌, Option, Some, None, codes, decimal, slice_get, slice_index}
use Rattle.std.specs.List.{AllZip}
use Rattle.std.specs.Str.{bytes_eq}
use Rattle.pk_types.specs.declared.facts.ImportEntry.{ImportEntry}
use Rattle.pk_types.specs.declared.facts.Kind.{Kind}
use Rattle.pk_types.specs.declared.facts.Kind.TheVariants.{Es, Cjs, Json}
use Rattle.pk_types.specs.declared.facts.Ref.{Ref}
use Rattle.pk_types.specs.declared.facts.Ref.TheVariants as ref
use Rattle.pk_types.specs.declared.facts.SiteKind.{SiteKind}
use Rattle.pk_types.specs.declared.facts.SiteKind.TheVariants.{Init, Read, Write, Member, Space, Require, Import}
use Rattle.pk_types.specs.declared.found.Found.{Found}
use Rattle.pk_types.specs.declared.found.Found.TheVariants.{Binding, Namespace, Foreign, Nothing, Ambiguous}
use Rattle.pk_types.specs.declared.graph.Row.{Row}
use Rattle.pk_types.specs.declared.spelling.Spelling.{Spelling}
use Rattle.pk_types.specs.Resolving.{default_name, kind_at, Resolves}
use Rattle.module_spelling.specs.Layout.{Layout, root_of, id_of, names_of, name_of}

-- ---- the forms of a spelling

-- a call of the bundle's runtime with an id
abbrev pub called : List ℕ → ℕ → List ℕ
called head id = head ++ decimal id ++ codes ")"

-- a name of what such a call gives
abbrev pub member_of : List ℕ → ℕ → List ℕ → List ℕ
member_of head id name = called head id ++ codes "." ++ name

-- the call that gives the default of a module that is none of ECMAScript: JSON is its own default
abbrev pub default_head : Option Kind → List ℕ
default_head (Some Json) = codes "__webpack_r.w("
default_head (Some Es) = codes "__webpack_r.i("
default_head (Some Cjs) = codes "__webpack_r.i("
default_head None = codes "__webpack_r.i("

-- ---- what a name stands for

-- A binding, in a module `from`: within one set its name, else a cell of the root of its set.
abbrev pub binding_text : Layout → ℕ → ℕ → ℕ → List ℕ
binding_text layout from owner binding =
    if root_of layout from == root_of layout owner then name_of layout owner binding
    else member_of (codes "__webpack_r.m(") (id_of layout (root_of layout owner)) (name_of layout owner binding)

-- a name of a module that is none of ECMAScript
abbrev pub foreign_text : Layout → ℕ → List ℕ → List ℕ
foreign_text layout number name =
    if bytes_eq name default_name then called (default_head (kind_at layout.graph number)) (id_of layout number)
    else member_of (codes "__webpack_r.w(") (id_of layout number) name

abbrev pub space_text : Layout → ℕ → List ℕ
space_text layout number = called (codes "__webpack_r.s(") (id_of layout number)

abbrev pub found_text : Layout → ℕ → Found → List ℕ
found_text layout from (Binding owner binding) = binding_text layout from owner binding
found_text layout from (Namespace number) = space_text layout number
found_text layout from (Foreign number name) = foreign_text layout number name
found_text layout from Nothing = codes "(void 0)"
found_text layout from Ambiguous = codes "(void 0)"

-- ---- what a site names

-- the text spells, in the module `from`, a name of the target
abbrev pub SpellsName : Layout → ℕ → ℕ → List ℕ → List ℕ → Type 0
SpellsName layout from target name text = (found : Found) × Resolves layout.graph target name found × (text ≡ found_text layout from found)

-- the same of a name, or of the namespace where there is none
abbrev pub SpellsNamed : Layout → ℕ → ℕ → Option (List ℕ) → List ℕ → Type 0
SpellsNamed layout from target (Some name) text = SpellsName layout from target name text
SpellsNamed layout from target None text = text ≡ space_text layout target

abbrev pub SpellsImport : Layout → ℕ → Row → ℕ → List ℕ → Type 0
SpellsImport layout from row place text = (entry : ImportEntry) × (slice_get row.facts.imports place ≡ Some entry)
    × SpellsNamed layout from (slice_index row.targets entry.request) entry.name text

abbrev pub SpellsRef : Layout → ℕ → Row → Ref → List ℕ → Type 0
SpellsRef layout from row (ref.Own binding) text = text ≡ name_of layout from binding
SpellsRef layout from row (ref.Imported place) text = SpellsImport layout from row place text

-- the text spells what stands at a site of the module `from`, which has this row
abbrev pub SpellsSite : Layout → ℕ → Row → SiteKind → List ℕ → Type 0
SpellsSite layout from row (Init binding) text = text ≡ name_of layout from binding
SpellsSite layout from row (Read named) text = SpellsRef layout from row named text
SpellsSite layout from row (Write named) text = SpellsRef layout from row named text
SpellsSite layout from row (Member request name) text = SpellsName layout from (slice_index row.targets request) name text
SpellsSite layout from row (Space request) text = text ≡ space_text layout (slice_index row.targets request)
SpellsSite layout from row (Require request) text = text ≡ called (codes "__webpack_r(") (id_of layout (slice_index row.targets request))
SpellsSite layout from row (Import request) text = text ≡ called (codes "__webpack_r.d(") (id_of layout (slice_index row.targets request))

-- the texts spell the sites of the module, by place, and its bindings have their names
pub record IsSpelling (layout : Layout) (number : ℕ) (spelling : Spelling) : Type 0 where
  pub sites : (row : Row) → slice_get layout.graph.rows number ≡ Some row
      → AllZip (λ site text. SpellsSite layout number row site.kind text) row.facts.sites spelling.sites
  pub names : spelling.names ≡ names_of layout number
