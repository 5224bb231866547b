-- What a name stands for where it is asked of a module: ECMA-262's ResolveExport, in its order, with its one list of the pairs of a module
-- and a name that were gone through. A module that is none of ECMAScript has any name by an import, and none by a star.
use Rattle.std.specs.Prelude.{◌≡◌, ◌≢◌, ℕ, List, [], ◌∷◌, ◌++◌, Option, Some, None, slice_get, find}
use Rattle.std.specs.List.{Contains}
use Rattle.std.specs.Option.{option_map}
use Rattle.std.specs.Str.{bytes_eq}
use Rattle.pk_types.specs.declared.facts.Facts.{Facts}
use Rattle.pk_types.specs.declared.facts.Kind.{Kind}
use Rattle.pk_types.specs.declared.facts.Kind.TheVariants.{Es}
use Rattle.pk_types.specs.declared.facts.Origin.{Origin}
use Rattle.pk_types.specs.declared.facts.Origin.TheVariants.{Own, Other, Space}
use Rattle.pk_types.specs.declared.graph.Graph.{Graph}
use Rattle.pk_types.specs.declared.graph.Row.{Row}
use Rattle.pk_types.specs.declared.found.Found.{Found}
use Rattle.pk_types.specs.declared.found.Found.TheVariants.{Binding, Namespace, Foreign, Nothing, Ambiguous}
use Rattle.pk_types.specs.Joined.{joined}

-- a module and a name that it is asked for
abbrev pub Pair : Type 0
Pair = ℕ × List ℕ

abbrev pub default_name : List ℕ
default_name = 100 ∷ 101 ∷ 102 ∷ 97 ∷ 117 ∷ 108 ∷ 116 ∷ []

-- where the export of this name comes from, if the facts have one
abbrev pub origin_of : Facts → List ℕ → Option Origin
origin_of facts name = option_map (λ entry. entry.origin) (find (λ entry. bytes_eq entry.name name) facts.exports)

abbrev pub kind_at : Graph → ℕ → Option Kind
kind_at graph number = option_map (λ row. row.facts.kind) (slice_get graph.rows number)

-- a module of ECMAScript is asked for a name for the first time
pub record IsFirst (graph : Graph) (before : List Pair) (number : ℕ) (name : List ℕ) (row : Row) : Type 0 where
  pub at : slice_get graph.rows number ≡ Some row
  pub kind : row.facts.kind ≡ Es
  pub first : ¬ Contains before (number, name)

mutual
  -- where these pairs were gone through before, the name of the module leads to what is found, and these pairs were gone through after
  pub data ResolvesTo (graph : Graph) : List Pair → ℕ → List ℕ → Found → List Pair → Type 0 where
    foreign : (before : List Pair) (number : ℕ) (name : List ℕ) (kind : Kind) → kind_at graph number ≡ Some kind → kind ≢ Es
        → ResolvesTo graph before number name (Foreign number name) before
    circular : (before : List Pair) (number : ℕ) (name : List ℕ) → kind_at graph number ≡ Some Es → Contains before (number, name)
        → ResolvesTo graph before number name Nothing before
    own : (before : List Pair) (number : ℕ) (name : List ℕ) (row : Row) (binding : ℕ) → IsFirst graph before number name row
        → origin_of row.facts name ≡ Some (Own binding)
        → ResolvesTo graph before number name (Binding number binding) (before ++ (number, name) ∷ [])
    space : (before : List Pair) (number : ℕ) (name : List ℕ) (row : Row) (request target : ℕ) → IsFirst graph before number name row
        → origin_of row.facts name ≡ Some (Space request) → slice_get row.targets request ≡ Some target
        → ResolvesTo graph before number name (Namespace target) (before ++ (number, name) ∷ [])
    indirect : (before : List Pair) (number : ℕ) (name : List ℕ) (row : Row) (request target : ℕ) (other : List ℕ) (found : Found) (after : List Pair)
        → IsFirst graph before number name row
        → origin_of row.facts name ≡ Some (Other request other) → slice_get row.targets request ≡ Some target
        → ResolvesTo graph (before ++ (number, name) ∷ []) target other found after
        → ResolvesTo graph before number name found after
    no_default : (before : List Pair) (number : ℕ) (name : List ℕ) (row : Row) → IsFirst graph before number name row
        → origin_of row.facts name ≡ None → name ≡ default_name
        → ResolvesTo graph before number name Nothing (before ++ (number, name) ∷ [])
    by_stars : (before : List Pair) (number : ℕ) (name : List ℕ) (row : Row) (found : Found) (after : List Pair)
        → IsFirst graph before number name row
        → origin_of row.facts name ≡ None → name ≢ default_name
        → StarsLeadTo graph (before ++ (number, name) ∷ []) row.targets name row.facts.stars Nothing found after
        → ResolvesTo graph before number name found after

  -- the same for the stars of a module that has these targets, where those before them led to what is found so far
  pub data StarsLeadTo (graph : Graph) : List Pair → List ℕ → List ℕ → List ℕ → Found → Found → List Pair → Type 0 where
    ended : (before : List Pair) (targets name : List ℕ) (found : Found) → StarsLeadTo graph before targets name [] found found before
    passed : (before : List Pair) (targets name : List ℕ) (star target : ℕ) (stars : List ℕ) (so_far found : Found) (after : List Pair) (kind : Kind)
        → slice_get targets star ≡ Some target → kind_at graph target ≡ Some kind → kind ≢ Es
        → StarsLeadTo graph before targets name stars so_far found after
        → StarsLeadTo graph before targets name (star ∷ stars) so_far found after
    joins : (before between : List Pair) (targets name : List ℕ) (star target : ℕ) (stars : List ℕ) (so_far one found : Found) (after : List Pair)
        → slice_get targets star ≡ Some target → kind_at graph target ≡ Some Es → ResolvesTo graph before target name one between
        → joined so_far one ≢ Ambiguous
        → StarsLeadTo graph between targets name stars (joined so_far one) found after
        → StarsLeadTo graph before targets name (star ∷ stars) so_far found after
    conflicts : (before after : List Pair) (targets name : List ℕ) (star target : ℕ) (stars : List ℕ) (so_far one : Found)
        → slice_get targets star ≡ Some target → kind_at graph target ≡ Some Es → ResolvesTo graph before target name one after
        → joined so_far one ≡ Ambiguous
        → StarsLeadTo graph before targets name (star ∷ stars) so_far Ambiguous after

-- what a name leads to where a module imports it
abbrev pub Resolves : Graph → ℕ → List ℕ → Found → Type 0
Resolves graph number name found = (after : List Pair) × ResolvesTo graph [] number name found after
