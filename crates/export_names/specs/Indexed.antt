-- The names of the exports of each module, in their order. Only private clauses and the invariant of `Resolver` cite this.
use Rattle.std.specs.Prelude.{◌≡◌, List, ℕ, map, nat_eq, Some, IfSome, slice_get}
use Rattle.std.specs.List.{IsDistinct}
use Rattle.std.specs.Str.{bytes_eq}
use Rattle.pk_types.specs.declared.facts.ExportEntry.{ExportEntry}
use Rattle.indexmap.specs.IndexMap.{IndexMap, get}
use Rattle.indexmap.specs.IndexSet.{IndexSet}
use Rattle.pk_text.specs.declared.text.Key.{Key}
use Rattle.pk_types.specs.declared.graph.Graph.{Graph}

abbrev pub export_names : List ExportEntry → List (List ℕ)
export_names exports = map (λ entry. entry.name) exports

-- no two of the exports have one name
abbrev pub HaveApartNames : List ExportEntry → Type 0
HaveApartNames exports = IsDistinct bytes_eq (export_names exports)

-- the names that stand beside a module's number are those of its exports
abbrev pub AreIndexed : {S T : Type 0} → Graph → IndexMap ℕ (IndexSet Key T) S → Type 0
AreIndexed graph names = (number : ℕ) (keys : IndexSet Key _) → get nat_eq names number ≡ Some keys
    → IfSome (slice_get graph.rows number) (λ row. map (λ key. key.0.now) keys.keys ≡ export_names row.facts.exports)
