-- The exports of a text have different names.
use Rattle.std.proofs.Common.{◌≢◌, ℕ, ◌<◌, List, map, subst}
use Rattle.std.specs.List.{IsDistinct}
use Rattle.std.specs.Str.{bytes_eq}
use Rattle.pk_types.specs.declared.facts.ExportEntry.{ExportEntry}
use Rattle.es_scope.specs.Source.{Source}
use Rattle.es_scope.specs.Known.{Known}
use Rattle.es_scope.specs.Listed.{AreThose}
use Rattle.es_scope.specs.Exporting.{ExportsName, IsExport, IsExportedTwice}
use Rattle.facts_laws.proofs.Listing.{names_differ}
use Rattle.facts_laws.proofs.Marks.{unlike}

module _ (source : Source) (known : Known) (once : (place : ℕ) → ¬ IsExportedTwice source place) where
  two_exports : (place other : ℕ) (entry further : ExportEntry) → place < other → IsExport source known place entry → IsExport source known other further
      → entry.name ≢ further.name
  two_exports place other entry further less h i same = once other (record {
    earlier = place;
    name = further.name;
    before = less;
    here = i.named;
    there = subst (ExportsName source place) same h.named;
  })

  pub exports_differ : (exports : List ExportEntry) → AreThose (IsExport source known) exports → IsDistinct bytes_eq (map (λ entry. entry.name) exports)
  exports_differ exports those = names_differ (IsExport source known) exports those (λ entry. entry.name) bytes_eq
      (λ place other entry further less h i. unlike entry.name further.name (two_exports place other entry further less h i))
