-- A text that has no mark of an import or an export declares none.
use Rattle.std.proofs.Common.{◌≡◌, ℕ, true, List, refl, sym, ◌∙◌, true≢false}
use Rattle.std.specs.List.{All}
use Rattle.std.proofs.lemmas.List.Elements.{All-contains}
use Rattle.es_outline.specs.declared.mark.Mark.{Mark}
use Rattle.es_outline.specs.declared.mark.Mark.TheVariants as mark
use Rattle.es_outline.specs.declared.mark.Role.{Role}
use Rattle.es_outline.specs.declared.mark.Role.TheVariants as is
use Rattle.es_outline.specs.declared.mark.Part.TheVariants as part
use Rattle.es_tree.specs.declared.tokens.ProgramGoal.TheVariants.{Script}
use Rattle.pk_types.proofs.Members.{Contains-at}
use Rattle.pk_types.specs.declared.facts.Facts.{Facts}
use Rattle.pk_types.specs.Lawful.{IsLawfulCjs}
use Rattle.es_scope.specs.Source.{Source, IsMark, HasRole}
use Rattle.es_scope.specs.Known.{known_of}
use Rattle.es_scope.specs.Occurrences.{is_import}
use Rattle.es_scope.specs.Declaring.{IsImport}
use Rattle.es_scope.specs.Exporting.{ExportsDeclared, ExportsName, IsExport}
use Rattle.es_scope.specs.FactsOf.{IsOrdered, IsStar, AreFacts}
use Rattle.facts_laws.specs.Plain.{role_declares, declares, IsPlain}
use Rattle.facts_laws.proofs.Listing.{no_items}
use Rattle.facts_laws.proofs.Marks.{imported_role}
use Rattle.facts_laws.proofs.Sites.{script_calls}

module _ (source : Source) (plain : All IsPlain source.marks) where
  no_mark : (place : ℕ) (one_mark : Mark) → declares one_mark ≡ true → ¬ IsMark source place one_mark
  no_mark place one_mark e at = true≢false (sym e ∙ All-contains IsPlain source.marks one_mark plain (Contains-at source.marks place one_mark at))

  no_role : (place : ℕ) (role : Role) → role_declares role ≡ true → ¬ HasRole source place role
  no_role place role e h = no_mark place (mark.Token role h.0) e h.1

  import_declares : (role : Role) → is_import role ≡ true → role_declares role ≡ true
  import_declares is.Imported e = refl
  import_declares is.ImportedDefault e = refl
  import_declares is.ImportedSpace e = refl
  import_declares _ e = absurd (true≢false (sym e))

  not_declared : (place : ℕ) → ¬ ExportsDeclared source place
  not_declared place (ExportsDeclared.by_word opening begins bound by) = no_mark opening (mark.Begin part.ExportedDeclaration) refl begins
  not_declared place (ExportsDeclared.other opening how declared within) = no_mark opening (mark.Begin part.ExportedDeclaration) refl within.encloses.begins

  no_export : (place : ℕ) (name : List ℕ) → ¬ ExportsName source place name
  no_export place _ (ExportsName.listed name role exported) = no_role place is.Exported refl role
  no_export place _ (ExportsName.space h) = no_mark h.opening (mark.Begin part.ExportStar) refl h.begins
  no_export place _ (ExportsName.declared h) = not_declared place h
  no_export place _ (ExportsName.by_default opening h) = no_mark opening (mark.Begin part.ExportDefault) refl h.begins

  pub is_lawful_script : (facts : Facts) → source.goal ≡ Script → AreFacts source facts → IsLawfulCjs facts
  is_lawful_script facts goal are = record {
    order = no_items (IsOrdered source facts.requests) facts.order are.order (λ place number h. no_role place is.Request refl h.is_request);
    imports = no_items (IsImport source (known_of facts)) facts.imports are.imports (λ place entry h.
        let role = imported_role source place h.said entry.name h.imports in
        no_role place role.0 (import_declares role.0 role.1) role.2);
    exports = no_items (IsExport source (known_of facts)) facts.exports are.exports (λ place entry h. no_export place entry.name h.named);
    stars = no_items (IsStar source (known_of facts)) facts.stars are.stars
        (λ place number h. no_mark h.all.opening (mark.Begin part.ExportStar) refl h.all.begins);
    calls = script_calls source (known_of facts) goal facts.sites are.sites;
  }
