-- Places that declare names, and those that do so in exported declarations.
use Rattle.std.proofs.Common.{◌≡◌, ◌<◌, ◌+◌, ◌↔◌, ◌&&◌, ⊎_elim, ℕ, true, List, Option, Some, None, is_some, length, slice_get, unwrap_or, refl, sym, ap, subst, ◌∙◌, arith, true≢false}
use Rattle.std.proofs.lemmas.Bool.{and_parts, and_from, or_cases, or_left, or_right}
use Rattle.std.proofs.lemmas.Option.{none-some, same_Some, slice_get_within}
use Rattle.es_outline.specs.declared.mark.Mark.{Mark}
use Rattle.es_outline.specs.declared.mark.Role.{Role}
use Rattle.es_outline.specs.declared.mark.Role.TheVariants as is
use Rattle.es_outline.specs.declared.mark.Part.TheVariants as part
use Rattle.es_scope.specs.declared.kinds.DeclarationKind.{DeclarationKind}
use Rattle.es_scope.specs.Source.{Source, HasRole}
use Rattle.es_scope.specs.Occurrences.{IsDeclared, BoundBy, is_binder, is_import}
use Rattle.es_scope.specs.Named.{is_naming}
use Rattle.es_scope.specs.Known.{Known}
use Rattle.es_scope.specs.Exporting.{ExportsDeclared}
use Rattle.es_parts.specs.Around.{IsInnermost}
use Rattle.es_parts.specs.Binding.{AreBinders, mark_declares}
use Rattle.es_parts.proofs.DeclaredBy.{declared_so}
use Rattle.es_exports.specs.Seeing.{Seen, role_at, begun_at, begun_of, begun_before, part_at, binder_at, is_bound, is_declaration, is_exported_declaration, is_declared, is_exported_word, exports_declared}
use Rattle.es_exports.proofs.Marks.{some_there, is_there, role_within, bound_here, bound_there, begun_here, before_here, before_there, declaration_is, exported_declaration_is}
use Rattle.es_exports.proofs.Facts.{AreSeen, innermost_there, innermost_here}
use Rattle.es_exports.proofs.Facts as facts

same_options : {A : Type 0} (found other : Option A) → ((item : A) → (found ≡ Some item) ↔ (other ≡ Some item)) → is_some found ≡ is_some other
same_options None None h = refl
same_options None (Some item) h = absurd (none-some item ((h item).1 refl))
same_options (Some item) None h = absurd (none-some item ((h item).0 refl))
same_options (Some item) (Some other) h = refl

pub binder_in : (source : Source) (table : List (Option ℕ)) (place : ℕ) → AreBinders source.marks table → place < length source.marks
    → IsInnermost is_binder source.marks place (unwrap_or (slice_get table place) None)
binder_in source table place are inside =
    let there = some_there table place (let long = are.whole in omega arith) in
    subst (λ (o : Option (Option ℕ)). IsInnermost is_binder source.marks place (unwrap_or o None)) (sym there.1) (are.each place there.0 there.1)

-- what is told of a declaration is what its mark tells
pub told_declared : (source : Source) (place : ℕ) (binder : Option ℕ) (found : Option DeclarationKind) → IsInnermost is_binder source.marks place binder
    → place < length source.marks → ((how : DeclarationKind) → (found ≡ Some how) ↔ IsDeclared source place how)
    → is_some found ≡ is_some (mark_declares source (slice_get source.marks place) binder)
told_declared source place binder found innermost inside tells =
    let there = some_there source.marks place inside in
    let so = declared_so source place binder there.0 (mark_declares source (Some there.0) binder) innermost refl there.1 in
    same_options found (mark_declares source (Some there.0) binder) (λ how. (λ e. (so how).1 ((tells how).0 e), λ e. (tells how).1 ((so how).0 e)))
    ∙ ap (λ (m : Option Mark). is_some (mark_declares source m binder)) (sym there.1)

-- a place where a name is declared
pub record IsNamed (source : Source) (place : ℕ) : Type 0 where
  pub role : Role
  pub has : HasRole source place role
  pub naming : is_naming role ≡ true

import_names : (role : Role) → is_import role ≡ true → is_naming role ≡ true
import_names is.Imported e = refl
import_names is.ImportedDefault e = refl
import_names is.ImportedSpace e = refl
import_names _ e = absurd (true≢false (sym e))

pub declared_named : (source : Source) (place : ℕ) (how : DeclarationKind) → IsDeclared source place how → IsNamed source place
declared_named source place how (IsDeclared.by_word _ opening t b w) = record { role = is.Bound; has = t; naming = refl }
declared_named source place _ (IsDeclared.parameter opening t b) = record { role = is.Bound; has = t; naming = refl }
declared_named source place _ (IsDeclared.arrow_parameter opening t b) = record { role = is.Bound; has = t; naming = refl }
declared_named source place _ (IsDeclared.caught opening t b) = record { role = is.Bound; has = t; naming = refl }
declared_named source place _ (IsDeclared.function t) = record { role = is.FunctionName; has = t; naming = refl }
declared_named source place _ (IsDeclared.class t) = record { role = is.ClassName; has = t; naming = refl }
declared_named source place _ (IsDeclared.imported role r t) = record { role = role; has = t; naming = import_names role r }

pub named_within : (source : Source) (place : ℕ) → IsNamed source place → place < length source.marks
named_within source place named = role_within source place named.role named.has

pub exports_within : (source : Source) (place : ℕ) → ExportsDeclared source place → place < length source.marks
exports_within source place (ExportsDeclared.by_word opening m t b) = role_within source place is.Bound t
exports_within source place (ExportsDeclared.other opening how d h) = named_within source place (declared_named source place how d)

module _ (known : Known) (seen : Seen) (are : AreSeen known seen) where
  binder_there : (place : ℕ) → place < length seen.source.marks → IsInnermost is_binder seen.source.marks place (binder_at seen place)
  binder_there place inside = binder_in seen.source seen.binders place are.binders inside

  declared_by : (place : ℕ) (found : Option Mark) → slice_get seen.source.marks place ≡ found → is_some (mark_declares seen.source found (binder_at seen place)) ≡ true
      → place < length seen.source.marks → (how : DeclarationKind) × IsDeclared seen.source place how
  declared_by place None m e inside = absurd (true≢false (sym e))
  declared_by place (Some one_mark) m e inside =
      let told = is_there (mark_declares seen.source (Some one_mark) (binder_at seen place)) e in (
        told.0,
        (declared_so seen.source place (binder_at seen place) one_mark (mark_declares seen.source (Some one_mark) (binder_at seen place))
            (binder_there place inside) refl m told.0).0 told.1,
      )

  some_mark : (place : ℕ) (found : Option Mark) → slice_get seen.source.marks place ≡ found → is_some (mark_declares seen.source found (binder_at seen place)) ≡ true
      → place < length seen.source.marks
  some_mark place None m e = absurd (true≢false (sym e))
  some_mark place (Some one_mark) m e = slice_get_within seen.source.marks place one_mark m

  pub declared_there : (place : ℕ) → is_declared seen place ≡ true → (how : DeclarationKind) × IsDeclared seen.source place how
  declared_there place e =
      declared_by place (slice_get seen.source.marks place) refl e (some_mark place (slice_get seen.source.marks place) refl e)

  pub declared_here : (place : ℕ) (how : DeclarationKind) → IsDeclared seen.source place how → is_declared seen place ≡ true
  declared_here place how d =
      let inside = named_within seen.source place (declared_named seen.source place how d) in
      let there = some_there seen.source.marks place inside in
      let so = declared_so seen.source place (binder_at seen place) there.0 (mark_declares seen.source (Some there.0) (binder_at seen place))
      (binder_there place inside) refl there.1 how in
      ap (λ (m : Option Mark). is_some (mark_declares seen.source m (binder_at seen place))) there.1 ∙ ap is_some (so.1 d)

  -- ---- in exported declarations

  word_by : (place opening : ℕ) → HasRole seen.source place is.Bound → binder_at seen place ≡ Some opening → is_exported_word seen.source (Some opening) ≡ true
      → ExportsDeclared seen.source place
  word_by place opening t b e =
      let both = and_parts (is_declaration (begun_at seen.source opening)) (is_exported_declaration (begun_before seen.source opening)) e in
      let begun = declaration_is (begun_at seen.source opening) both.0 in
      let before = before_there seen.source opening part.ExportedDeclaration (exported_declaration_is (begun_before seen.source opening) both.1) in
      let near = innermost_there is_binder seen.source.marks place opening (binder_at seen place) (binder_there place (role_within seen.source place is.Bound t)) b in
      let same : near.0 ≡ part.Declaration = same_Some near.0 part.Declaration (sym (begun_here seen.source opening near.0 near.1.encloses.begins) ∙ begun) in
      ExportsDeclared.by_word before.0 before.1 t
      (subst (λ o. BoundBy seen.source place part.Declaration o) before.2 (subst (λ w. BoundBy seen.source place w opening) same near.1))

  by_word : (place : ℕ) (found : Option ℕ) → HasRole seen.source place is.Bound → binder_at seen place ≡ found → is_exported_word seen.source found ≡ true
      → ExportsDeclared seen.source place
  by_word place None t b e = absurd (true≢false (sym e))
  by_word place (Some opening) t b e = word_by place opening t b e

  within_by : (place : ℕ) (found : Option ℕ) → is_declared seen place ≡ true → part_at seen place ≡ found
      → is_exported_declaration (begun_of seen.source found) ≡ true → ExportsDeclared seen.source place
  within_by place None d p e = absurd (true≢false (sym e))
  within_by place (Some opening) d p e =
      let how = declared_there place d in
      ExportsDeclared.other opening how.0 how.1
      (facts.directly_there known seen are place opening part.ExportedDeclaration p (exported_declaration_is (begun_at seen.source opening) e))

  pub exports_there : (place : ℕ) → exports_declared seen place ≡ true → ExportsDeclared seen.source place
  exports_there place e = ⊎_elim
      (λ word. let both = and_parts (is_bound (role_at seen.source place)) (is_exported_word seen.source (binder_at seen place)) word in
      by_word place (binder_at seen place) (bound_there seen.source place both.0) refl both.1)
      (λ other. let both = and_parts (is_declared seen place) (is_exported_declaration (begun_of seen.source (part_at seen place))) other in
      within_by place (part_at seen place) both.0 refl both.1)
      (or_cases (is_bound (role_at seen.source place) && is_exported_word seen.source (binder_at seen place))
      (is_declared seen place && is_exported_declaration (begun_of seen.source (part_at seen place))) e)

  pub exports_here : (place : ℕ) → ExportsDeclared seen.source place → exports_declared seen place ≡ true
  exports_here place (ExportsDeclared.by_word opening m t near) =
      let found = innermost_here is_binder seen.source.marks place (opening + 2) part.Declaration (binder_at seen place)
      (binder_there place (role_within seen.source place is.Bound t)) near in
      or_left (is_bound (role_at seen.source place) && is_exported_word seen.source (binder_at seen place))
      (is_declared seen place && is_exported_declaration (begun_of seen.source (part_at seen place)))
      (and_from (is_bound (role_at seen.source place)) (is_exported_word seen.source (binder_at seen place)) (bound_here seen.source place t)
      (ap (is_exported_word seen.source) found
      ∙ and_from (is_declaration (begun_at seen.source (opening + 2))) (is_exported_declaration (begun_before seen.source (opening + 2)))
      (ap is_declaration (begun_here seen.source (opening + 2) part.Declaration near.encloses.begins))
      (ap is_exported_declaration (before_here seen.source opening (opening + 2) part.ExportedDeclaration m refl))))
  exports_here place (ExportsDeclared.other opening how d h) =
      let inside = named_within seen.source place (declared_named seen.source place how d) in
      let within = facts.part_here known seen are place opening part.ExportedDeclaration inside h in
      or_right (is_bound (role_at seen.source place) && is_exported_word seen.source (binder_at seen place))
      (is_declared seen place && is_exported_declaration (begun_of seen.source (part_at seen place)))
      (and_from (is_declared seen place) (is_exported_declaration (begun_of seen.source (part_at seen place))) (declared_here place how d)
      (ap (λ (o : Option ℕ). is_exported_declaration (begun_of seen.source o)) within
      ∙ ap is_exported_declaration (facts.directly_begun known seen are place opening part.ExportedDeclaration h)))
