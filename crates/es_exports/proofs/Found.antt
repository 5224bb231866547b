-- What a place exports is found wherever something is exported.
use Rattle.std.proofs.Common.{◌≡◌, ◌<◌, ◌+◌, ◌&&◌, ℕ, true, cond, Option, Some, None, is_some, length, slice_get, option_map, option_and_then, refl, sym, ap, subst, ◌∙◌, arith}
use Rattle.std.proofs.lemmas.Bool.{and_parts, and_from, or_left, or_right, cond-true, cond-false, false_from_ne_true}
use Rattle.std.proofs.lemmas.Option.{slice_get_within}
use Rattle.es_outline.specs.declared.mark.Mark.TheVariants as mark
use Rattle.es_outline.specs.declared.mark.Role.TheVariants as is
use Rattle.es_outline.specs.declared.mark.Part.{Part}
use Rattle.es_outline.specs.declared.mark.Part.TheVariants as part
use Rattle.pk_types.specs.declared.facts.Origin.{Origin}
use Rattle.pk_types.specs.declared.facts.BindKind.{BindKind}
use Rattle.es_scope.specs.declared.kinds.DeclarationKind.{DeclarationKind}
use Rattle.es_scope.specs.Parts.{IsDirectlyIn}
use Rattle.es_scope.specs.Source.{IsMark, HasRole, name_at}
use Rattle.es_scope.specs.Occurrences.{IsDeclared, IsOccurrence, ExportsFrom}
use Rattle.es_scope.specs.Refers.{Refers}
use Rattle.es_scope.specs.Known.{Known, IsBindingNamed}
use Rattle.es_scope.specs.Declaring.{IsDefault, IsUnnamed, BindsUnnamed, IsRequestOf, default_binding}
use Rattle.es_scope.specs.Exporting.{Exportable, ExportsSpace, ExportsDeclared, ExportsWhat, ComesFrom}
use Rattle.es_declares.specs.Numbering.{IsBindingNumber}
use Rattle.es_exports.specs.declared.inside.Inside.{Inside}
use Rattle.es_exports.specs.declared.said.Said.TheVariants as said
use Rattle.es_exports.specs.declared.said.Whence.{Whence}
use Rattle.es_exports.specs.declared.said.Whence.TheVariants as whence
use Rattle.es_exports.specs.Seeing.{Seen, role_at, begun_at, part_at, is_exported, is_value, is_unnamed, is_unit, is_declared, is_space, exports_declared, default_of, default_at}
use Rattle.es_exports.specs.Entries.{Entries, at}
use Rattle.es_exports.specs.Noting.{AreNoted, AreInside, of_unnamed}
use Rattle.es_exports.specs.Origins.{request_of, exports_from, referred, of_named, listed_from, space_from, declared_from, named_from, binds_unnamed, unnamed_from, else_from, whence_at}
use Rattle.es_exports.proofs.Marks.{chosen, role_here, role_within, exported_here, begun_here}
use Rattle.es_exports.proofs.Facts.{AreSeen}
use Rattle.es_exports.proofs.Facts as facts
use Rattle.es_exports.proofs.Entries as entries
use Rattle.es_exports.proofs.Declared as declared
use Rattle.es_exports.proofs.Naming as names
use Rattle.es_exports.proofs.Requests as requests
use Rattle.es_exports.proofs.Referring as referring
use Rattle.es_exports.proofs.Exporting.{default_at_here, default_of_here, first_some, further_some, needed}

numbered_by : (known : Known) (number : ℕ) (found : Option ℕ) → IsBindingNumber known default_binding found → IsBindingNamed known number default_binding
    → is_some found ≡ true
numbered_by known number _ (IsBindingNumber.none none) h = absurd (none number h)
numbered_by known number _ (IsBindingNumber.some other g) h = refl

module _ (known : Known) (seen : Seen) (inside : Inside) (named : Entries) (are : AreSeen known seen) (tables : AreInside seen inside)
    (names_are : AreNoted (of_named seen inside) (length seen.source.marks) named) where
  -- ---- each way to export

  from_listed : (place : ℕ) → is_some (listed_from seen inside place) ≡ true → is_some (whence_at seen inside named place) ≡ true
  from_listed place e =
      first_some (listed_from seen inside place)
      (else_from (space_from seen inside place)
      (else_from (declared_from seen inside place) (else_from (named_from seen inside named place) (unnamed_from seen inside place)))) e

  from_space : (place : ℕ) → is_some (space_from seen inside place) ≡ true → is_some (whence_at seen inside named place) ≡ true
  from_space place e =
      further_some (listed_from seen inside place)
      (else_from (space_from seen inside place)
      (else_from (declared_from seen inside place) (else_from (named_from seen inside named place) (unnamed_from seen inside place))))
      (first_some (space_from seen inside place)
      (else_from (declared_from seen inside place) (else_from (named_from seen inside named place) (unnamed_from seen inside place))) e)

  behind_space : (place : ℕ) → is_some (else_from (declared_from seen inside place) (else_from (named_from seen inside named place) (unnamed_from seen inside place))) ≡ true
      → is_some (whence_at seen inside named place) ≡ true
  behind_space place e =
      further_some (listed_from seen inside place)
      (else_from (space_from seen inside place)
      (else_from (declared_from seen inside place) (else_from (named_from seen inside named place) (unnamed_from seen inside place))))
      (further_some (space_from seen inside place)
      (else_from (declared_from seen inside place) (else_from (named_from seen inside named place) (unnamed_from seen inside place))) e)

  from_declared : (place : ℕ) → is_some (declared_from seen inside place) ≡ true → is_some (whence_at seen inside named place) ≡ true
  from_declared place e =
      behind_space place (first_some (declared_from seen inside place) (else_from (named_from seen inside named place) (unnamed_from seen inside place)) e)

  from_named : (place : ℕ) → is_some (named_from seen inside named place) ≡ true → is_some (whence_at seen inside named place) ≡ true
  from_named place e =
      behind_space place (further_some (declared_from seen inside place) (else_from (named_from seen inside named place) (unnamed_from seen inside place))
      (first_some (named_from seen inside named place) (unnamed_from seen inside place) e))

  from_unnamed : (place : ℕ) → is_some (unnamed_from seen inside place) ≡ true → is_some (whence_at seen inside named place) ≡ true
  from_unnamed place e =
      behind_space place (further_some (declared_from seen inside place) (else_from (named_from seen inside named place) (unnamed_from seen inside place))
      (further_some (named_from seen inside named place) (unnamed_from seen inside place) e))

  -- ---- lists

  listed : (place : ℕ) → HasRole seen.source place is.Exported
      → listed_from seen inside place
      ≡ cond (exports_from seen inside place) (option_map (λ request. whence.Other request (said.At place)) (request_of seen inside place)) (referred seen inside place)
  listed place t =
      cond-true (is_exported (role_at seen.source place))
      (cond (exports_from seen inside place) (option_map (λ request. whence.Other request (said.At place)) (request_of seen inside place)) (referred seen inside place))
      None (exported_here seen.source place t)

  own_found : (place declaration : ℕ) (origin : Origin) → HasRole seen.source place is.Exported → ¬ ExportsFrom seen.source place
      → Refers seen.source place 0 declaration → ComesFrom seen.source known place (Exportable.declared declaration) origin
      → is_some (listed_from seen inside place) ≡ true
  own_found place declaration origin t none refers comes =
      ap (λ (o : Option Whence). is_some o) (listed place t
      ∙ cond-false (exports_from seen inside place) (option_map (λ request. whence.Other request (said.At place)) (request_of seen inside place))
      (referred seen inside place)
      (false_from_ne_true (exports_from seen inside place) (λ e. none (requests.from_there known seen inside are tables place e))))
      ∙ referring.referred_here known seen inside are tables place declaration place origin refers comes

  foreign_found : (place request : ℕ) → HasRole seen.source place is.Exported → ExportsFrom seen.source place → IsRequestOf seen.source known place request
      → is_some (listed_from seen inside place) ≡ true
  foreign_found place request t f h =
      let before = role_within seen.source place is.Exported t in
      let found = requests.request_of_here known seen inside are tables place request before h in
      ap (λ (o : Option Whence). is_some o) (listed place t
      ∙ cond-true (exports_from seen inside place) (option_map (λ request. whence.Other request (said.At place)) (request_of seen inside place))
      (referred seen inside place) (requests.from_here known seen inside are tables place before f))
      ∙ ap (λ (o : Option ℕ). is_some (option_map (λ request. whence.Other request (said.At place)) o)) found.1

  space_found : (place request : ℕ) → ExportsSpace seen.source place → IsRequestOf seen.source known place request
      → is_some (space_from seen inside place) ≡ true
  space_found place request s h =
      let outer = role_within seen.source (place + 2) is.Outer s.named in
      let found = requests.request_of_here known seen inside are tables place request (omega arith) h in
      ap (λ (o : Option Whence). is_some o) (cond-true (is_space seen.source place) (option_map (λ request. whence.Space request) (request_of seen inside place))
      None (names.space_here seen.source place s))
      ∙ ap (λ (o : Option ℕ). is_some (option_map (λ request. whence.Space request) o)) found.1

  -- ---- declarations

  occurs_declared : (place : ℕ) → ExportsDeclared seen.source place → IsOccurrence seen.source place → is_declared seen place ≡ true
  occurs_declared place (ExportsDeclared.other opening how d h) occurs = declared.declared_here known seen are place how d
  occurs_declared place (ExportsDeclared.by_word opening m t b) (IsOccurrence.declared how d) = declared.declared_here known seen are place how d
  occurs_declared place (ExportsDeclared.by_word opening m t b) (IsOccurrence.referred r) =
      let same = sym (role_here seen.source place is.Bound t) ∙ role_here seen.source place is.Reference r in cc
  occurs_declared place (ExportsDeclared.by_word opening m t b) (IsOccurrence.exported r none) =
      let same = sym (role_here seen.source place is.Bound t) ∙ role_here seen.source place is.Exported r in cc

  declared_found : (place declaration : ℕ) (origin : Origin) → ExportsDeclared seen.source place → Refers seen.source place 0 declaration
      → ComesFrom seen.source known place (Exportable.declared declaration) origin → is_some (declared_from seen inside place) ≡ true
  declared_found place declaration origin h refers comes =
      ap (λ (o : Option Whence). is_some o) (cond-true (exports_declared seen place && is_declared seen place) (referred seen inside place) None
      (and_from (exports_declared seen place) (is_declared seen place) (declared.exports_here known seen are place h) (occurs_declared place h refers.occurs)))
      ∙ referring.referred_here known seen inside are tables place declaration place origin refers comes

  -- ---- `export default`

  within_default : (place opening : ℕ) → place < length seen.source.marks → IsDirectlyIn seen.source.marks place part.ExportDefault opening
      → default_of seen.source (part_at seen place) ≡ Some opening
  within_default place opening before h =
      ap (default_of seen.source) (facts.part_here known seen are place opening part.ExportDefault before h) ∙ default_of_here seen.source opening h.encloses.begins

  named_found : (place opening name declaration : ℕ) (how : DeclarationKind) (origin : Origin) → IsDefault seen.source opening place
      → IsDeclared seen.source name how → IsDirectlyIn seen.source.marks name part.ExportDefault opening → Refers seen.source name 0 declaration
      → ComesFrom seen.source known place (Exportable.declared declaration) origin → is_some (named_from seen inside named place) ≡ true
  named_found place opening name declaration how origin d declares h refers comes =
      let before = declared.named_within seen.source name (declared.declared_named seen.source name how declares) in
      let within = within_default name opening before h in
      let key = cond-true (is_some (default_of seen.source (part_at seen name)) && (is_declared seen name && is_some (referred seen inside name)))
      (default_of seen.source (part_at seen name)) None
      (and_from (is_some (default_of seen.source (part_at seen name))) (is_declared seen name && is_some (referred seen inside name))
      (ap (λ (o : Option ℕ). is_some o) within)
      (and_from (is_declared seen name) (is_some (referred seen inside name)) (declared.declared_here known seen are name how declares)
      (referring.referred_here known seen inside are tables name declaration place origin refers comes)))
      ∙ within in
      let found = entries.noted_here (of_named seen inside) (length seen.source.marks) opening name named names_are before key in
      let noted = chosen (is_some (default_of seen.source (part_at seen found.0)) && (is_declared seen found.0 && is_some (referred seen inside found.0)))
      (default_of seen.source (part_at seen found.0)) opening
      (entries.noted_there (of_named seen inside) (length seen.source.marks) opening found.0 named names_are found.1) in
      ap (λ (o : Option ℕ). is_some (option_and_then (referred seen inside) (option_and_then (at named) o))) (default_at_here seen.source place opening d)
      ∙ (ap (λ (o : Option ℕ). is_some (option_and_then (referred seen inside) o)) found.1
      ∙ (and_parts (is_declared seen found.0) (is_some (referred seen inside found.0))
      (and_parts (is_some (default_of seen.source (part_at seen found.0))) (is_declared seen found.0 && is_some (referred seen inside found.0)) noted.0).1).1)

  unit_found : (place opening unnamed : ℕ) (which : Part) → IsDefault seen.source opening place → IsUnnamed seen.source opening unnamed
      → IsMark seen.source (unnamed + 1) (mark.Begin which) → is_unit (Some which) ≡ true → binds_unnamed seen inside place (default_at seen.source place) ≡ true
  unit_found place opening unnamed which d u m is_one =
      let before = slice_get_within seen.source.marks unnamed mark.Unnamed u.stands in
      let key = cond-true (is_unnamed (slice_get seen.source.marks unnamed) && is_unit (begun_at seen.source (unnamed + 1)))
      (default_of seen.source (part_at seen unnamed)) None
      (and_from (is_unnamed (slice_get seen.source.marks unnamed)) (is_unit (begun_at seen.source (unnamed + 1))) (ap is_unnamed u.stands)
      (ap is_unit (begun_here seen.source (unnamed + 1) which m) ∙ is_one))
      ∙ within_default unnamed opening before u.within in
      let found = entries.noted_here (of_unnamed seen) (length seen.source.marks) opening unnamed inside.unnamed tables.unnamed before key in
      ap (binds_unnamed seen inside place) (default_at_here seen.source place opening d)
      ∙ or_right (is_value (begun_at seen.source (place + 1))) (is_some (at inside.unnamed opening)) (ap (λ (o : Option ℕ). is_some o) found.1)

  binds_found : (place : ℕ) (how : BindKind) → BindsUnnamed seen.source place how → binds_unnamed seen inside place (default_at seen.source place) ≡ true
  binds_found place _ (BindsUnnamed.value opening d v) =
      let same : opening + 3 ≡ place + 1 = let p = d.place_is in omega arith in
      ap (binds_unnamed seen inside place) (default_at_here seen.source place opening d)
      ∙ or_left (is_value (begun_at seen.source (place + 1))) (is_some (at inside.unnamed opening))
      (ap is_value (begun_here seen.source (place + 1) part.ExportedValue (subst (λ p. IsMark seen.source p (mark.Begin part.ExportedValue)) same v)))
  binds_found place _ (BindsUnnamed.class opening unnamed d u m) = unit_found place opening unnamed part.Class d u m refl
  binds_found place _ (BindsUnnamed.function opening unnamed d u m) = unit_found place opening unnamed part.Function d u m refl

  unnamed_found : (place number : ℕ) (how : BindKind) → BindsUnnamed seen.source place how → IsBindingNamed known number default_binding
      → is_some (unnamed_from seen inside place) ≡ true
  unnamed_found place number how b h =
      ap (λ (o : Option Whence). is_some o) (cond-true (binds_unnamed seen inside place (default_at seen.source place))
      (option_map (λ binding. whence.Own binding) seen.default_binding) None (binds_found place how b))
      ∙ some_mapped seen.default_binding (numbered_by known number seen.default_binding are.default_number h)
    where
      some_mapped : (found : Option ℕ) → is_some found ≡ true → is_some (option_map (λ binding. whence.Own binding) found) ≡ true
      some_mapped None e = e
      some_mapped (Some binding) e = refl

  pub whence_here : (place : ℕ) (what : Exportable) (origin : Origin) → ExportsWhat seen.source place what → ComesFrom seen.source known place what origin
      → is_some (whence_at seen inside named place) ≡ true
  whence_here place _ origin (ExportsWhat.own declaration t none refers) comes = from_listed place (own_found place declaration origin t none refers comes)
  whence_here place _ origin (ExportsWhat.foreign t f) comes =
      let need = needed seen.source known place (Exportable.foreign (name_at seen.source place)) origin comes in
      from_listed place (foreign_found place need.0 t f need.1)
  whence_here place _ origin (ExportsWhat.space s) comes =
      let need = needed seen.source known place Exportable.space origin comes in from_space place (space_found place need.0 s need.1)
  whence_here place _ origin (ExportsWhat.declared declaration h refers) comes = from_declared place (declared_found place declaration origin h refers comes)
  whence_here place _ origin (ExportsWhat.by_default opening name declaration how d declares h refers) comes =
      from_named place (named_found place opening name declaration how origin d declares h refers comes)
  whence_here place _ origin (ExportsWhat.unnamed how b) comes =
      let need = needed seen.source known place Exportable.unnamed origin comes in from_unnamed place (unnamed_found place need.0 how b need.1)
