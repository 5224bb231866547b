-- Where what a name refers to comes from, as the code finds it.
use Rattle.std.proofs.Common.{◌≡◌, ◌<◌, ℕ, true, List, [], Option, Some, None, is_some, length, slice_get, unwrap_or, nat_eq, option_map, option_and_then, refl, sym, ap, subst, ◌∙◌, arith}
use Rattle.std.specs.Prelude.{IfSome}
use Rattle.std.proofs.lemmas.Bool.{eqb-true}
use Rattle.std.proofs.lemmas.Option.{none-some, same_Some}
use Rattle.std.proofs.lemmas.List.Quantifiers.{position-Some}
use Rattle.std.specs.Str.{bytes_eq}
use Rattle.pk_text.specs.Places.{place_of}
use Rattle.es_outline.specs.declared.mark.Role.TheVariants as is
use Rattle.pk_types.specs.declared.facts.Origin.{Origin}
use Rattle.es_scope.specs.declared.found.Declared.{Declared}
use Rattle.es_scope.specs.Source.{Source, name_at}
use Rattle.es_scope.specs.Occurrences.{IsOccurrence}
use Rattle.es_scope.specs.Scopes.{BelongsTo, Declares}
use Rattle.es_scope.specs.Refers.{Refers}
use Rattle.es_scope.specs.Named.{names_it}
use Rattle.es_scope.specs.Found.{IsFound}
use Rattle.es_scope.specs.Telling.{declared_by}
use Rattle.es_scope.specs.Known.{Known, IsBindingNamed}
use Rattle.es_scope.specs.Declaring.{Imports, IsRequestOf}
use Rattle.es_scope.specs.Exporting.{Exportable, ComesFrom}
use Rattle.es_scope.proofs.LookingUp.{found_one}
use Rattle.es_declares.specs.Numbering.{IsBindingNumber}
use Rattle.es_exports.specs.declared.inside.Inside.{Inside}
use Rattle.es_exports.specs.declared.said.Said.{Said}
use Rattle.es_exports.specs.declared.said.Whence.{Whence}
use Rattle.es_exports.specs.declared.said.Whence.TheVariants as whence
use Rattle.es_exports.specs.Seeing.{Seen}
use Rattle.es_exports.specs.Saying.{name_of, origin_of}
use Rattle.es_exports.specs.Noting.{AreInside}
use Rattle.es_exports.specs.Origins.{request_of, of_top, top_at, imports_at, binding_at, comes_by, comes_from, referred}
use Rattle.es_exports.proofs.Marks.{chosen, some_there, is_there, role_within}
use Rattle.es_exports.proofs.Facts.{AreSeen}
use Rattle.es_exports.proofs.Declared.{IsNamed, declared_named, named_within}
use Rattle.es_exports.proofs.Requests as requests
use Rattle.es_exports.proofs.Importing.{imports_there, imports_here}

placed_within : (texts : List (List ℕ)) (name : List ℕ) (at : ℕ) → place_of texts name ≡ Some at → at < length texts
placed_within texts name at e = (position-Some (bytes_eq name) texts at [] e).0

-- ---- declarations of the top

belongs_named : (source : Source) (place scope : ℕ) → BelongsTo source place scope → IsNamed source place
belongs_named source place _ (BelongsTo.var scope d n) = declared_named source place _ d
belongs_named source place _ (BelongsTo.other how scope d unlike n) = declared_named source place how d
belongs_named source place _ (BelongsTo.own_class t) = record { role = is.ClassName; has = t; naming = refl }

top_named : (source : Source) (scope : ℕ) (name : List ℕ) (place : ℕ) → Declares source scope name place → scope ≡ 0 → IsNamed source place
top_named source scope name _ (Declares.named place b same) top = belongs_named source place scope b
top_named source scope name _ (Declares.by_function opening m e said) top = absurd (omega arith)

pub refers_named : (source : Source) (place declaration : ℕ) → Refers source place 0 declaration → IsNamed source declaration
refers_named source place declaration h = top_named source 0 (name_at source place) declaration h.declares refl

pub occurrence_within : (source : Source) (place : ℕ) → IsOccurrence source place → place < length source.marks
occurrence_within source place (IsOccurrence.declared how d) = named_within source place (declared_named source place how d)
occurrence_within source place (IsOccurrence.referred t) = role_within source place is.Reference t
occurrence_within source place (IsOccurrence.exported t none) = role_within source place is.Exported t

module _ (known : Known) (seen : Seen) (are : AreSeen known seen) where
  found_there : (place : ℕ) → IsOccurrence seen.source place → IsFound seen.source place (declared_by seen.told place)
  found_there place occurs =
      let inside = occurrence_within seen.source place occurs in
      let there = some_there seen.told.table place (let long = are.scopes.found.whole in omega arith) in
      subst (λ (o : Option (Option Declared)). IsFound seen.source place (unwrap_or o None)) (sym there.1)
      (subst (λ (o : Option (Option Declared)). IfSome o (IsFound seen.source place)) there.1 (are.scopes.found.each place occurs))

  top_by : (place declaration : ℕ) (found : Option Declared) → IsFound seen.source place found → of_top found ≡ Some declaration
      → Refers seen.source place 0 declaration
  top_by place declaration _ (IsFound.refers declared h) e =
      let taken = chosen (nat_eq declared.scope 0) (Some declared.place) declaration e in
      subst (λ d. Refers seen.source place 0 d) (same_Some declared.place declaration taken.1)
      (subst (λ s. Refers seen.source place s declared.place) (eqb-true declared.scope 0 taken.0) h)
  top_by place declaration _ (IsFound.free free) e = absurd (none-some declaration e)

  pub top_there : (place declaration : ℕ) → IsOccurrence seen.source place → top_at seen place ≡ Some declaration → Refers seen.source place 0 declaration
  top_there place declaration occurs e = top_by place declaration (declared_by seen.told place) (found_there place occurs) e

  pub top_here : (place declaration : ℕ) → Refers seen.source place 0 declaration → top_at seen place ≡ Some declaration
  top_here place declaration h =
      ap of_top (found_one seen.source place (declared_by seen.told place) (Some (record { scope = 0; place = declaration })) (found_there place h.occurs)
      (IsFound.refers (record { scope = 0; place = declaration }) h))

  -- ---- bindings

  number_is : (place : ℕ) → IsNamed seen.source place → slice_get seen.told.numbers place ≡ place_of seen.told.texts (name_at seen.source place)
  number_is place named = are.scopes.numbered.each place (ap names_it named.has.1 ∙ named.naming)

  abbrev binding_in : Option (Option ℕ) → Option ℕ
  binding_in found = unwrap_or found None

  named_by : (name : List ℕ) (number : ℕ) (found : Option ℕ) → IsBindingNumber known name found → found ≡ Some number → IsBindingNamed known number name
  named_by name number _ (IsBindingNumber.none none) e = absurd (none-some number e)
  named_by name number _ (IsBindingNumber.some other h) e = subst (λ n. IsBindingNamed known n name) (same_Some other number e) h

  binding_by : (name : List ℕ) (at number : ℕ) (found : Option (Option ℕ)) → place_of seen.told.texts name ≡ Some at → slice_get seen.binding_of at ≡ found
      → binding_in found ≡ Some number → IsBindingNamed known number name
  binding_by name at number None p g e = absurd (none-some number e)
  binding_by name at number (Some found) p g e = named_by name number found (are.binding_numbers at name found p g) e

  binding_at_by : (place number : ℕ) (found : Option ℕ) → IsNamed seen.source place → slice_get seen.told.numbers place ≡ found
      → option_and_then (λ at. binding_in (slice_get seen.binding_of at)) found ≡ Some number → IsBindingNamed known number (name_at seen.source place)
  binding_at_by place number None named n e = absurd (none-some number e)
  binding_at_by place number (Some at) named n e =
      binding_by (name_at seen.source place) at number (slice_get seen.binding_of at) (sym (number_is place named) ∙ n) refl e

  pub binding_there : (place number : ℕ) → IsNamed seen.source place → binding_at seen place ≡ Some number → IsBindingNamed known number (name_at seen.source place)
  binding_there place number named e = binding_at_by place number (slice_get seen.told.numbers place) named refl e

  numbered_by : (name : List ℕ) (number : ℕ) (found : Option ℕ) → IsBindingNumber known name found → IsBindingNamed known number name → is_some found ≡ true
  numbered_by name number _ (IsBindingNumber.none none) h = absurd (none number h)
  numbered_by name number _ (IsBindingNumber.some other g) h = refl

  pub binding_here : (place number : ℕ) → IsNamed seen.source place → IsBindingNamed known number (name_at seen.source place)
      → is_some (binding_at seen place) ≡ true
  binding_here place number named h =
      let inside = named_within seen.source place named in
      let at = some_there seen.told.numbers place (let long = are.scopes.numbered.whole in omega arith) in
      let placed = sym (number_is place named) ∙ at.1 in
      let there = some_there seen.binding_of at.0
      (let long = are.binding_whole in let within = placed_within seen.told.texts (name_at seen.source place) at.0 placed in omega arith) in
      ap (λ (o : Option ℕ). is_some (option_and_then (λ n. binding_in (slice_get seen.binding_of n)) o)) at.1
      ∙ (ap (λ (o : Option (Option ℕ)). is_some (binding_in o)) there.1
      ∙ numbered_by (name_at seen.source place) number there.0 (are.binding_numbers at.0 (name_at seen.source place) there.0 placed there.1) h)

module _ (known : Known) (seen : Seen) (inside : Inside) (are : AreSeen known seen) (tables : AreInside seen inside) where
  -- ---- where a declaration comes from

  other_by : (place declaration : ℕ) (from : Whence) (name : Said) (found : Option ℕ) → imports_at seen.source declaration ≡ Some (Some name)
      → request_of seen inside declaration ≡ found → option_map (λ request. whence.Other request name) found ≡ Some from
      → ComesFrom seen.source known place (Exportable.declared declaration) (origin_of seen.source from)
  other_by place declaration from name None i r e = absurd (none-some from e)
  other_by place declaration from name (Some request) i r e =
      let imported = imports_there seen.source declaration (Some name) i in
      subst (λ w. ComesFrom seen.source known place (Exportable.declared declaration) (origin_of seen.source w)) (same_Some (whence.Other request name) from e)
      (ComesFrom.imported declaration imported.0 request (name_of seen.source name) imported.1
      (requests.request_of_there known seen inside are tables declaration request r))

  space_by : (place declaration : ℕ) (from : Whence) (found : Option ℕ) → imports_at seen.source declaration ≡ Some None
      → request_of seen inside declaration ≡ found → option_map (λ request. whence.Space request) found ≡ Some from
      → ComesFrom seen.source known place (Exportable.declared declaration) (origin_of seen.source from)
  space_by place declaration from None i r e = absurd (none-some from e)
  space_by place declaration from (Some request) i r e =
      let imported = imports_there seen.source declaration None i in
      subst (λ w. ComesFrom seen.source known place (Exportable.declared declaration) (origin_of seen.source w)) (same_Some (whence.Space request) from e)
      (ComesFrom.imported_space declaration imported.0 request imported.1 (requests.request_of_there known seen inside are tables declaration request r))

  no_import : (declaration : ℕ) → imports_at seen.source declaration ≡ None → (name : Option (List ℕ)) (at : ℕ) → ¬ Imports seen.source declaration name at
  no_import declaration none name at h = let found = imports_here seen.source declaration name at h in none-some found.what (sym none ∙ found.found)

  own_by : (place declaration : ℕ) (from : Whence) (found : Option ℕ) → IsNamed seen.source declaration → imports_at seen.source declaration ≡ None
      → binding_at seen declaration ≡ found → option_map (λ binding. whence.Own binding) found ≡ Some from
      → ComesFrom seen.source known place (Exportable.declared declaration) (origin_of seen.source from)
  own_by place declaration from None named i b e = absurd (none-some from e)
  own_by place declaration from (Some number) named i b e =
      subst (λ w. ComesFrom seen.source known place (Exportable.declared declaration) (origin_of seen.source w)) (same_Some (whence.Own number) from e)
      (ComesFrom.own declaration number (no_import declaration i) (binding_there known seen are declaration number named b))

  comes_at : (place declaration : ℕ) (from : Whence) (what : Option (Option Said)) → IsNamed seen.source declaration → imports_at seen.source declaration ≡ what
      → comes_by seen inside declaration what ≡ Some from → ComesFrom seen.source known place (Exportable.declared declaration) (origin_of seen.source from)
  comes_at place declaration from (Some (Some name)) named i e = other_by place declaration from name (request_of seen inside declaration) i refl e
  comes_at place declaration from (Some None) named i e = space_by place declaration from (request_of seen inside declaration) i refl e
  comes_at place declaration from None named i e = own_by place declaration from (binding_at seen declaration) named i refl e

  pub comes_there : (place declaration : ℕ) (from : Whence) → IsNamed seen.source declaration → comes_from seen inside declaration ≡ Some from
      → ComesFrom seen.source known place (Exportable.declared declaration) (origin_of seen.source from)
  comes_there place declaration from named e = comes_at place declaration from (imports_at seen.source declaration) named refl e

  -- a request gives an import its origin
  requested : (declaration request : ℕ) (what : Option Said) → IsNamed seen.source declaration → imports_at seen.source declaration ≡ Some what
      → IsRequestOf seen.source known declaration request → is_some (comes_from seen inside declaration) ≡ true
  requested declaration request (Some name) named i h =
      let found = requests.request_of_here known seen inside are tables declaration request (named_within seen.source declaration named) h in
      ap (λ (w : Option (Option Said)). is_some (comes_by seen inside declaration w)) i
      ∙ ap (λ (r : Option ℕ). is_some (option_map (λ n. whence.Other n name) r)) found.1
  requested declaration request None named i h =
      let found = requests.request_of_here known seen inside are tables declaration request (named_within seen.source declaration named) h in
      ap (λ (w : Option (Option Said)). is_some (comes_by seen inside declaration w)) i
      ∙ ap (λ (r : Option ℕ). is_some (option_map (λ n. whence.Space n) r)) found.1

  not_imported : (declaration : ℕ) (what : Option (Option Said)) → ((name : Option (List ℕ)) (at : ℕ) → ¬ Imports seen.source declaration name at)
      → imports_at seen.source declaration ≡ what → what ≡ None
  not_imported declaration None none i = refl
  not_imported declaration (Some what) none i = absurd (let imported = imports_there seen.source declaration what i in none (option_map (name_of seen.source) what) imported.0 imported.1)

  owned : (declaration number : ℕ) → IsNamed seen.source declaration → ((name : Option (List ℕ)) (at : ℕ) → ¬ Imports seen.source declaration name at)
      → IsBindingNamed known number (name_at seen.source declaration) → is_some (comes_from seen inside declaration) ≡ true
  owned declaration number named none h =
      let found = is_there (binding_at seen declaration) (binding_here known seen are declaration number named h) in
      ap (λ (w : Option (Option Said)). is_some (comes_by seen inside declaration w)) (not_imported declaration (imports_at seen.source declaration) none refl)
      ∙ ap (λ (b : Option ℕ). is_some (option_map (λ n. whence.Own n) b)) found.1

  pub comes_here : (place declaration : ℕ) (what : Exportable) (origin : Origin) → ComesFrom seen.source known place what origin
      → what ≡ Exportable.declared declaration → IsNamed seen.source declaration → is_some (comes_from seen inside declaration) ≡ true
  comes_here place declaration _ _ (ComesFrom.own other number none h) e named =
      let same : other ≡ declaration = cc in
      owned declaration number named (λ name at i. none name at (subst (λ d. Imports seen.source d name at) (sym same) i))
      (subst (λ d. IsBindingNamed known number (name_at seen.source d)) same h)
  comes_here place declaration _ _ (ComesFrom.imported other at request name i h) e named =
      let same : other ≡ declaration = cc in
      let found = imports_here seen.source declaration (Some name) at (subst (λ d. Imports seen.source d (Some name) at) same i) in
      requested declaration request found.what named found.found (subst (λ d. IsRequestOf seen.source known d request) same h)
  comes_here place declaration _ _ (ComesFrom.imported_space other at request i h) e named =
      let same : other ≡ declaration = cc in
      let found = imports_here seen.source declaration None at (subst (λ d. Imports seen.source d None at) same i) in
      requested declaration request found.what named found.found (subst (λ d. IsRequestOf seen.source known d request) same h)
  comes_here place declaration _ _ (ComesFrom.foreign request name h) e named = cc
  comes_here place declaration _ _ (ComesFrom.space request h) e named = cc
  comes_here place declaration _ _ (ComesFrom.unnamed number h) e named = cc

  -- ---- what a name refers to

  pub record IsReferred (place : ℕ) (from : Whence) : Type 0 where
    pub declaration : ℕ
    pub refers : Refers seen.source place 0 declaration
    pub comes : (other : ℕ) → ComesFrom seen.source known other (Exportable.declared declaration) (origin_of seen.source from)

  referred_by : (place : ℕ) (from : Whence) (found : Option ℕ) → IsOccurrence seen.source place → top_at seen place ≡ found
      → option_and_then (comes_from seen inside) found ≡ Some from → IsReferred place from
  referred_by place from None occurs t e = absurd (none-some from e)
  referred_by place from (Some declaration) occurs t e =
      let refers = top_there known seen are place declaration occurs t in
      record {
        declaration = declaration;
        refers = refers;
        comes = λ other. comes_there other declaration from (refers_named seen.source place declaration refers) e;
      }

  pub referred_there : (place : ℕ) (from : Whence) → IsOccurrence seen.source place → referred seen inside place ≡ Some from → IsReferred place from
  referred_there place from occurs e = referred_by place from (top_at seen place) occurs refl e

  pub referred_here : (place declaration other : ℕ) (origin : Origin) → Refers seen.source place 0 declaration
      → ComesFrom seen.source known other (Exportable.declared declaration) origin → is_some (referred seen inside place) ≡ true
  referred_here place declaration other origin refers comes =
      ap (λ (o : Option ℕ). is_some (option_and_then (comes_from seen inside) o)) (top_here known seen are place declaration refers)
      ∙ comes_here other declaration (Exportable.declared declaration) origin comes refl (refers_named seen.source place declaration refers)
