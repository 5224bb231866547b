-- What is told of names is what they stand for.
use Rattle.std.proofs.Common.{◌≡◌, ◌≢◌, ℕ, ◌+◌, ◌<◌, ◌≤◌, Bool, true, false, cond, nat_eq, List, Option, Some, None, length, slice_get, unwrap_or, option_and_then, refl, sym, ap, subst, ◌∙◌, arith, true≢false}
use Rattle.std.specs.Prelude.{IsSomeAnd}
use Rattle.std.proofs.lemmas.Bool.{eqb-true, eq-eqb}
use Rattle.std.proofs.lemmas.Option.{none-some, same_Some, slice_get_within}
use Rattle.pk_text.specs.Places.{place_of}
use Rattle.pk_types.proofs.Members.{element_at}
use Rattle.es_outline.specs.declared.mark.Mark.TheVariants as mark
use Rattle.es_outline.specs.declared.mark.Role.{Role}
use Rattle.es_outline.specs.declared.mark.Role.TheVariants as is
use Rattle.es_outline.specs.declared.mark.Part.{Part}
use Rattle.es_outline.specs.declared.mark.Part.TheVariants as part
use Rattle.pk_types.specs.declared.facts.BindKind.{BindKind}
use Rattle.pk_types.specs.declared.facts.BindKind.TheVariants as bind
use Rattle.pk_types.specs.declared.facts.Ref.{Ref}
use Rattle.pk_types.specs.declared.facts.Ref.TheVariants as ref
use Rattle.es_scope.specs.declared.found.Declared.{Declared}
use Rattle.es_scope.specs.declared.kinds.DeclarationKind.{DeclarationKind}
use Rattle.es_scope.specs.declared.kinds.DeclarationKind.TheVariants as kind
use Rattle.es_scope.specs.Parts.{Encloses, IsDirectlyIn}
use Rattle.es_scope.specs.Source.{Source, HasRole, name_at}
use Rattle.es_scope.specs.Occurrences.{IsDeclared, IsOccurrence, IsWordOf, is_import}
use Rattle.es_scope.specs.Scopes.{StandsIn, BelongsTo, Declares, is_scope}
use Rattle.es_scope.specs.Refers.{Refers}
use Rattle.es_scope.specs.Asking.{AsksFor, RequestOf}
use Rattle.es_scope.specs.Declaring.{Imports, IsImport, IsBindKind, IsRequestOf}
use Rattle.es_scope.specs.Known.{Known, IsBindingNamed}
use Rattle.es_scope.specs.Found.{IsFound}
use Rattle.es_scope.specs.Named.{names_it}
use Rattle.es_scope.specs.Telling.{declared_by}
use Rattle.es_scope.specs.SiteRules.{RefersTo, RefersToSpace}
use Rattle.es_scope.proofs.Agreeing.{declared_as}
use Rattle.es_scope.proofs.FirstPlaces.{place_within}
use Rattle.es_scope.proofs.FoundTable.{occurrence_named, named_mark}
use Rattle.es_scope.proofs.LookingUp.{declares_within, found_one}
use Rattle.es_scope.proofs.ScopesTold.{declared_is}
use Rattle.es_parts.specs.Around.{IsInnermost, is_any}
use Rattle.es_declares.specs.Numbering.{IsImportNumber, IsBindingNumber}
use Rattle.es_sites.specs.declared.meaning.Meaning.{Meaning}
use Rattle.es_sites.specs.declared.meaning.Meaning.TheVariants as meaning
use Rattle.es_sites.specs.Marks.{role_of, role_at}
use Rattle.es_sites.specs.Inside.{IsIn, IsRequest}
use Rattle.es_sites.specs.Tables.{Tables, AreTables, known, entry, part_around}
use Rattle.es_sites.specs.Meant.{request_of, binding_of, own, imported, space, meant_as, meant_by, meant}
use Rattle.es_sites.proofs.InsideLaws.{around_innermost, one_part, some_with, with_some}

-- ---- declarations of the top

-- how the top declares a name: by a declaration of its own, or by an import
data Sort (source : Source) (place : ℕ) (how : DeclarationKind) : Type 0 where
  own_one : (what : BindKind) → IsBindKind how what → Sort source place how
  import_one : (role : Role) → is_import role ≡ true → HasRole source place role → Sort source place how

word_sort : (source : Source) (place : ℕ) (how : DeclarationKind) (word : List ℕ) → IsWordOf how word → Sort source place how
word_sort source place _ _ IsWordOf.var = Sort.own_one bind.Var IsBindKind.var
word_sort source place _ _ IsWordOf.«let» = Sort.own_one bind.Let IsBindKind.«let»
word_sort source place _ _ IsWordOf.const = Sort.own_one bind.Const IsBindKind.const

no_scope : {A : Type 0} (source : Source) (place opening : ℕ) (which : Part) → is_scope which ≡ true → Encloses source.marks which opening place
    → ((other : ℕ) → StandsIn is_scope source.marks place other → other ≤ 0) → A
no_scope source place opening which kind encloses top =
    let high = top (opening + 1) (StandsIn.enclosed which opening kind encloses) in absurd (omega (arith, high))

sorted : (source : Source) (place : ℕ) (how : DeclarationKind) → IsDeclared source place how → ((other : ℕ) → StandsIn is_scope source.marks place other → other ≤ 0)
    → Sort source place how
sorted source place _ (IsDeclared.by_word how opening t b w) top = word_sort source place how _ w
sorted source place _ (IsDeclared.parameter opening t b) top = no_scope source place opening part.Function refl b.encloses top
sorted source place _ (IsDeclared.arrow_parameter opening t b) top = no_scope source place opening part.Arrow refl b.encloses top
sorted source place _ (IsDeclared.caught opening t b) top = no_scope source place opening part.Catch refl b.encloses top
sorted source place _ (IsDeclared.function t) top = Sort.own_one bind.Function IsBindKind.function
sorted source place _ (IsDeclared.class t) top = Sort.own_one bind.Class IsBindKind.class
sorted source place _ (IsDeclared.imported role i t) top = Sort.import_one role i t

record IsTop (source : Source) (place : ℕ) : Type 0 where
  how : DeclarationKind
  declared : IsDeclared source place how
  sort : Sort source place how

belongs_top : (source : Source) (place scope : ℕ) → BelongsTo source place scope → scope ≡ 0 → IsTop source place
belongs_top source place _ (BelongsTo.var scope d n) e = record { how = kind.Var; declared = d; sort = Sort.own_one bind.Var IsBindKind.var }
belongs_top source place _ (BelongsTo.other how scope d unlike n) e =
    record { how = how; declared = d; sort = sorted source place how d (λ other stands. let low = n.nearest other stands in omega (arith, low, e)) }
belongs_top source place _ (BelongsTo.own_class t) e = absurd (omega (arith, e))

declares_top : (source : Source) (scope place : ℕ) (name : List ℕ) → Declares source scope name place → scope ≡ 0 → IsTop source place
declares_top source scope _ name (Declares.named place b n) e = belongs_top source place scope b e
declares_top source scope _ name (Declares.by_function opening m at n) e = absurd (omega (arith, at, e))

-- one place is declared in one manner
one_manner : (source : Source) (place : ℕ) (how other : DeclarationKind) → IsDeclared source place how → IsDeclared source place other → how ≡ other
one_manner source place how other d k = same_Some how other (sym ((declared_as source place how).0 d) ∙ (declared_as source place other).0 k)

no_import_kind : (how : DeclarationKind) (what : BindKind) → IsBindKind how what → how ≡ kind.Import → ⊥
no_import_kind _ _ IsBindKind.var e = absurd (cc)
no_import_kind _ _ IsBindKind.«let» e = absurd (cc)
no_import_kind _ _ IsBindKind.const e = absurd (cc)
no_import_kind _ _ IsBindKind.class e = absurd (cc)
no_import_kind _ _ IsBindKind.function e = absurd (cc)

own_no_import : (source : Source) (place : ℕ) (how : DeclarationKind) (what : BindKind) → IsDeclared source place how → IsBindKind how what → (role : Role)
    → is_import role ≡ true → HasRole source place role → ⊥
own_no_import source place how what d b role i t = no_import_kind how what b (one_manner source place how kind.Import d (IsDeclared.imported role i t))

-- a token is one thing
pub one_role : (source : Source) (place : ℕ) (role other : Role) → HasRole source place role → HasRole source place other → role ≡ other
one_role source place role other h k =
    let same : Some (mark.Token role h.0) ≡ Some (mark.Token other k.0) = sym h.1 ∙ k.1 in cc

-- the role of an import by name
record IsNamedImport (source : Source) (place : ℕ) : Type 0 where
  role : Role
  has : HasRole source place role
  import : is_import role ≡ true
  named : role ≢ is.ImportedSpace

import_named : (source : Source) (place said : ℕ) (name : Option (List ℕ)) (one : List ℕ) → Imports source place name said → name ≡ Some one → IsNamedImport source place
import_named source place _ _ one (Imports.same before next t m) e = record { role = is.Imported; has = t; import = refl; named = λ same. absurd (cc) }
import_named source place _ _ one (Imports.renamed outer next t m) e = record { role = is.Imported; has = t; import = refl; named = λ same. absurd (cc) }
import_named source place _ _ one (Imports.by_default t) e = record { role = is.ImportedDefault; has = t; import = refl; named = λ same. absurd (cc) }
import_named source place _ _ one (Imports.space star next t) e = absurd (none-some one e)

import_name : (source : Source) (place said : ℕ) (name : Option (List ℕ)) → Imports source place name said → ¬ HasRole source place is.ImportedSpace
    → (one : List ℕ) × Imports source place (Some one) said
import_name source place _ _ (Imports.same before next t m) other = (name_at source place, Imports.same before next t m)
import_name source place _ _ (Imports.renamed outer next t m) other = (name_at source outer, Imports.renamed outer next t m)
import_name source place _ _ (Imports.by_default t) other = (_, Imports.by_default t)
import_name source place _ _ (Imports.space star next t) other = absurd (other t)

-- ---- what the tables tell

-- the request of the declaration that the place stands in has this number, or it has none
data IsRequestNumber (source : Source) (k : Known) (place : ℕ) : Option ℕ → Type 0 where
  no_number : ((number : ℕ) → ¬ IsRequestOf source k place number) → IsRequestNumber source k place None
  a_number : (number : ℕ) → IsRequestOf source k place number → IsRequestNumber source k place (Some number)

module _ (tables : Tables) (are : AreTables tables) (place : ℕ) (inside : place < length tables.source.marks) where
  import_number : IsImportNumber tables.source (known tables) place (entry tables.declarations.import_at.items place)
  import_number =
      let there = element_at tables.declarations.import_at.items place (omega (arith, inside, are.declared.import_whole)) in
      subst (λ (n : Option (Option ℕ)). IsImportNumber tables.source (known tables) place (unwrap_or n None)) (sym there.1) (are.declared.import_numbers place there.0 there.1)

  binding_number : names_it (slice_get tables.source.marks place) ≡ true → IsBindingNumber (known tables) (name_at tables.source place) (binding_of tables place)
  binding_number named =
      let number = element_at tables.told.numbers place (omega (arith, inside, are.scopes.numbered.whole)) in
      let name : place_of tables.told.texts (name_at tables.source place) ≡ Some number.0 = sym (are.scopes.numbered.each place named) ∙ number.1 in
      let low = place_within tables.told.texts (name_at tables.source place) number.0 name in
      let there = element_at tables.declarations.binding_of.items number.0 (omega (arith, low, are.declared.binding_whole)) in
      subst (λ (n : Option ℕ). IsBindingNumber (known tables) (name_at tables.source place) (option_and_then (entry tables.declarations.binding_of.items) n)) (sym number.1)
      (subst (λ (n : Option (Option ℕ)). IsBindingNumber (known tables) (name_at tables.source place) (unwrap_or n None)) (sym there.1)
      (are.declared.binding_numbers number.0 (name_at tables.source place) there.0 name there.1))

  request_in : (opening : ℕ) (which : Part) → IsDirectlyIn tables.source.marks place which opening → (found : Option ℕ)
      → IsIn tables.source.marks (IsRequest tables.source tables.asked.requests) opening found → IsRequestNumber tables.source (known tables) place found
  request_in opening which here _ (IsIn.none nowhere) = IsRequestNumber.no_number (λ number h.
      let found = some_with (slice_get tables.asked.requests number) (RequestOf tables.source place) h in
      let of = found.2 in
      let same = one_part tables.source.marks place of.opening opening of.which which of.here here in
      nowhere of.at number of.which (subst (λ (o : ℕ). IsDirectlyIn tables.source.marks of.at of.which o) same of.there)
      (record { role = of.is_request; asks = with_some (slice_get tables.asked.requests number) (AsksFor tables.source of.at) found.0 found.1 of.asks }))
  request_in opening which here _ (IsIn.some at item other there h) = IsRequestNumber.a_number item (
      let found = some_with (slice_get tables.asked.requests item) (AsksFor tables.source at) h.asks in
      let same : Some (mark.Begin which) ≡ Some (mark.Begin other) = sym here.encloses.begins ∙ there.encloses.begins in
      let part_is : which ≡ other = cc in
      with_some (slice_get tables.asked.requests item) (RequestOf tables.source place) found.0 found.1 (record {
        which = other;
        opening = opening;
        at = at;
        here = subst (λ (w : Part). IsDirectlyIn tables.source.marks place w opening) part_is here;
        there = there;
        is_request = h.role;
        asks = found.2;
      }))

  request_around : (around : Option ℕ) → IsInnermost is_any tables.source.marks place around
      → IsRequestNumber tables.source (known tables) place (option_and_then (entry tables.inside.requests.items) around)
  request_around _ (IsInnermost.none nowhere) = IsRequestNumber.no_number (λ number h.
      let of = (some_with (slice_get tables.asked.requests number) (RequestOf tables.source place) h).2 in nowhere of.which of.opening refl of.here.encloses)
  request_around _ (IsInnermost.some which opening h) =
      let before = h.encloses.before in
      let there = element_at tables.inside.requests.items opening (omega (arith, inside, before, are.inside.requests.whole)) in
      subst (λ (n : Option (Option ℕ)). IsRequestNumber tables.source (known tables) place (unwrap_or n None)) (sym there.1)
      (request_in opening which h there.0 (are.inside.requests.each opening there.0 there.1))

  request_number : IsRequestNumber tables.source (known tables) place (request_of tables place)
  request_number = request_around (part_around tables.around place) (around_innermost tables.source.marks tables.around place are.around inside)

-- ---- what a name stands for

pub data IsMeant (source : Source) (k : Known) (place : ℕ) : Option Meaning → Type 0 where
  named : (to : Ref) → RefersTo source k place to → IsMeant source k place (Some (meaning.Name to))
  spaced : (number : ℕ) → RefersToSpace source k place number → IsMeant source k place (Some (meaning.Space number))
  nothing : ((to : Ref) → ¬ RefersTo source k place to) → ((number : ℕ) → ¬ RefersToSpace source k place number) → IsMeant source k place None

-- the declaration of the top that a name refers to
pub record RefersTop (source : Source) (place : ℕ) : Type 0 where
  pub declaration : ℕ
  pub refers : Refers source place 0 declaration

pub refers_top : (source : Source) (k : Known) (place : ℕ) (to : Ref) → RefersTo source k place to → RefersTop source place
refers_top source k place _ (RefersTo.own declaration number manner how r d b n) = record { declaration = declaration; refers = r }
refers_top source k place _ (RefersTo.imported declaration said number name r i e) = record { declaration = declaration; refers = r }

one_referred : (source : Source) (place scope other one further : ℕ) → Refers source place scope one → Refers source place other further → (scope ≡ other) × (one ≡ further)
one_referred source place scope other one further h k =
    let same = same_Some {A = Declared} (record { scope = scope; place = one }) (record { scope = other; place = further })
    (found_one source place (Some (record { scope = scope; place = one })) (Some (record { scope = other; place = further })) (IsFound.refers _ h) (IsFound.refers _ k)) in
    (ap (λ (d : Declared). d.scope) same, ap (λ (d : Declared). d.place) same)

no_top : (source : Source) (k : Known) (place : ℕ) → ((declaration : ℕ) → ¬ Refers source place 0 declaration) → IsMeant source k place None
no_top source k place none = IsMeant.nothing
    (λ to h. let top = refers_top source k place to h in none top.declaration top.refers) (λ number h. none h.declaration h.refers)

-- where the declaration is an import, a name refers to no binding; and so on
module _ (source : Source) (k : Known) (place declaration : ℕ) (refers : Refers source place 0 declaration) where
  no_ref : (to : Ref) → RefersTo source k place to
      → ((manner : DeclarationKind) (how : BindKind) (number : ℕ) → IsDeclared source declaration manner → IsBindKind manner how → ¬ IsBindingNamed k number (name_at source place))
      → ((name : List ℕ) (said number : ℕ) → Imports source declaration (Some name) said → ¬ IsSomeAnd (slice_get k.imports number) (IsImport source k declaration)) → ⊥
  no_ref _ (RefersTo.own other number manner how r d b n) no_own no_named =
      let same = (one_referred source place 0 0 other declaration r refers).1 in
      no_own manner how number (subst (λ (at : ℕ). IsDeclared source at manner) same d) b n
  no_ref _ (RefersTo.imported other said number name r i e) no_own no_named =
      let same = (one_referred source place 0 0 other declaration r refers).1 in
      no_named name said number (subst (λ (at : ℕ). Imports source at (Some name) said) same i) (subst (λ (at : ℕ). IsSomeAnd (slice_get k.imports number) (IsImport source k at)) same e)

  no_space : (number : ℕ) → RefersToSpace source k place number → (HasRole source declaration is.ImportedSpace → ¬ IsRequestOf source k declaration number) → ⊥
  no_space number h none =
      let same = (one_referred source place 0 0 h.declaration declaration h.refers refers).1 in
      none (subst (λ (at : ℕ). HasRole source at is.ImportedSpace) same h.space) (subst (λ (at : ℕ). IsRequestOf source k at number) same h.request)

  pub no_ref_space : (to : Ref) (number : ℕ) → RefersTo source k place to → RefersToSpace source k place number → ⊥
  no_ref_space to number h s =
      let same = (one_referred source place 0 0 s.declaration declaration s.refers refers).1 in
      let t = subst (λ (at : ℕ). HasRole source at is.ImportedSpace) same s.space in
      no_ref to h (λ manner how other d b n. own_no_import source declaration manner how d b is.ImportedSpace refl t)
      (λ name said other i e. let im = import_named source declaration said (Some name) name i refl in im.named (one_role source declaration im.role is.ImportedSpace im.has t))

declared_role : (source : Source) (place : ℕ) (how : DeclarationKind) → IsDeclared source place how → (role : Role) × HasRole source place role
declared_role source place _ (IsDeclared.by_word how opening t b w) = (is.Bound, t)
declared_role source place _ (IsDeclared.parameter opening t b) = (is.Bound, t)
declared_role source place _ (IsDeclared.arrow_parameter opening t b) = (is.Bound, t)
declared_role source place _ (IsDeclared.caught opening t b) = (is.Bound, t)
declared_role source place _ (IsDeclared.function t) = (is.FunctionName, t)
declared_role source place _ (IsDeclared.class t) = (is.ClassName, t)
declared_role source place _ (IsDeclared.imported role i t) = (role, t)

meant_own_as : (tables : Tables) (place declaration : ℕ) (role : Role) → is_import role ≡ false → meant_as tables place declaration (Some role) ≡ own (binding_of tables place)
meant_own_as tables place declaration is.Imported e = absurd (true≢false e)
meant_own_as tables place declaration is.ImportedDefault e = absurd (true≢false e)
meant_own_as tables place declaration is.ImportedSpace e = absurd (true≢false e)
meant_own_as tables place declaration _ e = refl

module _ (tables : Tables) (are : AreTables tables) (place : ℕ) (occurs : IsOccurrence tables.source place) where
  module _ (declaration : ℕ) (refers : Refers tables.source place 0 declaration) where
    here : declaration < length tables.source.marks
    here = declares_within tables.source 0 (name_at tables.source place) declaration refers.declares

    as_space : HasRole tables.source declaration is.ImportedSpace → (found : Option ℕ) → IsRequestNumber tables.source (known tables) declaration found
        → IsMeant tables.source (known tables) place (space found)
    as_space t _ (IsRequestNumber.a_number number r) = IsMeant.spaced number (record { declaration = declaration; refers = refers; space = t; request = r })
    as_space t _ (IsRequestNumber.no_number none) = IsMeant.nothing
        (λ to h. no_ref tables.source (known tables) place declaration refers to h
        (λ manner how other d b n. own_no_import tables.source declaration manner how d b is.ImportedSpace refl t)
        (λ name said other i e. let im = import_named tables.source declaration said (Some name) name i refl in
        im.named (one_role tables.source declaration im.role is.ImportedSpace im.has t)))
        (λ number h. no_space tables.source (known tables) place declaration refers number h (λ other r. none number r))

    as_import : (role : Role) → is_import role ≡ true → HasRole tables.source declaration role → role ≢ is.ImportedSpace → (found : Option ℕ)
        → IsImportNumber tables.source (known tables) declaration found → IsMeant tables.source (known tables) place (imported found)
    as_import role i t other _ (IsImportNumber.some number s) =
        let entry = some_with (slice_get (known tables).imports number) (IsImport tables.source (known tables) declaration) s in
        let name = import_name tables.source declaration entry.2.said entry.0.name entry.2.imports (λ h. other (one_role tables.source declaration role is.ImportedSpace t h)) in
        IsMeant.named (ref.Imported number) (RefersTo.imported declaration entry.2.said number name.0 refers name.1 s)
    as_import role i t other _ (IsImportNumber.none nowhere) = IsMeant.nothing
        (λ to h. no_ref tables.source (known tables) place declaration refers to h
        (λ manner how number d b n. own_no_import tables.source declaration manner how d b role i t)
        (λ name said number im e. let found = some_with (slice_get (known tables).imports number) (IsImport tables.source (known tables) declaration) e in nowhere found.0 found.2))
        (λ number h. no_space tables.source (known tables) place declaration refers number h (λ also r. other (one_role tables.source declaration role is.ImportedSpace t also)))

    as_own : (how : DeclarationKind) (what : BindKind) → IsDeclared tables.source declaration how → IsBindKind how what → (found : Option ℕ)
        → IsBindingNumber (known tables) (name_at tables.source place) found → IsMeant tables.source (known tables) place (own found)
    as_own how what d b _ (IsBindingNumber.some number n) = IsMeant.named (ref.Own number) (RefersTo.own declaration number how what refers d b n)
    as_own how what d b _ (IsBindingNumber.none nowhere) = IsMeant.nothing
        (λ to h. no_ref tables.source (known tables) place declaration refers to h (λ manner other number e f n. nowhere number n)
        (λ name said number i e. let im = import_named tables.source declaration said (Some name) name i refl in
        own_no_import tables.source declaration how what d b im.role im.import im.has))
        (λ number h. no_space tables.source (known tables) place declaration refers number h (λ t r. own_no_import tables.source declaration how what d b is.ImportedSpace refl t))

    import_as : (role : Role) → is_import role ≡ true → HasRole tables.source declaration role
        → IsMeant tables.source (known tables) place (meant_as tables place declaration (Some role))
    import_as is.Imported i t = as_import is.Imported i t (λ same. absurd (cc)) _ (import_number tables are declaration here)
    import_as is.ImportedDefault i t = as_import is.ImportedDefault i t (λ same. absurd (cc)) _ (import_number tables are declaration here)
    import_as is.ImportedSpace i t = as_space t _ (request_number tables are declaration here)
    import_as _ i t = absurd (true≢false (sym i))

    own_as : (how : DeclarationKind) (what : BindKind) → IsDeclared tables.source declaration how → IsBindKind how what → (role : Role)
        → HasRole tables.source declaration role → (b : Bool) → is_import role ≡ b → IsMeant tables.source (known tables) place (meant_as tables place declaration (Some role))
    own_as how what d b role t true i = absurd (own_no_import tables.source declaration how what d b role i t)
    own_as how what d b role t false i =
        subst (IsMeant tables.source (known tables) place) (sym (meant_own_as tables place declaration role i))
        (as_own how what d b _ (binding_number tables are place place_within_marks (occurrence_named tables.source place occurs)))
      where
        place_within_marks : place < length tables.source.marks
        place_within_marks =
            let found = named_mark (slice_get tables.source.marks place) (occurrence_named tables.source place occurs) in slice_get_within tables.source.marks place found.0 found.1

    with_role : (role : Role) → HasRole tables.source declaration role → IsMeant tables.source (known tables) place (meant_as tables place declaration (Some role))
        → IsMeant tables.source (known tables) place (meant_as tables place declaration (role_at tables.source declaration))
    with_role role t h = subst (λ (r : Option Role). IsMeant tables.source (known tables) place (meant_as tables place declaration r)) (sym (ap role_of t.1)) h

    by_sort : (how : DeclarationKind) → IsDeclared tables.source declaration how → Sort tables.source declaration how
        → IsMeant tables.source (known tables) place (meant_as tables place declaration (role_at tables.source declaration))
    by_sort how d (Sort.own_one what b) =
        let role = declared_role tables.source declaration how d in with_role role.0 role.1 (own_as how what d b role.0 role.1 (is_import role.0) refl)
    by_sort how d (Sort.import_one role i t) = with_role role t (import_as role i t)

    by_top : IsMeant tables.source (known tables) place (meant_as tables place declaration (role_at tables.source declaration))
    by_top = let top = declares_top tables.source 0 declaration (name_at tables.source place) refers.declares refl in by_sort top.how top.declared top.sort

  by_scope : (declared : Declared) → Refers tables.source place declared.scope declared.place → (b : Bool) → nat_eq declared.scope 0 ≡ b
      → IsMeant tables.source (known tables) place (cond b (meant_as tables place declared.place (role_at tables.source declared.place)) None)
  by_scope declared h true e = by_top declared.place (subst (λ (s : ℕ). Refers tables.source place s declared.place) (eqb-true declared.scope 0 e) h)
  by_scope declared h false e = no_top tables.source (known tables) place (λ other r.
      let same = (one_referred tables.source place declared.scope 0 declared.place other h r).0 in true≢false (sym (eq-eqb declared.scope 0 same) ∙ e))

  by_found : (declared : Option Declared) → IsFound tables.source place declared → IsMeant tables.source (known tables) place (meant_by tables place declared)
  by_found _ (IsFound.refers declared h) = by_scope declared h (nat_eq declared.scope 0) refl
  by_found _ (IsFound.free free) = no_top tables.source (known tables) place (λ declaration r. free.undeclared 0 declaration r.within r.declares)

  pub meant_is : IsMeant tables.source (known tables) place (meant tables place)
  unfolding meant
  meant_is = by_found (declared_by tables.told place) (declared_is tables.source tables.told are.scopes place occurs)

-- ---- a name that stands for something is told to

module _ (source : Source) (k : Known) (place : ℕ) where
  ref_space_apart : {A : Type 0} (to : Ref) (number : ℕ) → RefersTo source k place to → RefersToSpace source k place number → A
  ref_space_apart to number h s = absurd (no_ref_space source k place s.declaration s.refers to number h s)

  refs_apart : (to other : Ref) (a b : ℕ) → RefersTo source k place to → RefersTo source k place other → to ≡ ref.Own a → other ≡ ref.Imported b → ⊥
  refs_apart _ _ a b (RefersTo.own declaration number manner how r d kind n) (RefersTo.own declaration2 number2 manner2 how2 r2 d2 kind2 n2) e f = absurd (cc)
  refs_apart _ _ a b (RefersTo.own declaration number manner how r d kind n) (RefersTo.imported other said number2 name r2 i j) e f =
      let same = (one_referred source place 0 0 other declaration r2 r).1 in
      let im = import_named source declaration said (Some name) name (subst (λ (at : ℕ). Imports source at (Some name) said) same i) refl in
      own_no_import source declaration manner how d kind im.role im.import im.has
  refs_apart _ other a b (RefersTo.imported declaration said number name r i j) h e f = absurd (cc)

  pub told_ref : (to : Ref) → RefersTo source k place to → (told : Option Meaning) → IsMeant source k place told → (other : Ref) × (told ≡ Some (meaning.Name other))
  told_ref to h _ (IsMeant.named other r) = (other, refl)
  told_ref to h _ (IsMeant.spaced number s) = ref_space_apart to number h s
  told_ref to h _ (IsMeant.nothing no_ref no_space) = absurd (no_ref to h)

  own_named : (number : ℕ) → RefersTo source k place (ref.Own number) → (other : Ref) → RefersTo source k place other
      → (binding : ℕ) × (Some (meaning.Name other) ≡ Some (meaning.Name (ref.Own binding)))
  own_named number h (ref.Own binding) r = (binding, refl)
  own_named number h (ref.Imported other) r = absurd (refs_apart (ref.Own number) (ref.Imported other) number other h r refl refl)

  pub told_own : (number : ℕ) → RefersTo source k place (ref.Own number) → (told : Option Meaning) → IsMeant source k place told
      → (binding : ℕ) × (told ≡ Some (meaning.Name (ref.Own binding)))
  told_own number h _ (IsMeant.named other r) = own_named number h other r
  told_own number h _ (IsMeant.spaced other s) = ref_space_apart (ref.Own number) other h s
  told_own number h _ (IsMeant.nothing no_ref no_space) = absurd (no_ref (ref.Own number) h)

  pub told_space : (number : ℕ) → RefersToSpace source k place number → (told : Option Meaning) → IsMeant source k place told
      → (other : ℕ) × (told ≡ Some (meaning.Space other))
  told_space number h _ (IsMeant.named to r) = ref_space_apart to number r h
  told_space number h _ (IsMeant.spaced other s) = (other, refl)
  told_space number h _ (IsMeant.nothing no_ref no_space) = absurd (no_space number h)
