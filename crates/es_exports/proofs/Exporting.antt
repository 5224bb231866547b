-- What places export and where it comes from, as the code finds it.
use Rattle.std.proofs.Common.{◌≡◌, ◌+◌, ◌&&◌, ◌⊎◌, inl, inr, ⊎_elim, ℕ, Bool, true, false, cond, Option, Some, None, is_some, length, slice_get, option_map, option_and_then, refl, sym, ap, subst, ◌∙◌, arith, true≢false}
use Rattle.std.specs.Prelude.{⊤}
use Rattle.std.proofs.lemmas.Bool.{and_parts, or_cases, both_ways, cond-true}
use Rattle.std.proofs.lemmas.Option.{none-some, same_Some}
use Rattle.es_outline.specs.declared.mark.Mark.TheVariants as mark
use Rattle.es_outline.specs.declared.mark.Role.TheVariants as is
use Rattle.es_outline.specs.declared.mark.Part.TheVariants as part
use Rattle.pk_types.specs.declared.facts.Origin.{Origin}
use Rattle.pk_types.specs.declared.facts.BindKind.{BindKind}
use Rattle.pk_types.specs.declared.facts.BindKind.TheVariants as bind
use Rattle.es_scope.specs.Source.{Source, IsMark, HasRole, name_at}
use Rattle.es_scope.specs.Occurrences.{IsOccurrence, ExportsFrom}
use Rattle.es_scope.specs.Known.{Known, IsBindingNamed}
use Rattle.es_scope.specs.Declaring.{IsDefault, IsUnnamed, BindsUnnamed, ExportsValue, IsRequestOf, default_binding}
use Rattle.es_scope.specs.Exporting.{Exportable, ExportsSpace, ExportsWhat, ComesFrom}
use Rattle.es_declares.specs.Numbering.{IsBindingNumber}
use Rattle.es_exports.specs.declared.inside.Inside.{Inside}
use Rattle.es_exports.specs.declared.said.Said.TheVariants as said
use Rattle.es_exports.specs.declared.said.Whence.{Whence}
use Rattle.es_exports.specs.declared.said.Whence.TheVariants as whence
use Rattle.es_exports.specs.Seeing.{Seen, role_at, begun_at, part_at, back, is_exported, is_default, is_value, is_unnamed, is_unit, is_declared, is_space, exports_declared, default_of, default_at}
use Rattle.es_exports.specs.Saying.{origin_of}
use Rattle.es_exports.specs.Entries.{Entries, at}
use Rattle.es_exports.specs.Noting.{AreNoted, AreInside, of_unnamed}
use Rattle.es_exports.specs.Origins.{request_of, exports_from, referred, of_named, listed_from, space_from, declared_from, named_from, binds_unnamed, unnamed_from, else_from, whence_at}
use Rattle.es_exports.proofs.Marks.{chosen, is_there, role_within, exported_there, begun_here, begun_there, back_is, back_was, default_is, value_is, unit_is, unnamed_is}
use Rattle.es_exports.proofs.Facts.{AreSeen}
use Rattle.es_exports.proofs.Facts as facts
use Rattle.es_exports.proofs.Entries as entries
use Rattle.es_exports.proofs.Declared as declared
use Rattle.es_exports.proofs.Naming as names
use Rattle.es_exports.proofs.Requests as requests
use Rattle.es_exports.proofs.Referring as referring

-- ---- `export default`

default_by : (source : Source) (opening : ℕ) (found : Option ℕ) → default_of source found ≡ Some opening
    → (found ≡ Some opening) × IsMark source opening (mark.Begin part.ExportDefault)
default_by source opening None e = absurd (none-some opening e)
default_by source opening (Some other) e =
    let taken = chosen (is_default (begun_at source other)) (Some other) opening e in
    let begun = begun_there source other part.ExportDefault (default_is (begun_at source other) taken.0) in
    (taken.1, subst (λ o. IsMark source o (mark.Begin part.ExportDefault)) (same_Some other opening taken.1) begun)

pub default_of_here : (source : Source) (opening : ℕ) → IsMark source opening (mark.Begin part.ExportDefault) → default_of source (Some opening) ≡ Some opening
default_of_here source opening m =
    cond-true (is_default (begun_at source opening)) (Some opening) None (ap is_default (begun_here source opening part.ExportDefault m))

default_at_there : (source : Source) (place opening : ℕ) → default_at source place ≡ Some opening → IsDefault source opening place
default_at_there source place opening e =
    let there = default_by source opening (back 2 place) e in
    record { begins = there.1; place_is = back_was 2 place opening there.0 }

pub default_at_here : (source : Source) (place opening : ℕ) → IsDefault source opening place → default_at source place ≡ Some opening
default_at_here source place opening h = ap (default_of source) (back_is 2 place opening h.place_is) ∙ default_of_here source opening h.begins

-- ---- the first of two

first_or : (found further : Option Whence) (from : Whence) → else_from found further ≡ Some from → (found ≡ Some from) ⊎ (further ≡ Some from)
first_or None further from e = inr e
first_or (Some one) further from e = inl e

pub first_some : (found further : Option Whence) → is_some found ≡ true → is_some (else_from found further) ≡ true
first_some None further e = absurd (true≢false (sym e))
first_some (Some one) further e = refl

pub further_some : (found further : Option Whence) → is_some further ≡ true → is_some (else_from found further) ≡ true
further_some None further e = e
further_some (Some one) further e = refl

-- what an origin takes besides what is exported
abbrev pub Needs : Source → Known → ℕ → Exportable → Type 0
Needs source known place (Exportable.declared declaration) = ⊤
Needs source known place (Exportable.foreign name) = (request : ℕ) × IsRequestOf source known place request
Needs source known place Exportable.space = (request : ℕ) × IsRequestOf source known place request
Needs source known place Exportable.unnamed = (number : ℕ) × IsBindingNamed known number default_binding

pub needed : (source : Source) (known : Known) (place : ℕ) (what : Exportable) (origin : Origin) → ComesFrom source known place what origin
    → Needs source known place what
needed source known place _ _ (ComesFrom.own declaration number none h) = tt
needed source known place _ _ (ComesFrom.imported declaration said request name i h) = tt
needed source known place _ _ (ComesFrom.imported_space declaration said request i h) = tt
needed source known place _ _ (ComesFrom.foreign request name h) = (request, h)
needed source known place _ _ (ComesFrom.space request h) = (request, h)
needed source known place _ _ (ComesFrom.unnamed number h) = (number, h)

pub record IsExporting (known : Known) (source : Source) (place : ℕ) (from : Whence) : Type 0 where
  pub what : Exportable
  pub exports : ExportsWhat source place what
  pub origin : ComesFrom source known place what (origin_of source from)

module _ (known : Known) (seen : Seen) (inside : Inside) (named : Entries) (are : AreSeen known seen) (tables : AreInside seen inside)
    (names_are : AreNoted (of_named seen inside) (length seen.source.marks) named) where
  -- ---- lists

  foreign_by : (place : ℕ) (from : Whence) (found : Option ℕ) → HasRole seen.source place is.Exported → ExportsFrom seen.source place
      → request_of seen inside place ≡ found → option_map (λ request. whence.Other request (said.At place)) found ≡ Some from
      → IsExporting known seen.source place from
  foreign_by place from None t f r e = absurd (none-some from e)
  foreign_by place from (Some request) t f r e =
      subst (IsExporting known seen.source place) (same_Some (whence.Other request (said.At place)) from e)
      (record {
        what = Exportable.foreign (name_at seen.source place);
        exports = ExportsWhat.foreign t f;
        origin = ComesFrom.foreign request (name_at seen.source place) (requests.request_of_there known seen inside are tables place request r);
      })

  not_from : (place : ℕ) → HasRole seen.source place is.Exported → exports_from seen inside place ≡ false → ¬ ExportsFrom seen.source place
  not_from place t e f = both_ways (exports_from seen inside place) e
      (requests.from_here known seen inside are tables place (role_within seen.source place is.Exported t) f)

  listed_by : (place : ℕ) (from : Whence) (b : Bool) → HasRole seen.source place is.Exported → exports_from seen inside place ≡ b
      → cond b (option_map (λ request. whence.Other request (said.At place)) (request_of seen inside place)) (referred seen inside place) ≡ Some from
      → IsExporting known seen.source place from
  listed_by place from true t f e =
      foreign_by place from (request_of seen inside place) t (requests.from_there known seen inside are tables place f) refl e
  listed_by place from false t f e =
      let none = not_from place t f in
      let there = referring.referred_there known seen inside are tables place from (IsOccurrence.exported t none) e in
      record {
        what = Exportable.declared there.declaration;
        exports = ExportsWhat.own there.declaration t none there.refers;
        origin = there.comes place;
      }

  listed_there : (place : ℕ) (from : Whence) → listed_from seen inside place ≡ Some from → IsExporting known seen.source place from
  listed_there place from e =
      let taken = chosen (is_exported (role_at seen.source place))
      (cond (exports_from seen inside place) (option_map (λ request. whence.Other request (said.At place)) (request_of seen inside place))
      (referred seen inside place)) from e in
      listed_by place from (exports_from seen inside place) (exported_there seen.source place taken.0) refl taken.1

  -- ---- namespaces

  space_by : (place : ℕ) (from : Whence) (found : Option ℕ) → ExportsSpace seen.source place → request_of seen inside place ≡ found
      → option_map (λ request. whence.Space request) found ≡ Some from → IsExporting known seen.source place from
  space_by place from None s r e = absurd (none-some from e)
  space_by place from (Some request) s r e =
      subst (IsExporting known seen.source place) (same_Some (whence.Space request) from e)
      (record {
        what = Exportable.space;
        exports = ExportsWhat.space s;
        origin = ComesFrom.space request (requests.request_of_there known seen inside are tables place request r);
      })

  space_there : (place : ℕ) (from : Whence) → space_from seen inside place ≡ Some from → IsExporting known seen.source place from
  space_there place from e =
      let taken = chosen (is_space seen.source place) (option_map (λ request. whence.Space request) (request_of seen inside place)) from e in
      space_by place from (request_of seen inside place) (names.space_there seen.source place taken.0) refl taken.1

  -- ---- declarations

  declared_there : (place : ℕ) (from : Whence) → declared_from seen inside place ≡ Some from → IsExporting known seen.source place from
  declared_there place from e =
      let taken = chosen (exports_declared seen place && is_declared seen place) (referred seen inside place) from e in
      let both = and_parts (exports_declared seen place) (is_declared seen place) taken.0 in
      let how = declared.declared_there known seen are place both.1 in
      let there = referring.referred_there known seen inside are tables place from (IsOccurrence.declared how.0 how.1) taken.1 in
      record {
        what = Exportable.declared there.declaration;
        exports = ExportsWhat.declared there.declaration (declared.exports_there known seen are place both.0) there.refers;
        origin = there.comes place;
      }

  -- ---- named functions and classes of `export default`

  named_by : (place opening name : ℕ) (from : Whence) → IsDefault seen.source opening place → at named opening ≡ Some name
      → referred seen inside name ≡ Some from → IsExporting known seen.source place from
  named_by place opening name from d a e =
      let noted = chosen (is_some (default_of seen.source (part_at seen name)) && (is_declared seen name && is_some (referred seen inside name)))
      (default_of seen.source (part_at seen name)) opening
      (entries.noted_there (of_named seen inside) (length seen.source.marks) opening name named names_are a) in
      let whole = and_parts (is_some (default_of seen.source (part_at seen name))) (is_declared seen name && is_some (referred seen inside name)) noted.0 in
      let both = and_parts (is_declared seen name) (is_some (referred seen inside name)) whole.1 in
      let how = declared.declared_there known seen are name both.0 in
      let within = default_by seen.source opening (part_at seen name) noted.1 in
      let there = referring.referred_there known seen inside are tables name from (IsOccurrence.declared how.0 how.1) e in
      record {
        what = Exportable.declared there.declaration;
        exports = ExportsWhat.by_default opening name there.declaration how.0 d how.1
            (facts.directly_there known seen are name opening part.ExportDefault within.0 (begun_here seen.source opening part.ExportDefault within.1)) there.refers;
        origin = there.comes place;
      }

  named_at : (place opening : ℕ) (from : Whence) (found : Option ℕ) → IsDefault seen.source opening place → at named opening ≡ found
      → option_and_then (referred seen inside) found ≡ Some from → IsExporting known seen.source place from
  named_at place opening from None d a e = absurd (none-some from e)
  named_at place opening from (Some name) d a e = named_by place opening name from d a e

  named_in : (place : ℕ) (from : Whence) (found : Option ℕ) → default_at seen.source place ≡ found
      → option_and_then (referred seen inside) (option_and_then (at named) found) ≡ Some from → IsExporting known seen.source place from
  named_in place from None d e = absurd (none-some from e)
  named_in place from (Some opening) d e = named_at place opening from (at named opening) (default_at_there seen.source place opening d) refl e

  named_there : (place : ℕ) (from : Whence) → named_from seen inside named place ≡ Some from → IsExporting known seen.source place from
  named_there place from e = named_in place from (default_at seen.source place) refl e

  -- ---- what has no name

  unit_binds : (place opening unnamed : ℕ) → IsDefault seen.source opening place → IsUnnamed seen.source opening unnamed
      → (begun_at seen.source (unnamed + 1) ≡ Some part.Class) ⊎ (begun_at seen.source (unnamed + 1) ≡ Some part.Function)
      → (how : BindKind) × BindsUnnamed seen.source place how
  unit_binds place opening unnamed d u (inl class) = (bind.Class, BindsUnnamed.class opening unnamed d u (begun_there seen.source (unnamed + 1) part.Class class))
  unit_binds place opening unnamed d u (inr function) =
      (bind.Function, BindsUnnamed.function opening unnamed d u (begun_there seen.source (unnamed + 1) part.Function function))

  unnamed_binds : (place opening unnamed : ℕ) → IsDefault seen.source opening place → at inside.unnamed opening ≡ Some unnamed
      → (how : BindKind) × BindsUnnamed seen.source place how
  unnamed_binds place opening unnamed d a =
      let noted = chosen (is_unnamed (slice_get seen.source.marks unnamed) && is_unit (begun_at seen.source (unnamed + 1)))
      (default_of seen.source (part_at seen unnamed)) opening
      (entries.noted_there (of_unnamed seen) (length seen.source.marks) opening unnamed inside.unnamed tables.unnamed a) in
      let both = and_parts (is_unnamed (slice_get seen.source.marks unnamed)) (is_unit (begun_at seen.source (unnamed + 1))) noted.0 in
      let within = default_by seen.source opening (part_at seen unnamed) noted.1 in
      unit_binds place opening unnamed d
      (record {
        stands = unnamed_is (slice_get seen.source.marks unnamed) both.0;
        within = facts.directly_there known seen are unnamed opening part.ExportDefault within.0 (begun_here seen.source opening part.ExportDefault within.1);
      }) (unit_is (begun_at seen.source (unnamed + 1)) both.1)

  value_there : (place opening : ℕ) → IsDefault seen.source opening place → begun_at seen.source (place + 1) ≡ Some part.ExportedValue → ExportsValue seen.source opening
  value_there place opening d e =
      let same : place + 1 ≡ opening + 3 = let p = d.place_is in omega arith in
      subst (λ p. IsMark seen.source p (mark.Begin part.ExportedValue)) same (begun_there seen.source (place + 1) part.ExportedValue e)

  binds_by : (place : ℕ) (found : Option ℕ) → default_at seen.source place ≡ found → binds_unnamed seen inside place found ≡ true
      → (how : BindKind) × BindsUnnamed seen.source place how
  binds_by place None d e = absurd (true≢false (sym e))
  binds_by place (Some opening) d e =
      let default = default_at_there seen.source place opening d in
      ⊎_elim
      (λ value. (bind.Const, BindsUnnamed.value opening default (value_there place opening default (value_is (begun_at seen.source (place + 1)) value))))
      (λ unit. let unnamed = is_there (at inside.unnamed opening) unit in unnamed_binds place opening unnamed.0 default unnamed.1)
      (or_cases (is_value (begun_at seen.source (place + 1))) (is_some (at inside.unnamed opening)) e)

  default_number_by : (number : ℕ) (found : Option ℕ) → IsBindingNumber known default_binding found → found ≡ Some number
      → IsBindingNamed known number default_binding
  default_number_by number _ (IsBindingNumber.none none) e = absurd (none-some number e)
  default_number_by number _ (IsBindingNumber.some other h) e = subst (λ n. IsBindingNamed known n default_binding) (same_Some other number e) h

  unnamed_by : (place : ℕ) (from : Whence) (how : BindKind) (found : Option ℕ) → BindsUnnamed seen.source place how → seen.default_binding ≡ found
      → option_map (λ binding. whence.Own binding) found ≡ Some from → IsExporting known seen.source place from
  unnamed_by place from how None b n e = absurd (none-some from e)
  unnamed_by place from how (Some number) b n e =
      subst (IsExporting known seen.source place) (same_Some (whence.Own number) from e)
      (record {
        what = Exportable.unnamed;
        exports = ExportsWhat.unnamed how b;
        origin = ComesFrom.unnamed number (default_number_by number seen.default_binding are.default_number n);
      })

  unnamed_there : (place : ℕ) (from : Whence) → unnamed_from seen inside place ≡ Some from → IsExporting known seen.source place from
  unnamed_there place from e =
      let taken = chosen (binds_unnamed seen inside place (default_at seen.source place)) (option_map (λ binding. whence.Own binding) seen.default_binding) from e in
      let binds = binds_by place (default_at seen.source place) refl taken.0 in
      unnamed_by place from binds.0 seen.default_binding binds.1 refl taken.1

  pub whence_there : (place : ℕ) (from : Whence) → whence_at seen inside named place ≡ Some from → IsExporting known seen.source place from
  whence_there place from e = ⊎_elim (listed_there place from) (λ f. ⊎_elim (space_there place from) (λ g. ⊎_elim (declared_there place from)
      (λ h. ⊎_elim (named_there place from) (unnamed_there place from)
      (first_or (named_from seen inside named place) (unnamed_from seen inside place) from h))
      (first_or (declared_from seen inside place) (else_from (named_from seen inside named place) (unnamed_from seen inside place)) from g))
      (first_or (space_from seen inside place)
      (else_from (declared_from seen inside place) (else_from (named_from seen inside named place) (unnamed_from seen inside place))) from f))
      (first_or (listed_from seen inside place)
      (else_from (space_from seen inside place)
      (else_from (declared_from seen inside place) (else_from (named_from seen inside named place) (unnamed_from seen inside place)))) from e)
