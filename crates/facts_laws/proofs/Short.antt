-- Each list of the facts of a text has no more items than the text has marks, and a few more.
use Rattle.std.proofs.Common.{◌≡◌, ℕ, ◌+◌, ◌<◌, ◌≤◌, List, ◌∷◌, length, map, get_or, sym, ap, subst, ◌∙◌, arith, is_eq}
use Rattle.std.specs.List.{Contains, IsDistinct, range_with_len}
use Rattle.std.specs.Str.{bytes_eq}
use Rattle.std.proofs.lemmas.Cmp.{nat_list_eq_equiv}
use Rattle.std.proofs.lemmas.List.FromFn.{length-map-range_with_len}
use Rattle.std.proofs.lemmas.Map.Keys.{IsDistinct-from_apart}
use Rattle.std.proofs.lemmas.Map.Made.{length-le_from_is_member}
use Rattle.std.proofs.lemmas.Map.Text.{is_eq-slice_cmp}
use Rattle.std.proofs.lemmas.Map.Views.{list_any-from_Contains, Contains-from_any}
use Rattle.std.proofs.lemmas.Slice.Eq.{bytes_eq-Decides}
use Rattle.pk_types.proofs.ListMembers.{here, there, in_range, mapped}
use Rattle.pk_types.specs.ExportedNames.{AreInByteOrder}
use Rattle.pk_types.specs.Places.{IsShort, HasShortLists}
use Rattle.pk_types.specs.declared.facts.Binding.{Binding}
use Rattle.pk_types.specs.declared.facts.Facts.{Facts}
use Rattle.pk_types.specs.declared.facts.Request.{Request}
use Rattle.pk_types.specs.declared.facts.Site.{Site}
use Rattle.pk_types.specs.declared.facts.SiteKind.{SiteKind}
use Rattle.es_outline.specs.declared.mark.Mark.TheVariants as mark
use Rattle.es_outline.specs.declared.mark.Role.TheVariants as is
use Rattle.es_outline.specs.declared.mark.Part.TheVariants as part
use Rattle.es_scope.specs.Source.{Source, name_at}
use Rattle.es_scope.specs.Known.{Known, known_of}
use Rattle.es_scope.specs.Occurrences.{IsOccurrence}
use Rattle.es_scope.specs.Scopes.{BelongsTo, Declares, arguments}
use Rattle.es_scope.specs.Asking.{AsksFor, AsksFirst}
use Rattle.es_scope.specs.Declaring.{IsBinding, IsImport}
use Rattle.es_scope.specs.Exporting.{IsExport}
use Rattle.es_scope.specs.SiteRules.{Does, IsSite}
use Rattle.es_scope.specs.FactsOf.{IsOrdered, IsStar, IsUsedFree, AreFacts}
use Rattle.facts_laws.specs.Conditions.{HasFewMarks}
use Rattle.facts_laws.proofs.Listing.{few_items}
use Rattle.facts_laws.proofs.Marks.{mark_within, role_within, start_within, imported_role, occurrence_within}
use Rattle.facts_laws.proofs.Bindings.{unnamed_default}

-- names that are in byte order are no more than those that they are among
apart : (names : List (List ℕ)) → AreInByteOrder names → IsDistinct bytes_eq names
apart names order = IsDistinct-from_apart bytes_eq names (λ i j d less inside.
    sym (is_eq-slice_cmp (get_or names i d) (get_or names j d)) ∙ ap is_eq (order i j d less inside))

few_names : (names others : List (List ℕ)) → AreInByteOrder names → ((name : List ℕ) → Contains names name → Contains others name)
    → length names ≤ length others
few_names names others order among = length-le_from_is_member nat_list_eq_equiv names others (apart names order)
    (λ name e. list_any-from_Contains nat_list_eq_equiv name others
    (among name (Contains-from_any (λ a b same. (bytes_eq-Decides a b).0 same) name names e)))

module _ (source : Source) where
  -- places of items
  asked_within : (place : ℕ) (request : Request) → AsksFor source place request → place < length source.marks
  asked_within place _ (AsksFor.declared value h s not_json) = role_within source place is.Request h
  asked_within place _ (AsksFor.json value h s json) = role_within source place is.Request h
  asked_within place _ (AsksFor.imported value right h) = role_within source place is.ImportCall h.word
  asked_within place _ (AsksFor.required value right script h) = occurrence_within source place h.free.0.occurs

  binding_within : (place : ℕ) (binding : Binding) → IsBinding source place binding → place < length source.marks + 2
  binding_within place _ (IsBinding.named how own) =
      let within = occurrence_within source place (IsOccurrence.declared own.manner own.declared) in
      omega arith
  binding_within place _ (IsBinding.unnamed how own) =
      let one = unnamed_default source place how own in
      let within = mark_within source one.0 (mark.Begin part.ExportDefault) one.1.begins in
      omega (arith, one.1.place_is)

  does_near : (known : Known) (place first last : ℕ) (what : SiteKind) → Does source known place first last what → place < first + 2
  does_near known _ _ _ _ (Does.begins place binding how declared initial refers) = omega arith
  does_near known _ _ _ _ (Does.begins_unnamed place binding how binds other named) = omega arith
  does_near known _ _ _ _ (Does.gives place to declared given refers) = omega arith
  does_near known _ _ _ _ (Does.reads place to role kept refers) = omega arith
  does_near known _ _ _ _ (Does.writes place to role assigned refers) = omega arith
  does_near known _ _ _ _ (Does.member place request member refers) = omega arith
  does_near known _ _ _ _ (Does.space place request role alone refers) = omega arith

  site_within : (known : Known) (place : ℕ) (item : Site) → IsSite source known place item → place < length source.marks + 2
  site_within known place item (IsSite.does first last what goal h covers) =
      let near = does_near known place first last what h in
      let within = start_within source first item.start covers.starts in
      omega arith
  site_within known place item (IsSite.calls last what h covers) =
      let within = start_within source place item.start covers.starts in
      omega arith

  -- names
  abbrev all_names : List (List ℕ)
  all_names = map (name_at source) (range_with_len 0 (length source.marks))

  name_there : (place : ℕ) (name : List ℕ) → place < length source.marks → name_at source place ≡ name → Contains all_names name
  name_there place name within same = subst (Contains all_names) same
      (mapped (name_at source) (range_with_len 0 (length source.marks)) place (in_range 0 (length source.marks) place (omega arith) (omega arith)))

  free_there : (name : List ℕ) → IsUsedFree source name → Contains all_names name
  free_there name used = name_there used.0 name (role_within source used.0 is.Reference used.1) used.2.1

  belongs_within : (place scope : ℕ) → BelongsTo source place scope → place < length source.marks
  belongs_within place _ (BelongsTo.var scope declared nearest) = occurrence_within source place (IsOccurrence.declared _ declared)
  belongs_within place _ (BelongsTo.other how scope declared other nearest) = occurrence_within source place (IsOccurrence.declared how declared)
  belongs_within place _ (BelongsTo.own_class role) = role_within source place is.ClassName role

  inner_there : (scope : ℕ) (name : List ℕ) (place : ℕ) → Declares source scope name place → Contains (arguments ∷ all_names) name
  inner_there scope name _ (Declares.named place belongs same) =
      there arguments all_names name (name_there place name (belongs_within place scope belongs) same)
  inner_there scope name _ (Declares.by_function opening begins at same) =
      subst (Contains (arguments ∷ all_names)) (sym same) (here arguments all_names)

  many_names : length all_names ≡ length source.marks
  many_names = length-map-range_with_len (name_at source) 0 (length source.marks)

module _ (source : Source) (facts : Facts) (few : HasFewMarks source) (are : AreFacts source facts) where
  short : {A : Type 0} (items : List A) → length items ≤ length source.marks + 2 → IsShort items
  short items no_more = omega arith

  pub has_short_lists : HasShortLists facts
  has_short_lists = record {
    requests = short facts.requests (few_items (AsksFirst source) facts.requests are.requests (length source.marks + 2)
        (λ place request h. let within = asked_within source place request h.asks in omega arith));
    order = short facts.order (few_items (IsOrdered source facts.requests) facts.order are.order (length source.marks + 2)
        (λ place number h. let within = role_within source place is.Request h.is_request in omega arith));
    imports = short facts.imports (few_items (IsImport source (known_of facts)) facts.imports are.imports (length source.marks + 2)
        (λ place entry h.
        let role = imported_role source place h.said entry.name h.imports in
        let within = role_within source place role.0 role.2 in
        omega arith));
    exports = short facts.exports (few_items (IsExport source (known_of facts)) facts.exports are.exports (length source.marks + 2)
        (λ place entry h. let within = start_within source place entry.place h.starts in omega arith));
    stars = short facts.stars (few_items (IsStar source (known_of facts)) facts.stars are.stars (length source.marks + 2)
        (λ place number h.
        let within = mark_within source h.all.opening (mark.Begin part.ExportStar) h.all.begins in
        omega (arith, h.all.place_is)));
    bindings = short facts.bindings (few_items (IsBinding source) facts.bindings are.bindings (length source.marks + 2) (binding_within source));
    sites = short facts.sites (few_items (IsSite source (known_of facts)) facts.sites are.sites (length source.marks + 2) (site_within source (known_of facts)));
    free =
        let no_more = few_names facts.free (all_names source) are.free_order (λ name c. free_there source name ((are.free name).0 c)) in
        let many = many_names source in
        short facts.free (omega arith);
    inner =
        let no_more = few_names facts.inner (arguments ∷ all_names source) are.inner_order
        (λ name c. let one = (are.inner name).0 c in inner_there source one.scope name one.place one.declares) in
        let many = many_names source in
        short facts.inner (omega arith);
  }
