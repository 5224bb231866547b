-- The sites of a text, by what they do; those of a module use what it declares, and those of a script call.
use Rattle.std.proofs.Common.{◌≡◌, ℕ, false, List, [], ◌∷◌, Option, Some, None, slice_get, refl, sym, subst, ◌∙◌}
use Rattle.std.specs.Prelude.{IfSome, IsSome, IsTrue}
use Rattle.std.specs.List.{All}
use Rattle.std.proofs.lemmas.List.Elements.{All-nil, All-cons}
use Rattle.std.proofs.lemmas.Option.{none-some}
use Rattle.es_tree.specs.declared.tokens.ProgramGoal.TheVariants.{Script, Module}
use Rattle.es_outline.specs.declared.mark.Role.TheVariants as is
use Rattle.pk_types.specs.declared.facts.ImportEntry.{ImportEntry}
use Rattle.pk_types.specs.declared.facts.Ref.{Ref}
use Rattle.pk_types.specs.declared.facts.Request.{Request}
use Rattle.pk_types.specs.declared.facts.Site.{Site}
use Rattle.pk_types.specs.declared.facts.SiteKind.{SiteKind}
use Rattle.pk_types.specs.Sites.{ref_imports, site_imports, space_requests, is_require, is_call}
use Rattle.es_scope.specs.Source.{Source, HasRole}
use Rattle.es_scope.specs.Known.{Known}
use Rattle.es_scope.specs.Listed.{AreThose}
use Rattle.es_scope.specs.Asking.{RequestOf}
use Rattle.es_scope.specs.Declaring.{Imports, IsImport}
use Rattle.es_scope.specs.SiteRules.{RefersTo, RefersToSpace, Does, CallsFor, IsSite}
use Rattle.facts_laws.proofs.Listing.{all_items}
use Rattle.facts_laws.proofs.Marks.{some_so, one_role}

module _ (source : Source) (known : Known) where
  -- what is so of all that is done and called for is so of all sites
  module _ (Q : SiteKind → Type 0) (does : (place first last : ℕ) (what : SiteKind) → source.goal ≡ Module → Does source known place first last what → Q what)
      (calls : (place last : ℕ) (what : SiteKind) → CallsFor source known place last what → Q what) where
    one_site : (place : ℕ) (item : Site) → IsSite source known place item → Q item.kind
    one_site place item (IsSite.does first last what goal h covers) = subst Q (sym covers.does) (does place first last what goal h)
    one_site place item (IsSite.calls last what h covers) = subst Q (sym covers.does) (calls place last what h)

    pub all_sites : (sites : List Site) → AreThose (IsSite source known) sites → All (λ item. Q item.kind) sites
    all_sites sites those = all_items (IsSite source known) sites those (λ item. Q item.kind) one_site

  -- a script has calls alone
  pub script_calls : source.goal ≡ Script → (sites : List Site) → AreThose (IsSite source known) sites → All (λ item. IsTrue (is_call item.kind)) sites
  script_calls script = all_sites (λ what. IsTrue (is_call what)) (λ place first last what goal h. absurd (no_module (sym script ∙ goal))) is_one
    where
      no_module : ¬ (Script ≡ Module)
      no_module e = cc

      is_one : (place last : ℕ) (what : SiteKind) → CallsFor source known place last what → IsTrue (is_call what)
      is_one _ _ _ (CallsFor.import place request right value imports of) = refl
      is_one _ _ _ (CallsFor.require place request right value script calls of) = refl

  module _ (goal : source.goal ≡ Module) where
    -- a module has no `require`
    pub no_require : (sites : List Site) → AreThose (IsSite source known) sites → All (λ item. is_require item.kind ≡ false) sites
    no_require = all_sites (λ what. is_require what ≡ false) is_none is_import
      where
        is_none : (place first last : ℕ) (what : SiteKind) → source.goal ≡ Module → Does source known place first last what → is_require what ≡ false
        is_none _ _ _ _ _ (Does.begins place binding how declared initial refers) = refl
        is_none _ _ _ _ _ (Does.begins_unnamed place binding how binds other named) = refl
        is_none _ _ _ _ _ (Does.gives place to declared given refers) = refl
        is_none _ _ _ _ _ (Does.reads place to role kept refers) = refl
        is_none _ _ _ _ _ (Does.writes place to role assigned refers) = refl
        is_none _ _ _ _ _ (Does.member place request member refers) = refl
        is_none _ _ _ _ _ (Does.space place request role alone refers) = refl

        no_script : ¬ (Module ≡ Script)
        no_script e = cc

        is_import : (place last : ℕ) (what : SiteKind) → CallsFor source known place last what → is_require what ≡ false
        is_import _ _ _ (CallsFor.import place request right value imports of) = refl
        is_import _ _ _ (CallsFor.require place request right value script calls of) = absurd (no_script (sym goal ∙ script))

    -- the request whose namespace is used is that of a declaration
    pub spaces_of : (P : ℕ → Type 0) → ((declaration number : ℕ) (request : Request) → slice_get known.requests number ≡ Some request
        → RequestOf source declaration request → P number)
        → (sites : List Site) → AreThose (IsSite source known) sites → All (λ item. All P (space_requests item.kind)) sites
    spaces_of P so = all_sites (λ what. All P (space_requests what)) is_so no_space
      where
        uses : (place number : ℕ) → RefersToSpace source known place number → All P (number ∷ [])
        uses place number h =
            let found = some_so (RequestOf source h.declaration) (slice_get known.requests number) h.request in
            All-cons P number [] (so h.declaration number found.0 found.1 found.2) (All-nil P)

        is_so : (place first last : ℕ) (what : SiteKind) → source.goal ≡ Module → Does source known place first last what → All P (space_requests what)
        is_so _ _ _ _ _ (Does.begins place binding how declared initial refers) = All-nil P
        is_so _ _ _ _ _ (Does.begins_unnamed place binding how binds other named) = All-nil P
        is_so _ _ _ _ _ (Does.gives place to declared given refers) = All-nil P
        is_so _ _ _ _ _ (Does.reads place to role kept refers) = All-nil P
        is_so _ _ _ _ _ (Does.writes place to role assigned refers) = All-nil P
        is_so _ _ _ _ _ (Does.member place request member refers) = uses place request refers
        is_so _ _ _ _ _ (Does.space place request role alone refers) = uses place request refers

        no_space : (place last : ℕ) (what : SiteKind) → CallsFor source known place last what → All P (space_requests what)
        no_space _ _ _ (CallsFor.import place request right value imports of) = All-nil P
        no_space _ _ _ (CallsFor.require place request right value script calls of) = All-nil P

  -- what is imported by a name is no namespace
  space_unnamed : (place said : ℕ) (name : Option (List ℕ)) → Imports source place name said → HasRole source place is.ImportedSpace → name ≡ None
  space_unnamed place _ _ (Imports.same before next role short) space = let same = one_role source place is.Imported is.ImportedSpace role space in cc
  space_unnamed place _ _ (Imports.renamed outer next role also) space = let same = one_role source place is.Imported is.ImportedSpace role space in cc
  space_unnamed place _ _ (Imports.by_default role) space = let same = one_role source place is.ImportedDefault is.ImportedSpace role space in cc
  space_unnamed place _ _ (Imports.space star next role) space = refl

  has_name : (place said also : ℕ) (name : List ℕ) (found : Option (List ℕ)) → Imports source place (Some name) said → Imports source place found also
      → IsSome found
  has_name place said _ name _ imports (Imports.same before next role short) = refl
  has_name place said _ name _ imports (Imports.renamed outer next role also) = refl
  has_name place said _ name _ imports (Imports.by_default role) = refl
  has_name place said _ name _ imports (Imports.space star next role) = absurd (none-some name (sym (space_unnamed place said (Some name) imports role)))

  -- an import that a site names has a name
  abbrev IsNamedAt : ℕ → Type 0
  IsNamedAt number = IfSome (slice_get known.imports number) (λ entry. IsSome entry.name)

  refers_named : (place : ℕ) (to : Ref) → RefersTo source known place to → All IsNamedAt (ref_imports to)
  refers_named place _ (RefersTo.own declaration number manner how refers declared kind named) = All-nil IsNamedAt
  refers_named place _ (RefersTo.imported declaration said number name refers imports import) =
      let found = some_so (IsImport source known declaration) (slice_get known.imports number) import in
      All-cons IsNamedAt number [] (subst (λ o. IfSome o (λ (entry : ImportEntry). IsSome entry.name)) (sym found.1)
      (has_name declaration said found.2.said name found.0.name imports found.2.imports)) (All-nil IsNamedAt)

  pub imports_named : (sites : List Site) → AreThose (IsSite source known) sites → All (λ item. All IsNamedAt (site_imports item.kind)) sites
  imports_named = all_sites (λ what. All IsNamedAt (site_imports what)) is_so no_import
    where
      is_so : (place first last : ℕ) (what : SiteKind) → source.goal ≡ Module → Does source known place first last what → All IsNamedAt (site_imports what)
      is_so _ _ _ _ _ (Does.begins place binding how declared initial refers) = All-nil IsNamedAt
      is_so _ _ _ _ _ (Does.begins_unnamed place binding how binds other named) = All-nil IsNamedAt
      is_so _ _ _ _ _ (Does.gives place to declared given refers) = refers_named place to refers
      is_so _ _ _ _ _ (Does.reads place to role kept refers) = refers_named place to refers
      is_so _ _ _ _ _ (Does.writes place to role assigned refers) = refers_named place to refers
      is_so _ _ _ _ _ (Does.member place request member refers) = All-nil IsNamedAt
      is_so _ _ _ _ _ (Does.space place request role alone refers) = All-nil IsNamedAt

      no_import : (place last : ℕ) (what : SiteKind) → CallsFor source known place last what → All IsNamedAt (site_imports what)
      no_import _ _ _ (CallsFor.import place request right value imports of) = All-nil IsNamedAt
      no_import _ _ _ (CallsFor.require place request right value script calls of) = All-nil IsNamedAt
