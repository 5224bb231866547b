-- The sites of a module: what is written anew where its body is spelled.
use Rattle.std.specs.Prelude.{◌≡◌, ◌≢◌, ◌⊎◌, ℕ, ◌+◌, ◌<◌, Bool, true, false, List, Some, IsSomeAnd, slice_get}
use Rattle.es_tree.specs.declared.tokens.Token.{Token}
use Rattle.es_tree.specs.declared.tokens.ProgramGoal.TheVariants.{Script, Module}
use Rattle.es_outline.specs.declared.mark.Mark.TheVariants as mark
use Rattle.es_outline.specs.declared.mark.Role.{Role}
use Rattle.es_outline.specs.declared.mark.Role.TheVariants as is
use Rattle.es_outline.specs.declared.mark.Part.TheVariants as part
use Rattle.pk_types.specs.declared.facts.Site.{Site}
use Rattle.pk_types.specs.declared.facts.SiteKind.{SiteKind}
use Rattle.pk_types.specs.declared.facts.SiteKind.TheVariants as site
use Rattle.pk_types.specs.declared.facts.Ref.{Ref}
use Rattle.pk_types.specs.declared.facts.Ref.TheVariants as ref
use Rattle.pk_types.specs.declared.facts.BindKind.{BindKind}
use Rattle.pk_types.specs.declared.facts.BindKind.TheVariants as bind
use Rattle.es_scope.specs.declared.kinds.DeclarationKind.{DeclarationKind}
use Rattle.es_scope.specs.declared.kinds.DeclarationKind.TheVariants as kind
use Rattle.es_scope.specs.Parts.{Encloses}
use Rattle.es_scope.specs.Source.{Source, IsMark, IsToken, HasRole, name_at}
use Rattle.es_scope.specs.Occurrences.{IsDeclared, BoundBy, IsAssigned, IsUpdated}
use Rattle.es_scope.specs.Refers.{Refers}
use Rattle.es_scope.specs.Asking.{AsksFor, ImportsText, CallsRequire}
use Rattle.es_scope.specs.Declaring.{StartsAt, Imports, IsImport, IsRequestOf, IsBindKind, BindsUnnamed, default_binding}
use Rattle.es_scope.specs.Known.{Known, IsBindingNamed}
use Rattle.es_scope.specs.Around.{IsDeleted}

-- a token stands at the place that ends before this byte
abbrev pub EndsBehind : Source → ℕ → ℕ → Type 0
EndsBehind source place end = (role : Role) × (token : Token) × IsToken source place role token × (end ≡ token.end)

-- The occurrence refers to a name of the top that is declared here, or is imported by name.
pub data RefersTo (source : Source) (known : Known) (place : ℕ) : Ref → Type 0 where
  own : (declaration number : ℕ) (manner : DeclarationKind) (how : BindKind) → Refers source place 0 declaration → IsDeclared source declaration manner
      → IsBindKind manner how → IsBindingNamed known number (name_at source place) → RefersTo source known place (ref.Own number)
  imported : (declaration said number : ℕ) (name : List ℕ) → Refers source place 0 declaration → Imports source declaration (Some name) said
      → IsSomeAnd (slice_get known.imports number) (IsImport source known declaration) → RefersTo source known place (ref.Imported number)

-- the occurrence refers to the namespace of the request of this number
pub record RefersToSpace (source : Source) (known : Known) (place number : ℕ) : Type 0 where
  pub declaration : ℕ
  pub refers : Refers source place 0 declaration
  pub space : HasRole source declaration is.ImportedSpace
  pub request : IsRequestOf source known declaration number

-- a pattern of the declaration by which the name at the place is bound holds it
pub record IsInPattern (source : Source) (place opening : ℕ) : Type 0 where
  pub pattern : ℕ
  pub behind : opening < pattern
  pub encloses : Encloses source.marks part.Pattern pattern place

-- the name that a `var` binds at the place is given a value there
pub data IsGiven (source : Source) (place : ℕ) : Type 0 where
  initialized : HasRole source (place + 1) is.Initializes → IsGiven source place
  iterated : IsMark source (place + 1) mark.Iterated → IsGiven source place
  pattern : (opening : ℕ) → BoundBy source place part.Declaration opening → IsInPattern source place opening → IsGiven source place

-- declarations that give their name its first value
abbrev pub is_initial : DeclarationKind → Bool
is_initial kind.Let = true
is_initial kind.Const = true
is_initial kind.Class = true
is_initial _ = false

-- `name.other`, where `other` stands at the place behind the dot
pub record IsMember (source : Source) (place : ℕ) : Type 0 where
  pub refers : HasRole source place is.Reference
  pub dot : HasRole source (place + 1) is.Dot
  pub kept : ¬ IsAssigned source (place + 2)
  pub left : ¬ IsDeleted source place (place + 2)

-- the site goes from one token to another, and does this
pub record Covers (source : Source) (first last : ℕ) (what : SiteKind) (one_site : Site) : Type 0 where
  pub does : one_site.kind ≡ what
  pub starts : StartsAt source first one_site.start
  pub ends : EndsBehind source last one_site.end

-- What the module does at the place, up to the token at `last`. A name that is updated is read where it stands, and written at the mark
-- behind it that it is assigned to.
pub data Does (source : Source) (known : Known) : ℕ → ℕ → ℕ → SiteKind → Type 0 where
  begins : (place binding : ℕ) (how : DeclarationKind) → IsDeclared source place how → is_initial how ≡ true
      → RefersTo source known place (ref.Own binding) → Does source known place place place (site.Init binding)
  begins_unnamed : (place binding : ℕ) (how : BindKind) → BindsUnnamed source place how → how ≢ bind.Function → IsBindingNamed known binding default_binding
      → Does source known place place place (site.Init binding)
  gives : (place : ℕ) (to : Ref) → IsDeclared source place kind.Var → IsGiven source place → RefersTo source known place to
      → Does source known place place place (site.Write to)
  reads : (place : ℕ) (to : Ref) → HasRole source place is.Reference → IsUpdated source place ⊎ ¬ IsAssigned source place → RefersTo source known place to
      → Does source known place place place (site.Read to)
  writes : (place : ℕ) (to : Ref) → HasRole source place is.Reference → IsAssigned source place → RefersTo source known place to
      → Does source known (place + 1) place place (site.Write to)
  member : (place request : ℕ) → IsMember source place → RefersToSpace source known place request
      → Does source known place place (place + 2) (site.Member request (name_at source (place + 2)))
  space : (place request : ℕ) → HasRole source place is.Reference → ¬ IsMember source place → RefersToSpace source known place request
      → Does source known place place place (site.Space request)

-- what it calls for
pub data CallsFor (source : Source) (known : Known) : ℕ → ℕ → SiteKind → Type 0 where
  import : (place request right : ℕ) (value : List ℕ) → ImportsText source place value right
      → IsSomeAnd (slice_get known.requests request) (AsksFor source place) → CallsFor source known place right (site.Import request)
  require : (place request right : ℕ) (value : List ℕ) → source.goal ≡ Script → CallsRequire source place value right
      → IsSomeAnd (slice_get known.requests request) (AsksFor source place) → CallsFor source known place right (site.Require request)

-- the site that stands at the place; a script's calls alone are sites
pub data IsSite (source : Source) (known : Known) (place : ℕ) (one_site : Site) : Type 0 where
  does : (first last : ℕ) (what : SiteKind) → source.goal ≡ Module → Does source known place first last what → Covers source first last what one_site
      → IsSite source known place one_site
  calls : (last : ℕ) (what : SiteKind) → CallsFor source known place last what → Covers source place last what one_site
      → IsSite source known place one_site
