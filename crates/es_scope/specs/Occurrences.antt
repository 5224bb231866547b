-- The occurrences of names: which tokens of an outline declare a name, and how, and which refer to one.
use Rattle.std.specs.Prelude.{◌≡◌, ℕ, ◌+◌, Bool, true, false, List, codes}
use Rattle.es_outline.specs.declared.mark.Mark.TheVariants as mark
use Rattle.es_outline.specs.declared.mark.Role.{Role}
use Rattle.es_outline.specs.declared.mark.Role.TheVariants as is
use Rattle.es_outline.specs.declared.mark.Part.{Part}
use Rattle.es_outline.specs.declared.mark.Part.TheVariants as part
use Rattle.es_scope.specs.declared.kinds.DeclarationKind.{DeclarationKind}
use Rattle.es_scope.specs.declared.kinds.DeclarationKind.TheVariants as kind
use Rattle.es_scope.specs.Parts.{IsDirectlyIn, NearestPart}
use Rattle.es_scope.specs.Source.{Source, IsMark, HasRole, spelled_at}

-- what a BindingIdentifier may be bound by: a declaration, as a parameter, or by `catch`
abbrev pub is_binder : Part → Bool
is_binder part.Declaration = true
is_binder part.Function = true
is_binder part.Arrow = true
is_binder part.Catch = true
is_binder _ = false

abbrev pub BoundBy : Source → ℕ → Part → ℕ → Type 0
BoundBy source place which opening = NearestPart is_binder source.marks place which opening

-- the word of a declaration says what it declares
pub data IsWordOf : DeclarationKind → List ℕ → Type 0 where
  var : IsWordOf kind.Var (codes "var")
  «let» : IsWordOf kind.Let (codes "let")
  const : IsWordOf kind.Const (codes "const")

abbrev pub is_import : Role → Bool
is_import is.Imported = true
is_import is.ImportedDefault = true
is_import is.ImportedSpace = true
is_import _ = false

-- the name at the place is declared there, like this
pub data IsDeclared (source : Source) (place : ℕ) : DeclarationKind → Type 0 where
  by_word : (how : DeclarationKind) (opening : ℕ) → HasRole source place is.Bound → BoundBy source place part.Declaration opening
      → IsWordOf how (spelled_at source (opening + 1)) → IsDeclared source place how
  parameter : (opening : ℕ) → HasRole source place is.Bound → BoundBy source place part.Function opening → IsDeclared source place kind.Parameter
  arrow_parameter : (opening : ℕ) → HasRole source place is.Bound → BoundBy source place part.Arrow opening → IsDeclared source place kind.Parameter
  caught : (opening : ℕ) → HasRole source place is.Bound → BoundBy source place part.Catch opening → IsDeclared source place kind.Catch
  function : HasRole source place is.FunctionName → IsDeclared source place kind.Function
  class : HasRole source place is.ClassName → IsDeclared source place kind.Class
  imported : (role : Role) → is_import role ≡ true → HasRole source place role → IsDeclared source place kind.Import

-- the export list at the place has a request: its first names are those of another module
pub record ExportsFrom (source : Source) (place : ℕ) : Type 0 where
  pub opening : ℕ
  pub request : ℕ
  pub here : IsDirectlyIn source.marks place part.ExportList opening
  pub there : IsDirectlyIn source.marks request part.ExportList opening
  pub is_request : HasRole source request is.Request

-- a name of this module stands at the place
pub data IsOccurrence (source : Source) (place : ℕ) : Type 0 where
  declared : (how : DeclarationKind) → IsDeclared source place how → IsOccurrence source place
  referred : HasRole source place is.Reference → IsOccurrence source place
  exported : HasRole source place is.Exported → ¬ ExportsFrom source place → IsOccurrence source place

-- the name at the place is assigned to
abbrev pub IsAssigned : Source → ℕ → Type 0
IsAssigned source place = IsMark source (place + 1) mark.Assigned

-- from the place on stand any number of `)` behind a target, and then the mark that it is updated
pub data UpdatedFrom (source : Source) : ℕ → Type 0 where
  here : (place : ℕ) → IsMark source place mark.Updated → UpdatedFrom source place
  further : (place : ℕ) → HasRole source place is.Closes → UpdatedFrom source (place + 1) → UpdatedFrom source place

-- the name at the place is assigned to and read before
pub record IsUpdated (source : Source) (place : ℕ) : Type 0 where
  pub assigned : IsAssigned source place
  pub updated : UpdatedFrom source (place + 2)
