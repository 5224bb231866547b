-- What is known of the parts that are open at a place: the innermost scope, the innermost one that a `var` belongs to, and what binds.
use Rattle.std.specs.Prelude.{ℕ, zero, suc, ◌+◌, Bool, if◌then◌else◌, List, [], ◌∷◌, ◌++◌, Option, Some, None, map, slice_get, codes}
use Rattle.std.specs.Str.{bytes_eq}
use Rattle.es_outline.specs.declared.mark.Mark.{Mark}
use Rattle.es_outline.specs.declared.mark.Mark.TheVariants as mark
use Rattle.es_outline.specs.declared.mark.Role.{Role}
use Rattle.es_outline.specs.declared.mark.Role.TheVariants as is
use Rattle.es_outline.specs.declared.mark.Part.{Part}
use Rattle.es_outline.specs.declared.mark.Part.TheVariants as part
use Rattle.es_outline.specs.Outline.{Marks}
use Rattle.es_scope.specs.declared.kinds.DeclarationKind.{DeclarationKind}
use Rattle.es_scope.specs.declared.kinds.DeclarationKind.TheVariants as kind
use Rattle.es_scope.specs.declared.frame.Frame.{Frame}
use Rattle.es_scope.specs.declared.frame.Binder.{Binder}
use Rattle.es_scope.specs.declared.frame.Binder.TheVariants as binder
use Rattle.es_scope.specs.Source.{Source, spelled_at, name_at}
use Rattle.es_scope.specs.Scopes as scopes

abbrev pub is_scope : Part → Bool
is_scope = scopes.is_scope

abbrev pub is_var_scope : Part → Bool
is_var_scope = scopes.is_var_scope

-- outside of all parts
abbrev pub outermost : Frame
outermost = record { scope = 0; var_scope = 0; binder = binder.None }

abbrev pub innermost : List Frame → Frame
innermost [] = outermost
innermost (frame ∷ frames) = frame

abbrev pub binder_in : Part → ℕ → Binder → Binder
binder_in part.Declaration place outer = binder.Declaration place
binder_in part.Function place outer = binder.Parameters
binder_in part.Arrow place outer = binder.Parameters
binder_in part.Catch place outer = binder.Catch
binder_in _ place outer = outer

-- what is known within a part that begins at the place
abbrev pub framed : Part → ℕ → Frame → Frame
framed which place outer = record {
  scope = if is_scope which then place + 1 else outer.scope;
  var_scope = if is_var_scope which then place + 1 else outer.var_scope;
  binder = binder_in which place outer.binder;
}

abbrev pub entered : Part → ℕ → List Frame → List Frame
entered which place frames = framed which place (innermost frames) ∷ frames

abbrev pub left : List Frame → List Frame
left [] = []
left (frame ∷ frames) = frames

abbrev pub behind : Mark → ℕ → List Frame → List Frame
behind (mark.Begin which) place frames = entered which place frames
behind (mark.End which) place frames = left frames
behind _ place frames = frames

abbrev pub behind_any : Option Mark → ℕ → List Frame → List Frame
behind_any (Some one_mark) place frames = behind one_mark place frames
behind_any None place frames = frames

-- of the parts that are open at the place, the innermost first
unfoldable pub frames_at : Marks → ℕ → List Frame
frames_at marks zero = []
frames_at marks (suc place) = behind_any (slice_get marks place) place (frames_at marks place)

abbrev pub frame_at : Source → ℕ → Frame
frame_at source place = innermost (frames_at source.marks place)

-- the scopes that the place stands in, the innermost first; some of them several times
abbrev pub scopes_of : List Frame → List ℕ
scopes_of frames = map (λ frame. frame.scope) frames ++ 0 ∷ []

abbrev pub scopes_at : Source → ℕ → List ℕ
scopes_at source place = scopes_of (frames_at source.marks place)

-- what the word of a declaration declares
abbrev pub kind_of_word : List ℕ → Option DeclarationKind
kind_of_word word = if bytes_eq word (codes "var") then Some kind.Var
    else (if bytes_eq word (codes "let") then Some kind.Let else (if bytes_eq word (codes "const") then Some kind.Const else None))

abbrev pub bound_by : Source → Binder → Option DeclarationKind
bound_by source (binder.Declaration opening) = kind_of_word (spelled_at source (opening + 1))
bound_by source binder.Parameters = Some kind.Parameter
bound_by source binder.Catch = Some kind.Catch
bound_by source binder.None = None

-- how a name of the role is declared, if it is
abbrev pub role_declares : Source → Role → Frame → Option DeclarationKind
role_declares source is.Bound frame = bound_by source frame.binder
role_declares source is.FunctionName frame = Some kind.Function
role_declares source is.ClassName frame = Some kind.Class
role_declares source is.Imported frame = Some kind.Import
role_declares source is.ImportedDefault frame = Some kind.Import
role_declares source is.ImportedSpace frame = Some kind.Import
role_declares source _ frame = None

abbrev pub mark_declares : Source → Option Mark → Frame → Option DeclarationKind
mark_declares source (Some (mark.Token role token)) frame = role_declares source role frame
mark_declares source _ frame = None

abbrev pub declared_at : Source → ℕ → Option DeclarationKind
declared_at source place = mark_declares source (slice_get source.marks place) (frame_at source place)

-- the scopes that a declaration belongs to
abbrev pub owners : ℕ → Frame → Option DeclarationKind → List ℕ
owners place frame (Some kind.Var) = frame.var_scope ∷ []
owners place frame (Some kind.Class) = frame.scope ∷ (place + 2) ∷ []
owners place frame (Some how) = frame.scope ∷ []
owners place frame None = []

abbrev pub owners_at : Source → ℕ → List ℕ
owners_at source place = owners place (frame_at source place) (declared_at source place)

-- which scopes get which name by the mark at the place
abbrev pub gives : Source → ℕ → Option Mark → List (ℕ × List ℕ)
gives source place (Some (mark.Begin part.Function)) = (place + 1, scopes.arguments) ∷ []
gives source place _ = map (λ scope. (scope, name_at source place)) (owners_at source place)

abbrev pub given_at : Source → ℕ → List (ℕ × List ℕ)
given_at source place = gives source place (slice_get source.marks place)
