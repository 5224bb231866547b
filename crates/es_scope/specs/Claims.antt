-- In which scopes the mark at a place has a lexical declaration, and in which it has a `var` or a function that is like one.
use Rattle.std.specs.Prelude.{ℕ, ◌==◌, nat_le, ◌&&◌, ◌||◌, not, Bool, true, false, if◌then◌else◌, List, [], Option, Some, filter}
use Rattle.es_tree.specs.declared.tokens.ProgramGoal.{ProgramGoal}
use Rattle.es_tree.specs.declared.tokens.ProgramGoal.TheVariants.{Script, Module}
use Rattle.es_scope.specs.declared.kinds.DeclarationKind.{DeclarationKind}
use Rattle.es_scope.specs.declared.kinds.DeclarationKind.TheVariants as kind
use Rattle.es_scope.specs.declared.frame.Frame.{Frame}
use Rattle.es_scope.specs.Source.{Source}
use Rattle.es_scope.specs.Frames.{declared_at, frame_at, owners_at, scopes_at}

abbrev pub is_script : ProgramGoal → Bool
is_script Script = true
is_script Module = false

-- functions of the scope are like `var`
abbrev pub hoists : ProgramGoal → Frame → Bool
hoists goal frame = (frame.scope == frame.var_scope) && (not (frame.scope == 0) || is_script goal)

abbrev pub lexical_of : Source → ℕ → Option DeclarationKind → List ℕ
lexical_of source place (Some kind.Let) = owners_at source place
lexical_of source place (Some kind.Const) = owners_at source place
lexical_of source place (Some kind.Class) = owners_at source place
lexical_of source place (Some kind.Import) = owners_at source place
lexical_of source place (Some kind.Function) = if hoists source.goal (frame_at source place) then [] else owners_at source place
lexical_of source place _ = []

abbrev pub lexical_at : Source → ℕ → List ℕ
lexical_at source place = lexical_of source place (declared_at source place)

abbrev pub vars_of : Source → ℕ → Option DeclarationKind → List ℕ
vars_of source place (Some kind.Var) = filter (λ scope. nat_le (frame_at source place).var_scope scope) (scopes_at source place)
vars_of source place (Some kind.Function) = if hoists source.goal (frame_at source place) then owners_at source place else []
vars_of source place _ = []

abbrev pub vars_at : Source → ℕ → List ℕ
vars_at source place = vars_of source place (declared_at source place)
