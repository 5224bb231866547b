-- Scopes, and which of them each declaration belongs to. A scope is told by the place of its first mark: 0 is the top, and a part that
-- begins at a place is the scope of the place behind it.
use Rattle.std.specs.Prelude.{◌≡◌, ◌≢◌, ℕ, ◌+◌, ◌≤◌, Bool, true, false, List, codes}
use Rattle.es_outline.specs.declared.mark.Mark.TheVariants as mark
use Rattle.es_outline.specs.declared.mark.Role.TheVariants as is
use Rattle.es_outline.specs.declared.mark.Part.{Part}
use Rattle.es_outline.specs.declared.mark.Part.TheVariants as part
use Rattle.es_outline.specs.Outline.{Marks}
use Rattle.es_scope.specs.declared.kinds.DeclarationKind.{DeclarationKind}
use Rattle.es_scope.specs.declared.kinds.DeclarationKind.TheVariants as kind
use Rattle.es_scope.specs.Parts.{Encloses}
use Rattle.es_scope.specs.Source.{Source, IsMark, HasRole, name_at}
use Rattle.es_scope.specs.Occurrences.{IsDeclared}

-- A function is a scope for its parameters, and its body is another one. The expressions of a function and of a class are scopes for their
-- names alone, and so is each class behind its name.
abbrev pub is_scope : Part → Bool
is_scope part.Function = true
is_scope part.Arrow = true
is_scope part.FunctionBody = true
is_scope part.Block = true
is_scope part.For = true
is_scope part.Switch = true
is_scope part.Catch = true
is_scope part.StaticBlock = true
is_scope part.FunctionExpression = true
is_scope part.ClassExpression = true
is_scope part.Class = true
is_scope _ = false

-- the scopes that a `var` belongs to
abbrev pub is_var_scope : Part → Bool
is_var_scope part.FunctionBody = true
is_var_scope part.StaticBlock = true
is_var_scope _ = false

-- the place stands in the scope: the top, or a part of one of these kinds
pub data StandsIn (kinds : Part → Bool) (marks : Marks) (place : ℕ) : ℕ → Type 0 where
  top : StandsIn kinds marks place 0
  enclosed : (which : Part) (opening : ℕ) → kinds which ≡ true → Encloses marks which opening place → StandsIn kinds marks place (opening + 1)

-- the innermost of these scopes
pub record NearestScope (kinds : Part → Bool) (marks : Marks) (place scope : ℕ) : Type 0 where
  pub stands : StandsIn kinds marks place scope
  pub nearest : (other : ℕ) → StandsIn kinds marks place other → other ≤ scope

-- The declaration at the place belongs to the scope. A class belongs to the scope around it and to its own.
pub data BelongsTo (source : Source) (place : ℕ) : ℕ → Type 0 where
  var : (scope : ℕ) → IsDeclared source place kind.Var → NearestScope is_var_scope source.marks place scope → BelongsTo source place scope
  other : (how : DeclarationKind) (scope : ℕ) → IsDeclared source place how → how ≢ kind.Var → NearestScope is_scope source.marks place scope
      → BelongsTo source place scope
  own_class : HasRole source place is.ClassName → BelongsTo source place (place + 2)

abbrev pub arguments : List ℕ
arguments = codes "arguments"

-- The scope declares the name at the place. A function that is no arrow function declares `arguments` where it begins.
pub data Declares (source : Source) (scope : ℕ) (name : List ℕ) : ℕ → Type 0 where
  named : (place : ℕ) → BelongsTo source place scope → name_at source place ≡ name → Declares source scope name place
  by_function : (opening : ℕ) → IsMark source opening (mark.Begin part.Function) → opening + 1 ≡ scope → name ≡ arguments
      → Declares source scope name opening
