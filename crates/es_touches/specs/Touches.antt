-- The touches of a module: stretches of its text that are no site and are written anew all the same.
use Rattle.std.specs.Prelude.{◌≡◌, ℕ, ◌+◌, List, IsSomeAnd, slice_get}
use Rattle.es_tree.specs.declared.tokens.ProgramGoal.TheVariants.{Module}
use Rattle.es_outline.specs.declared.mark.Mark.TheVariants as mark
use Rattle.es_outline.specs.declared.mark.Role.TheVariants as is
use Rattle.es_outline.specs.declared.mark.Part.TheVariants as part
use Rattle.pk_types.specs.declared.facts.Binding.{Binding}
use Rattle.es_scope.specs.declared.kinds.DeclarationKind.TheVariants as kind
use Rattle.es_scope.specs.Source.{Source, IsMark, HasRole, name_at}
use Rattle.es_scope.specs.Occurrences.{IsDeclared}
use Rattle.es_scope.specs.Refers.{Refers, IsFreeNamed}
use Rattle.es_scope.specs.Asking.{require}
use Rattle.es_scope.specs.Around.{IsTypeof}
use Rattle.es_scope.specs.Declaring.{StartsAt, IsUnnamed, default_binding}
use Rattle.es_scope.specs.SiteRules.{IsGiven, EndsBehind}
use Rattle.module_body.specs.declared.touch.Touch.{Touch}
use Rattle.module_body.specs.declared.touch.NewText.{NewText}
use Rattle.module_body.specs.declared.touch.NewText.TheVariants as new_text

-- the binding of this number has the name
abbrev pub IsNamed : List Binding → ℕ → List ℕ → Type 0
IsNamed bindings number name = IsSomeAnd (slice_get bindings number) (λ binding. binding.name ≡ name)

-- the name at the place refers to what the top declares, and this is the binding of that name
pub record IsOwn (source : Source) (bindings : List Binding) (place number : ℕ) : Type 0 where
  pub declaration : ℕ
  pub refers : Refers source place 0 declaration
  pub named : IsNamed bindings number (name_at source place)

-- a name of the top is declared at the place without a value: a function, or by a `var` that gives it none
pub data IsAlone (source : Source) (place : ℕ) : Type 0 where
  function : IsDeclared source place kind.Function → IsAlone source place
  var : IsDeclared source place kind.Var → ¬ IsGiven source place → IsAlone source place

-- the place stands within the class whose name is declared at `class`, and refers to this name
pub record IsWithinClass (source : Source) (place class : ℕ) : Type 0 where
  pub reference : HasRole source place is.Reference
  pub refers : Refers source place (class + 2) class
  pub name : HasRole source class is.ClassName

-- an `export default` of a function without a name begins at `opening`; the mark that it has none stands at the place
pub record ExportsFunction (source : Source) (opening place : ℕ) : Type 0 where
  pub begins : IsMark source opening (mark.Begin part.ExportDefault)
  pub unnamed : IsUnnamed source opening place
  pub function : IsMark source (place + 1) (mark.Begin part.Function)

-- by what stands at the place, the name of the binding of this number is written in the place of the token at `word`
pub data IsRenamed (source : Source) (bindings : List Binding) (place : ℕ) : ℕ → ℕ → Type 0 where
  alone : (number : ℕ) → IsAlone source place → IsOwn source bindings place number → IsRenamed source bindings place place number
  within : (class number : ℕ) → IsWithinClass source place class → IsOwn source bindings class number → IsRenamed source bindings place place number
  default : (opening number : ℕ) → ExportsFunction source opening place → IsNamed bindings number default_binding
      → IsRenamed source bindings place (opening + 2) number

-- `typeof require`, where `require` is free and stands at the place
pub record IsTypeofRequire (source : Source) (before place : ℕ) : Type 0 where
  pub next : before + 1 ≡ place
  pub reference : HasRole source place is.Reference
  pub free : IsFreeNamed source place require
  pub kind : IsTypeof source place

-- the touch goes from one token to another, and writes this
pub record Covers (source : Source) (first last : ℕ) (text : NewText) (touch : Touch) : Type 0 where
  pub writes : touch.text ≡ text
  pub starts : StartsAt source first touch.start
  pub ends : EndsBehind source last touch.end

-- the touch that is told by what stands at the place; names are written anew in modules alone
pub data IsTouch (source : Source) (bindings : List Binding) (place : ℕ) (touch : Touch) : Type 0 where
  name : (word number : ℕ) → source.goal ≡ Module → IsRenamed source bindings place word number → Covers source word word (new_text.Name number) touch
      → IsTouch source bindings place touch
  typeof_require : (before : ℕ) → IsTypeofRequire source before place → Covers source before place new_text.Function touch → IsTouch source bindings place touch
