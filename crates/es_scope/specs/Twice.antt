-- Names that a scope declares twice: two lexical declarations, or one and a `var` in it or through it. Parameters and the names of `catch`
-- are neither.
use Rattle.std.specs.Prelude.{◌≡◌, ℕ, ◌+◌, ◌<◌, ◌≤◌, Bool, true, false, Option, Some, None}
use Rattle.es_tree.specs.declared.tokens.ProgramGoal.TheVariants.{Script}
use Rattle.es_outline.specs.declared.mark.Mark.TheVariants as mark
use Rattle.es_outline.specs.declared.mark.Part.{Part}
use Rattle.es_scope.specs.declared.kinds.DeclarationKind.{DeclarationKind}
use Rattle.es_scope.specs.declared.kinds.DeclarationKind.TheVariants as kind
use Rattle.es_scope.specs.Source.{Source, IsMark, name_at}
use Rattle.es_scope.specs.Occurrences.{IsDeclared}
use Rattle.es_scope.specs.Scopes.{BelongsTo, is_var_scope}
use Rattle.es_scope.specs.Refers.{IsWithin}

abbrev pub is_lexical : DeclarationKind → Bool
is_lexical kind.Let = true
is_lexical kind.Const = true
is_lexical kind.Class = true
is_lexical kind.Import = true
is_lexical _ = false

-- functions of the scope are like `var`: it is the body of a function, a static block or the top of a script
pub data HoistsFunctions (source : Source) : ℕ → Type 0 where
  script : source.goal ≡ Script → HoistsFunctions source 0
  body : (which : Part) (opening : ℕ) → is_var_scope which ≡ true → IsMark source opening (mark.Begin which) → HoistsFunctions source (opening + 1)

-- the place has a lexical declaration of the scope
pub data IsLexicalIn (source : Source) (scope place : ℕ) : Type 0 where
  by_kind : (how : DeclarationKind) → is_lexical how ≡ true → IsDeclared source place how → BelongsTo source place scope
      → IsLexicalIn source scope place
  function : IsDeclared source place kind.Function → BelongsTo source place scope → ¬ HoistsFunctions source scope → IsLexicalIn source scope place

-- the place has a `var` in the scope or through it, or a function that is like one
pub data IsVarIn (source : Source) (scope place : ℕ) : Type 0 where
  var : (to : ℕ) → IsDeclared source place kind.Var → IsWithin source place scope → BelongsTo source place to → to ≤ scope → IsVarIn source scope place
  function : IsDeclared source place kind.Function → BelongsTo source place scope → HoistsFunctions source scope → IsVarIn source scope place

-- the two places clash in the scope
pub data Clash (source : Source) (scope place other : ℕ) : Type 0 where
  both : IsLexicalIn source scope place → IsLexicalIn source scope other → Clash source scope place other
  first : IsLexicalIn source scope place → IsVarIn source scope other → Clash source scope place other
  second : IsVarIn source scope place → IsLexicalIn source scope other → Clash source scope place other

-- the declaration at the place is one too many
pub record IsTwice (source : Source) (place : ℕ) : Type 0 where
  pub scope : ℕ
  pub earlier : ℕ
  pub before : earlier < place
  pub clash : Clash source scope earlier place
  pub same : name_at source earlier ≡ name_at source place

-- the first place that is one too many, if there is one
pub data IsFirstTwice (source : Source) : Option ℕ → Type 0 where
  none : ((place : ℕ) → ¬ IsTwice source place) → IsFirstTwice source None
  some : (place : ℕ) → IsTwice source place → ((other : ℕ) → IsTwice source other → place ≤ other) → IsFirstTwice source (Some place)
