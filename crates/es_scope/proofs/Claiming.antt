-- Claims that are told step by step are those of the definitions.
use Rattle.std.proofs.Common.{◌≡◌, ◌≤◌, ◌↔◌, ℕ, Bool, true, false, cond, [], Option, Some, nat_le, refl, sym, subst, ◌∙◌, true≢false}
use Rattle.std.specs.List.{Contains}
use Rattle.std.proofs.lemmas.Bool.{le-leb, leb-true}
use Rattle.pk_types.proofs.ListMembers.{here, none_in, filtered, unfiltered}
use Rattle.es_scope.specs.declared.kinds.DeclarationKind.{DeclarationKind}
use Rattle.es_scope.specs.declared.kinds.DeclarationKind.TheVariants as kind
use Rattle.es_scope.specs.Source.{Source}
use Rattle.es_scope.specs.Scopes.{BelongsTo}
use Rattle.es_scope.specs.Twice.{HoistsFunctions, IsLexicalIn, IsVarIn, is_lexical}
use Rattle.es_scope.specs.Frames.{scopes_at, frame_at, declared_at, owners_at, owners}
use Rattle.es_scope.specs.Claims.{hoists, lexical_of, lexical_at, vars_of, vars_at}
use Rattle.es_scope.proofs.Basics.{only}
use Rattle.es_scope.proofs.Agreeing.{stands_in, declared_as, belongs_to}
use Rattle.es_scope.proofs.Hoisting.{hoists_functions}

module _ (source : Source) (place : ℕ) where
  owned : (how : DeclarationKind) (scope : ℕ) → declared_at source place ≡ Some how → BelongsTo source place scope
      → Contains (owners place (frame_at source place) (Some how)) scope
  owned how scope e b = subst (λ o. Contains (owners place (frame_at source place) o) scope) e ((belongs_to source place scope).0 b)

  owner : (how : DeclarationKind) (scope : ℕ) → declared_at source place ≡ Some how → Contains (owners place (frame_at source place) (Some how)) scope
      → BelongsTo source place scope
  owner how scope e c = (belongs_to source place scope).1 (subst (λ o. Contains (owners place (frame_at source place) o) scope) (sym e) c)

  lexical_kind : (how : DeclarationKind) → is_lexical how ≡ true → lexical_of source place (Some how) ≡ owners_at source place
  lexical_kind kind.Let e = refl
  lexical_kind kind.Const e = refl
  lexical_kind kind.Class e = refl
  lexical_kind kind.Import e = refl
  lexical_kind _ e = absurd (true≢false (sym e))

  hoists_not : (b : Bool) → hoists source.goal (frame_at source place) ≡ b → ¬ HoistsFunctions source (frame_at source place).scope → b ≡ false
  hoists_not false e none = refl
  hoists_not true e none = absurd (none ((hoists_functions source place).1 e))

  lexical_to : (scope : ℕ) → IsLexicalIn source scope place → Contains (lexical_at source place) scope
  lexical_to scope (IsLexicalIn.by_kind how lexical d b) =
      let e = (declared_as source place how).0 d in
      subst (λ o. Contains (lexical_of source place o) scope) (sym e)
      (subst (λ l. Contains l scope) (sym (lexical_kind how lexical)) ((belongs_to source place scope).0 b))
  lexical_to scope (IsLexicalIn.function d b none) =
      let e = (declared_as source place kind.Function).0 d in
      let own : (frame_at source place).scope ≡ scope = only (frame_at source place).scope scope (owned kind.Function scope e b) in
      let not_so : hoists source.goal (frame_at source place) ≡ false = hoists_not _ refl (subst (λ s. ¬ HoistsFunctions source s) (sym own) none) in
      subst (λ o. Contains (lexical_of source place o) scope) (sym e)
      (subst (λ b. Contains (cond b [] (owners_at source place)) scope) (sym not_so) ((belongs_to source place scope).0 b))

  lexical_function : (scope : ℕ) (b : Bool) → declared_at source place ≡ Some kind.Function → hoists source.goal (frame_at source place) ≡ b
      → Contains (cond b [] (owners_at source place)) scope → IsLexicalIn source scope place
  lexical_function scope true e h c = absurd (none_in scope c)
  lexical_function scope false e h c =
      let belongs = (belongs_to source place scope).1 c in
      let own : (frame_at source place).scope ≡ scope = only (frame_at source place).scope scope (owned kind.Function scope e belongs) in
      IsLexicalIn.function ((declared_as source place kind.Function).1 e) belongs
      (λ so. true≢false (sym ((hoists_functions source place).0 (subst (HoistsFunctions source) (sym own) so)) ∙ h))

  lexical_by : (how : DeclarationKind) (scope : ℕ) → is_lexical how ≡ true → declared_at source place ≡ Some how → Contains (owners_at source place) scope
      → IsLexicalIn source scope place
  lexical_by how scope lexical e c = IsLexicalIn.by_kind how lexical ((declared_as source place how).1 e) ((belongs_to source place scope).1 c)

  lexical_from : (scope : ℕ) (o : Option DeclarationKind) → declared_at source place ≡ o → Contains (lexical_of source place o) scope → IsLexicalIn source scope place
  lexical_from scope (Some kind.Let) e c = lexical_by kind.Let scope refl e c
  lexical_from scope (Some kind.Const) e c = lexical_by kind.Const scope refl e c
  lexical_from scope (Some kind.Class) e c = lexical_by kind.Class scope refl e c
  lexical_from scope (Some kind.Import) e c = lexical_by kind.Import scope refl e c
  lexical_from scope (Some kind.Function) e c = lexical_function scope (hoists source.goal (frame_at source place)) e refl c
  lexical_from scope _ e c = absurd (none_in scope c)

  pub lexical_in : (scope : ℕ) → IsLexicalIn source scope place ↔ Contains (lexical_at source place) scope
  lexical_in scope = (lexical_to scope, lexical_from scope (declared_at source place) refl)

  var_to : (scope : ℕ) → IsVarIn source scope place → Contains (vars_at source place) scope
  var_to scope (IsVarIn.var to d within belongs outward) =
      let e = (declared_as source place kind.Var).0 d in
      let own : (frame_at source place).var_scope ≡ to = only (frame_at source place).var_scope to (owned kind.Var to e belongs) in
      subst (λ o. Contains (vars_of source place o) scope) (sym e)
      (filtered (λ scope. nat_le (frame_at source place).var_scope scope) (scopes_at source place) scope ((stands_in source place scope).0 within)
      (le-leb (frame_at source place).var_scope scope (subst (λ s. s ≤ scope) (sym own) outward)))
  var_to scope (IsVarIn.function d belongs so) =
      let e = (declared_as source place kind.Function).0 d in
      let own : (frame_at source place).scope ≡ scope = only (frame_at source place).scope scope (owned kind.Function scope e belongs) in
      let told = (hoists_functions source place).0 (subst (HoistsFunctions source) (sym own) so) in
      subst (λ o. Contains (vars_of source place o) scope) (sym e)
      (subst (λ b. Contains (cond b (owners_at source place) []) scope) (sym told) ((belongs_to source place scope).0 belongs))

  var_function : (scope : ℕ) (b : Bool) → declared_at source place ≡ Some kind.Function → hoists source.goal (frame_at source place) ≡ b
      → Contains (cond b (owners_at source place) []) scope → IsVarIn source scope place
  var_function scope false e h c = absurd (none_in scope c)
  var_function scope true e h c =
      let belongs = (belongs_to source place scope).1 c in
      let own : (frame_at source place).scope ≡ scope = only (frame_at source place).scope scope (owned kind.Function scope e belongs) in
      IsVarIn.function ((declared_as source place kind.Function).1 e) belongs (subst (HoistsFunctions source) own ((hoists_functions source place).1 h))

  var_from : (scope : ℕ) (o : Option DeclarationKind) → declared_at source place ≡ o → Contains (vars_of source place o) scope → IsVarIn source scope place
  var_from scope (Some kind.Var) e c =
      let kept = unfiltered (λ scope. nat_le (frame_at source place).var_scope scope) (scopes_at source place) scope c in
      IsVarIn.var (frame_at source place).var_scope ((declared_as source place kind.Var).1 e) ((stands_in source place scope).1 kept.0)
      (owner kind.Var _ e (here _ [])) (leb-true _ scope kept.1)
  var_from scope (Some kind.Function) e c = var_function scope (hoists source.goal (frame_at source place)) e refl c
  var_from scope _ e c = absurd (none_in scope c)

  pub var_in : (scope : ℕ) → IsVarIn source scope place ↔ Contains (vars_at source place) scope
  var_in scope = (var_to scope, var_from scope (declared_at source place) refl)
