-- A small outline by hand: in `a=>a` the second name refers to the first.
use Rattle.std.proofs.Common.{◌≡◌, ℕ, zero, suc, false, List, [], ◌∷◌, Option, Some, refl, sym, subst, arith}
use Rattle.std.specs.Prelude.{◌≢◌, ◌≤◌, ⊤, codes, slice_get}
use Rattle.es_tree.specs.declared.tokens.Token.{Token}
use Rattle.es_tree.specs.declared.tokens.TokenKind.TheVariants as token_kind
use Rattle.es_tree.specs.declared.tokens.ProgramGoal.TheVariants.{Script}
use Rattle.es_outline.specs.declared.mark.Mark.{Mark}
use Rattle.es_outline.specs.declared.mark.Mark.TheVariants as mark
use Rattle.es_outline.specs.declared.mark.Role.{Role}
use Rattle.es_outline.specs.declared.mark.Role.TheVariants as is
use Rattle.es_outline.specs.declared.mark.Part.{Part}
use Rattle.es_outline.specs.declared.mark.Part.TheVariants as part
use Rattle.es_outline.specs.Outline.{Marks}
use Rattle.es_scope.specs.declared.kinds.DeclarationKind.{DeclarationKind}
use Rattle.es_scope.specs.declared.kinds.DeclarationKind.TheVariants as kind
use Rattle.es_scope.specs.Parts.{ends_none, Encloses, EndsAt}
use Rattle.es_scope.specs.Source.{Source, IsMark, HasRole, name_at}
use Rattle.es_scope.specs.Occurrences.{IsDeclared, BoundBy, IsOccurrence}
use Rattle.es_scope.specs.Scopes.{StandsIn, BelongsTo, Declares, is_scope}
use Rattle.es_scope.specs.Refers.{Refers}
use Rattle.es_scope.specs.Around.{IsParenthesised, IsCalled}
use Rattle.es_scope.specs.Occurrences.{UpdatedFrom, IsUpdated}
use Rattle.es_scope.proofs.Agreeing.{belonging_token}

abbrev token : ℕ → ℕ → Token
token start end = record { kind = token_kind.IdName; newline = false; start = start; end = end }

abbrev arrow_marks : Marks
arrow_marks =
    mark.Begin part.Arrow ∷ mark.Token is.Bound (token 0 1) ∷ mark.Token is.Plain (token 1 3) ∷ mark.Token is.Reference (token 3 4)
    ∷ mark.End part.Arrow ∷ mark.NoSemicolon ∷ []

abbrev arrow : Source
arrow = record { text = codes "a=>a"; goal = Script; marks = arrow_marks }

around_bound : Encloses arrow_marks part.Arrow 0 1
unfolding ends_none
around_bound = record { begins = refl; before = omega arith; unended = refl }

around_reference : Encloses arrow_marks part.Arrow 0 3
unfolding ends_none
around_reference = record { begins = refl; before = omega arith; unended = refl }

ends_behind : EndsAt arrow_marks part.Arrow 0 4
unfolding ends_none
ends_behind = record { encloses = record { begins = refl; before = omega arith; unended = refl }; ends = refl; ended = refl }

-- the mark begins no part
abbrev IsNoBegin : Option Mark → Type 0
IsNoBegin (Some (mark.Begin which)) = ⊥
IsNoBegin _ = ⊤

begins_once : (which : Part) (opening : ℕ) → slice_get arrow_marks opening ≡ Some (mark.Begin which) → opening ≡ 0
begins_once which zero h = refl
begins_once which (suc zero) h = absurd (subst IsNoBegin h tt)
begins_once which (suc (suc zero)) h = absurd (subst IsNoBegin h tt)
begins_once which (suc (suc (suc zero))) h = absurd (subst IsNoBegin h tt)
begins_once which (suc (suc (suc (suc zero)))) h = absurd (subst IsNoBegin h tt)
begins_once which (suc (suc (suc (suc (suc zero))))) h = absurd (subst IsNoBegin h tt)
begins_once which (suc (suc (suc (suc (suc (suc n)))))) h = absurd (subst IsNoBegin h tt)

-- each scope of the outline is the top or the arrow function
scopes_of : (place scope : ℕ) → StandsIn is_scope arrow_marks place scope → scope ≤ 1
scopes_of place _ StandsIn.top = omega arith
scopes_of place _ (StandsIn.enclosed which opening k e) = let h : opening ≡ 0 = begins_once which opening e.begins in omega (arith, h)

bound_by : BoundBy arrow 1 part.Arrow 0
bound_by = record {
  kind = refl;
  encloses = around_bound;
  nearest = λ other further k e. let h : further ≡ 0 = begins_once other further e.begins in omega (arith, h);
}

parameter : IsDeclared arrow 1 kind.Parameter
parameter = IsDeclared.arrow_parameter 0 (token 0 1, refl) bound_by

abbrev IsNoParameter : DeclarationKind → Type 0
IsNoParameter kind.Parameter = ⊥
IsNoParameter _ = ⊤

parameter_not_var : kind.Parameter ≢ kind.Var
parameter_not_var h = subst IsNoParameter (sym h) tt

belongs : BelongsTo arrow 1 1
belongs = BelongsTo.other kind.Parameter 1 parameter parameter_not_var
    (record { stands = StandsIn.enclosed part.Arrow 0 refl around_bound; nearest = λ other s. scopes_of 1 other s })

abbrev IsNoToken : Option Mark → Type 0
IsNoToken (Some (mark.Token role t)) = ⊥
IsNoToken _ = ⊤

abbrev IsNoFunction : Option Mark → Type 0
IsNoFunction (Some (mark.Begin part.Function)) = ⊥
IsNoFunction _ = ⊤

token_behind : (place : ℕ) → ((role : Role) × HasRole arrow place role) → 1 ≤ place
token_behind zero x = absurd (subst IsNoToken x.1.1 tt)
token_behind (suc n) x = omega arith

function_behind : (place : ℕ) → IsMark arrow place (mark.Begin part.Function) → 1 ≤ place
function_behind zero h = absurd (subst IsNoFunction h tt)
function_behind (suc n) h = omega arith

first_at : (name : List ℕ) (place : ℕ) → Declares arrow 1 name place → 1 ≤ place
first_at name _ (Declares.named p b s) = token_behind p (belonging_token arrow p 1 b)
first_at name _ (Declares.by_function p h e f) = function_behind p h

-- the second `a` refers to the first
refers : Refers arrow 3 1 1
refers = record {
  occurs = IsOccurrence.referred (token 3 4, refl);
  within = StandsIn.enclosed part.Arrow 0 refl around_reference;
  declares = Declares.named 1 belongs refl;
  innermost = λ other place s d. scopes_of 3 other s;
  first = λ place d. first_at (name_at arrow 3) place d;
}

-- `((a))++` reads and writes `a`
abbrev update : Source
update = record {
  text = codes "((a))++";
  goal = Script;
  marks = mark.Token is.Opens (token 0 1) ∷ mark.Token is.Opens (token 1 2) ∷ mark.Token is.Reference (token 2 3) ∷ mark.Assigned
      ∷ mark.Token is.Closes (token 3 4) ∷ mark.Token is.Closes (token 4 5) ∷ mark.Updated ∷ mark.Token is.Plain (token 5 7) ∷ mark.NoSemicolon ∷ [];
}

updates : IsUpdated update 2
updates = record {
  assigned = refl;
  updated = UpdatedFrom.further 4 (token 3 4, refl) (UpdatedFrom.further 5 (token 4 5, refl) (UpdatedFrom.here 6 refl));
}

-- `(n)()` calls `n`
abbrev called : Source
called = record {
  text = codes "(n)()";
  goal = Script;
  marks = mark.Token is.Opens (token 0 1) ∷ mark.Token is.Reference (token 1 2) ∷ mark.Token is.Closes (token 2 3) ∷ mark.Call
      ∷ mark.Token is.Plain (token 3 4) ∷ mark.Token is.Plain (token 4 5) ∷ mark.NoSemicolon ∷ [];
}

calls : IsCalled called 1 1
calls = record {
  outer = 0;
  end = 2;
  parentheses = IsParenthesised.more 0 1 1 refl IsParenthesised.bare (token 0 1, refl) (token 2 3, refl);
  call = refl;
}
