-- What is noted of names while marks are gone through: which scopes have lexical declarations of a name, and which a `var`. A name is told by
-- its number. Only private clauses cite this.
use Rattle.std.specs.Prelude.{◌≡◌, ◌<◌, ◌⊎◌, ◌↔◌, ℕ, Bool, true, false, if◌then◌else◌, List, [], ◌∷◌, Some, nat_le, filter, slice_get}
use Rattle.std.specs.List.{Contains}
use Rattle.es_tree.specs.declared.tokens.ProgramGoal.{ProgramGoal}
use Rattle.es_scope.specs.declared.frame.Frame.{Frame}
use Rattle.es_scope.specs.Source.{Source}
use Rattle.es_scope.specs.Frames.{scopes_of}
use Rattle.es_scope.specs.Claims.{hoists, lexical_at, vars_at}

-- scopes, each with the number of a name that it has
abbrev pub Keys : Type 0
Keys = List (ℕ × ℕ)

pub record Notes : Type 0 where
  pub lexical : Keys
  pub vars : Keys

-- a name, and the scopes in which a mark has a lexical declaration of it, or a `var`
pub record Claim : Type 0 where
  pub number : ℕ
  pub lexical : List ℕ
  pub vars : List ℕ

abbrev pub lexical_claim : ℕ → List ℕ → Claim
lexical_claim number scopes = record { number = number; lexical = scopes; vars = [] }

abbrev pub var_claim : ℕ → List ℕ → Claim
var_claim number scopes = record { number = number; lexical = []; vars = scopes }

-- a `var` goes through the scopes around it, out to its own
abbrev pub through_claim : ℕ → ℕ → List Frame → Claim
through_claim number own frames = var_claim number (filter (nat_le own) (scopes_of frames))

-- what the mark at the place claims
abbrev pub claim_at : Source → ℕ → ℕ → Claim
claim_at source number place = record { number = number; lexical = lexical_at source place; vars = vars_at source place }

-- a function belongs to the innermost scope, and may be like a `var` there
abbrev pub function_claim : ProgramGoal → Frame → ℕ → Claim
function_claim goal frame number = record {
  number = number;
  lexical = if hoists goal frame then [] else frame.scope ∷ [];
  vars = if hoists goal frame then frame.scope ∷ [] else [];
}

-- one of the scopes has the name
abbrev pub HasOne : Keys → List ℕ → ℕ → Type 0
HasOne keys scopes number = (scope : ℕ) × Contains scopes scope × Contains keys (scope, number)

-- the claim clashes with what is noted
pub data Clashes (notes : Notes) (claim : Claim) : Type 0 where
  both : HasOne notes.lexical claim.lexical claim.number → Clashes notes claim
  first : HasOne notes.lexical claim.vars claim.number → Clashes notes claim
  second : HasOne notes.vars claim.lexical claim.number → Clashes notes claim

-- what is noted, and besides that these scopes have the name
abbrev pub AreMore : Keys → List ℕ → ℕ → Keys → Type 0
AreMore old scopes number new = (scope other : ℕ) → Contains new (scope, other) ↔ (Contains old (scope, other) ⊎ (Contains scopes scope × (number ≡ other)))

pub record Adds (old : Notes) (claim : Claim) (new : Notes) : Type 0 where
  pub lexical : AreMore old.lexical claim.lexical claim.number new.lexical
  pub vars : AreMore old.vars claim.vars claim.number new.vars

-- it is told whether the claim clashes; where it does not, it is noted
pub record Takes (old : Notes) (claim : Claim) (new : Notes) (clashes : Bool) : Type 0 where
  pub told : (clashes ≡ true) ↔ Clashes old claim
  pub noted : clashes ≡ false → Adds old claim new

-- a place before the limit claims the scope for the name of this number
pub record IsClaimed (claimed : ℕ → List ℕ) (numbers : List ℕ) (limit scope number : ℕ) : Type 0 where
  pub place : ℕ
  pub before : place < limit
  pub claims : Contains (claimed place) scope
  pub numbered : slice_get numbers place ≡ Some number

abbrev pub AreClaimed : (ℕ → List ℕ) → List ℕ → ℕ → Keys → Type 0
AreClaimed claimed numbers limit keys = (scope number : ℕ) → Contains keys (scope, number) ↔ IsClaimed claimed numbers limit scope number

-- what is noted is what the places before the limit claim
pub record AreNoted (source : Source) (numbers : List ℕ) (limit : ℕ) (notes : Notes) : Type 0 where
  pub lexical : AreClaimed (lexical_at source) numbers limit notes.lexical
  pub vars : AreClaimed (vars_at source) numbers limit notes.vars
