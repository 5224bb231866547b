-- The first construct of a text that is not bundled, if there is one.
use Rattle.std.specs.Prelude.{ℕ, ◌≤◌, Option, Some, None}
use Rattle.es_scope.specs.declared.kinds.Refusal.{Refusal}
use Rattle.es_scope.specs.Source.{Source}
use Rattle.es_scope.specs.Refused.{IsRefused}

pub data IsFirst (source : Source) : Option (ℕ × Refusal) → Type 0 where
  none : ((place : ℕ) (refusal : Refusal) → ¬ IsRefused source place refusal) → IsFirst source None
  some : (place : ℕ) (refusal : Refusal) → IsRefused source place refusal
      → ((other : ℕ) (further : Refusal) → IsRefused source other further → place ≤ other) → IsFirst source (Some (place, refusal))
