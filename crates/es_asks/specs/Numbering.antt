-- The requests of a text, each with a number, and which of them each place asks for.
use Rattle.std.specs.Prelude.{◌≡◌, ℕ, List, Option, Some, None, IsSomeAnd, length, slice_get}
use Rattle.pk_types.specs.declared.facts.Request.{Request}
use Rattle.es_scope.specs.Source.{Source}
use Rattle.es_scope.specs.Listed.{AreThose}
use Rattle.es_scope.specs.Asking.{AsksFor, AsksFirst}
use Rattle.es_scope.specs.FactsOf.{IsOrdered}
use Rattle.es_asks.specs.declared.asked.Asked.{Asked}

-- the place asks for the request of this number, or for nothing
pub data IsNumber (source : Source) (requests : List Request) (place : ℕ) : Option ℕ → Type 0 where
  none : ((request : Request) → ¬ AsksFor source place request) → IsNumber source requests place None
  some : (number : ℕ) → IsSomeAnd (slice_get requests number) (AsksFor source place) → IsNumber source requests place (Some number)

pub record AreAsked (source : Source) (asked : Asked) : Type 0 where
  pub requests : AreThose (AsksFirst source) asked.requests
  pub order : AreThose (IsOrdered source asked.requests) asked.order
  pub whole : length asked.numbers.items ≡ length source.marks
  pub numbers : (place : ℕ) (number : Option ℕ) → slice_get asked.numbers.items place ≡ Some number → IsNumber source asked.requests place number
