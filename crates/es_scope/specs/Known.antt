-- The lists of a module's facts that the numbers in other facts are places of.
use Rattle.std.specs.Prelude.{◌≡◌, ℕ, List, IsSomeAnd, slice_get}
use Rattle.pk_types.specs.declared.facts.Facts.{Facts}
use Rattle.pk_types.specs.declared.facts.Request.{Request}
use Rattle.pk_types.specs.declared.facts.ImportEntry.{ImportEntry}
use Rattle.pk_types.specs.declared.facts.Binding.{Binding}

pub record Known : Type 0 where
  pub requests : List Request
  pub imports : List ImportEntry
  pub bindings : List Binding

abbrev pub known_of : Facts → Known
known_of facts = record { requests = facts.requests; imports = facts.imports; bindings = facts.bindings }

-- the binding of this number has the name
abbrev pub IsBindingNamed : Known → ℕ → List ℕ → Type 0
IsBindingNamed known number name = IsSomeAnd (slice_get known.bindings number) (λ binding. binding.name ≡ name)
