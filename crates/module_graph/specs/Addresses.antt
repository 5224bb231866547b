-- An address is the number of an entry and then numbers of requests. It leads to the module that the requests lead to, one after another.
use Rattle.std.specs.Prelude.{◌≡◌, ℕ, List, [], ◌∷◌, Option, Some, None, slice_get}
use Rattle.std.specs.Option.{option_and_then}
use Rattle.pk_types.specs.declared.graph.Graph.{Graph}

-- the module that a request of a module leads to
abbrev pub target_of : Graph → ℕ → ℕ → Option ℕ
target_of graph number request = option_and_then (λ row. slice_get row.targets request) (slice_get graph.rows number)

-- the module that requests lead to from a module
abbrev pub followed : Graph → ℕ → List ℕ → Option ℕ
followed graph number [] = Some number
followed graph number (request ∷ requests) = option_and_then (λ next. followed graph next requests) (target_of graph number request)

abbrev pub module_at : Graph → List ℕ → Option ℕ
module_at graph [] = None
module_at graph (entry ∷ requests) = option_and_then (λ first. followed graph first requests) (slice_get graph.entries entry)

abbrev pub HasAddress : Graph → ℕ → List ℕ → Type 0
HasAddress graph number address = module_at graph address ≡ Some number
