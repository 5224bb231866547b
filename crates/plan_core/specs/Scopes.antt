-- The scopes of modules that are not concatenated: each module has one of its own.
use Rattle.std.specs.Prelude.{◌≡◌, ℕ, not, ◌==◌, List, [], ◌∷◌, ◌++◌, length, map, slice_index_or}
use Rattle.std.specs.List.{filter, range_with_len}
use Rattle.pk_types.specs.declared.plan.Hoists.{Hoists}
use Rattle.pk_types.specs.declared.plan.Item.{Item}
use Rattle.pk_types.specs.declared.plan.Item.TheVariants.{Segment, Evaluate}

-- a module evaluates the others among the targets of its edges, in order, and then runs
abbrev pub items_along : List ℕ → ℕ → List Item
items_along targets number = map Evaluate (filter (λ target. not (target == number)) targets) ++ Segment number ∷ []

abbrev pub scope_items : List (List ℕ) → ℕ → List Item
scope_items edges number = items_along (slice_index_or edges number []) number

pub record AreOwnScopes (edges : List (List ℕ)) (hoists : Hoists) : Type 0 where
  pub root : hoists.root ≡ range_with_len 0 (length edges)
  pub items : hoists.items ≡ map (scope_items edges) (range_with_len 0 (length edges))
