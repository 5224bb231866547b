-- The names that bindings have in a bundle. A set of one keeps its names. In a larger one no given name may be one that a member uses without
-- declaring it, since it would capture that, or one that an inner scope of a member declares, since it would be captured. The facts leave the
-- name scope of a class declaration at the top of a module out of the inner names, and call a default export without a name `__webpack_default`.
use Rattle.std.specs.Prelude.{◌≡◌, ℕ, ◌<◌, List, [], ◌∷◌, ◌++◌, length, map, take, decimal, flat_map, slice_get, slice_index_or}
use Rattle.std.specs.List.{Contains}
use Rattle.std.specs.Option.{option_map, unwrap_or}
use Rattle.pk_types.specs.declared.graph.Graph.{Graph}
use Rattle.pk_types.specs.HoistSets.{set_of}

-- the names of a module's bindings, by place
abbrev pub own_names : Graph → ℕ → List (List ℕ)
own_names graph member = unwrap_or (option_map (λ row. map (λ binding. binding.name) row.facts.bindings) (slice_get graph.rows member)) []

-- the names that no binding may be given beside this member
abbrev pub avoided_names : Graph → ℕ → List (List ℕ)
avoided_names graph member = unwrap_or (option_map (λ row. row.facts.free ++ row.facts.inner) (slice_get graph.rows member)) []

-- a name, `_` and a number
abbrev pub numbered_name : List ℕ → ℕ → List ℕ
numbered_name name number = name ++ 95 ∷ decimal number

-- a name stays where it isn't taken; else it has the first number, from 1, with which it isn't
pub data IsGivenFor (taken : List (List ℕ)) (name : List ℕ) : List ℕ → Type 0 where
  unchanged : ¬ Contains taken name → IsGivenFor taken name name
  renamed : (number : ℕ) → Contains taken name → 0 < number → ¬ Contains taken (numbered_name name number)
      → ((fewer : ℕ) → 0 < fewer → fewer < number → Contains taken (numbered_name name fewer))
      → IsGivenFor taken name (numbered_name name number)

-- names are given in order, each one apart from those to avoid and those that were given before it
pub record GivesInOrder (avoided names given : List (List ℕ)) : Type 0 where
  pub each : length given ≡ length names
  pub next : (place : ℕ) → place < length names
      → IsGivenFor (avoided ++ take place given) (slice_index_or names place []) (slice_index_or given place [])

-- the lists of given names, one for each member, by number
pub record GivesNames (graph : Graph) (members : List ℕ) (given : List (List (List ℕ))) : Type 0 where
  pub counts : map (λ names. length names) given ≡ map (λ member. length (own_names graph member)) members
  pub alone : length members ≡ 1 → given ≡ map (own_names graph) members
  pub shared : 1 < length members
      → GivesInOrder (flat_map (avoided_names graph) members) (flat_map (own_names graph) members) (flat_map (λ names. names) given)

-- in a plan: the members of each root have the names that are given in its set
pub record AreGivenNames (graph : Graph) (roots : List ℕ) (names : List (List (List ℕ))) : Type 0 where
  pub each : length names ≡ length roots
  pub sets : (root : ℕ) → Contains roots root → GivesNames graph (set_of roots root) (map (λ member. slice_index_or names member []) (set_of roots root))
