-- Chunk groups of small graphs.
use Rattle.std.specs.Prelude.{◌↔◌, ℕ, List, [], ◌∷◌}
use Rattle.std.specs.List.{Contains}
use Rattle.pk_types.specs.declared.plan.Groups.{Groups}
use Rattle.pk_types.specs.Availability.{IsPlaced}

-- the group brings exactly these modules
abbrev pub BringsExactly : Groups → ℕ → List ℕ → Type 0
BringsExactly groups group modules = (number : ℕ) → IsPlaced groups group number ↔ Contains modules number

-- The entry 0 imports 1 and 2 when it runs, and each of these imports 4 when it runs. Both 1 and 4 evaluate 3 before themselves.
abbrev pub one_parent : Groups
one_parent = record {
  targets = 0 ∷ 1 ∷ 2 ∷ 4 ∷ [];
  entries = 1;
  closures = (0 ∷ []) ∷ (1 ∷ 3 ∷ []) ∷ (2 ∷ []) ∷ (3 ∷ 4 ∷ []) ∷ [];
  leads = (1 ∷ 2 ∷ []) ∷ (3 ∷ []) ∷ (3 ∷ []) ∷ [] ∷ [];
}

-- The same, but 2 evaluates 3 before itself too.
abbrev pub both_parents : Groups
both_parents = record {
  targets = 0 ∷ 1 ∷ 2 ∷ 4 ∷ [];
  entries = 1;
  closures = (0 ∷ []) ∷ (1 ∷ 3 ∷ []) ∷ (2 ∷ 3 ∷ []) ∷ (3 ∷ 4 ∷ []) ∷ [];
  leads = (1 ∷ 2 ∷ []) ∷ (3 ∷ []) ∷ (3 ∷ []) ∷ [] ∷ [];
}

-- The entry 0 evaluates 1 before itself, and imports it when it runs too.
abbrev pub entry_itself : Groups
entry_itself = record {
  targets = 0 ∷ 1 ∷ [];
  entries = 1;
  closures = (0 ∷ 1 ∷ []) ∷ (1 ∷ []) ∷ [];
  leads = (1 ∷ []) ∷ [] ∷ [];
}

-- Two entries, 0 and 1, import 2 when they run.
abbrev pub two_entries : Groups
two_entries = record {
  targets = 0 ∷ 1 ∷ 2 ∷ [];
  entries = 2;
  closures = (0 ∷ []) ∷ (1 ∷ []) ∷ (2 ∷ []) ∷ [];
  leads = (2 ∷ []) ∷ (2 ∷ []) ∷ [] ∷ [];
}
