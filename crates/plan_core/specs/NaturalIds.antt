-- Natural ids: the modules in chunks are counted from 0, by number.
use Rattle.std.specs.Prelude.{ℕ, Bool, List, nat_eq, map, count_by, if◌then◌else◌}
use Rattle.std.specs.List.{list_any, range_with_len}

-- whether a module stands in some chunk
abbrev pub is_placed : List (List ℕ) → ℕ → Bool
is_placed chunks number = list_any (λ modules. list_any (nat_eq number) modules) chunks

-- how many modules in chunks come before; a module in no chunk has 0
abbrev pub natural_id : List (List ℕ) → ℕ → ℕ
natural_id chunks number = if is_placed chunks number then count_by (is_placed chunks) (range_with_len 0 number) else 0

-- the ids of so many modules
abbrev pub natural_ids : List (List ℕ) → ℕ → List ℕ
natural_ids chunks count = map (natural_id chunks) (range_with_len 0 count)
