-- Sets of numbers, written as lists in ascending order.
use Rattle.std.specs.Prelude.{ℕ, Bool, not, List, nat_eq, filter}
use Rattle.std.specs.List.{list_any}
use Rattle.std.specs.Cmp.Lexicographic.{pointwise}

-- the number is one of them
abbrev pub has : List ℕ → ℕ → Bool
has numbers number = list_any (nat_eq number) numbers

-- the two have a number in common
abbrev pub meets : List ℕ → List ℕ → Bool
meets numbers others = list_any (has others) numbers

-- the numbers but for those that are removed
abbrev pub without : List ℕ → List ℕ → List ℕ
without removed numbers = filter (λ number. not (has removed number)) numbers

-- the two are the same list
abbrev pub are_same : List ℕ → List ℕ → Bool
are_same numbers others = pointwise nat_eq numbers others
