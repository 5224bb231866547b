-- Rows whose targets are seen in order.
use Rattle.std.proofs.Common.{◌≡◌, ℕ, suc, ◌+◌, ◌<◌, ◌≤◌, max, List, [], ◌∷◌, ◌++◌, length, map, All, sym, ap, subst, arith}
use Rattle.std.proofs.lemmas.List.Elements.{All-nil, All-cons, All-weaker}
use Rattle.pk_types.specs.declared.graph.Row.{Row}
use Rattle.module_graph.specs.Building.{leaf_of}
use Rattle.module_graph.specs.Sightings.{count_after, AreSeenInOrder, RowsAreSeenInOrder}

-- one row more
pub rows_push : (rows : List (List ℕ)) (row count known : ℕ) (targets : List ℕ) → RowsAreSeenInOrder row count rows known → row + length rows < known → AreSeenInOrder known targets → RowsAreSeenInOrder row count (rows ++ targets ∷ []) (count_after known targets)
rows_push [] row count known targets e h order =
    let wanted : row < count = omega arith in
    (wanted, subst (λ n. AreSeenInOrder n targets) (sym e) order, ap (λ n. count_after n targets) e)
rows_push (first ∷ rows) row count known targets s h order = (s.0, s.1, rows_push rows (suc row) (count_after count first) known targets s.2 (omega arith) order)

-- leaves for the known modules that have no row
pub rows_with_leaves : (rows paths : List (List ℕ)) (row count known : ℕ) → RowsAreSeenInOrder row count rows known → row + length rows + length paths ≡ known
    → RowsAreSeenInOrder row count (rows ++ map (λ (leaf : Row). leaf.targets) (map leaf_of paths)) known
rows_with_leaves [] [] row count known e h = e
rows_with_leaves [] (path ∷ paths) row count known e h = (omega arith, tt, rows_with_leaves [] paths (suc row) count known e (omega arith))
rows_with_leaves (targets ∷ rows) paths row count known s h = (s.0, s.1, rows_with_leaves rows paths (suc row) (count_after count targets) known s.2 (omega arith))

pub no_fewer : (numbers : List ℕ) (count : ℕ) → count ≤ count_after count numbers
no_fewer [] count = omega arith
no_fewer (number ∷ numbers) count = omega (arith, no_fewer numbers (max count (suc number)))

-- each number that is seen is known
pub within : (numbers : List ℕ) (count : ℕ) → AreSeenInOrder count numbers → All (λ n. n < count_after count numbers) numbers
within [] count s = All-nil (λ n. n < count)
within (number ∷ numbers) count s =
    All-cons (λ n. n < count_after (max count (suc number)) numbers) number numbers (omega (arith, no_fewer numbers (max count (suc number)))) (within numbers (max count (suc number)) s.1)

pub known_within : (numbers : List ℕ) (count known : ℕ) → count ≤ known → All (λ n. n < count) numbers → All (λ n. n < known) numbers
known_within numbers count known h all = All-weaker (λ n. n < count) (λ n. n < known) (λ n k. omega arith) numbers all

pub no_fewer_rows : (rows : List (List ℕ)) (row count known : ℕ) → RowsAreSeenInOrder row count rows known → count ≤ known
no_fewer_rows [] row count known e = omega arith
no_fewer_rows (targets ∷ rows) row count known s = omega (arith, no_fewer targets count, no_fewer_rows rows (suc row) (count_after count targets) known s.2)

pub rows_within : (rows : List (List ℕ)) (row count known : ℕ) → RowsAreSeenInOrder row count rows known → All (All (λ n. n < known)) rows
rows_within [] row count known e = All-nil (All (λ n. n < known))
rows_within (targets ∷ rows) row count known s =
    All-cons (All (λ n. n < known)) targets rows
    (known_within targets (count_after count targets) known (no_fewer_rows rows (suc row) (count_after count targets) known s.2) (within targets count s.1))
    (rows_within rows (suc row) (count_after count targets) known s.2)
