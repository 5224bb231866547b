-- Modules are numbered as they are first seen. Only private clauses and the builder's invariant cite this.
use Rattle.std.specs.Prelude.{◌≡◌, ℕ, ◌<◌, ◌≤◌, suc, List, [], ◌∷◌, max}

-- how many modules are known once these numbers are seen
abbrev pub count_after : ℕ → List ℕ → ℕ
count_after count [] = count
count_after count (number ∷ numbers) = count_after (max count (suc number)) numbers

-- each number is known, or is the next one
abbrev pub AreSeenInOrder : ℕ → List ℕ → Type 0
AreSeenInOrder count [] = Unit {0}
AreSeenInOrder count (number ∷ numbers) = (number ≤ count) × AreSeenInOrder (max count (suc number)) numbers

-- from the row of a number on, each row is that of a known module, and its targets are seen in order; so many are known in the end
abbrev pub RowsAreSeenInOrder : ℕ → ℕ → List (List ℕ) → ℕ → Type 0
RowsAreSeenInOrder row count [] known = count ≡ known
RowsAreSeenInOrder row count (targets ∷ rows) known =
    (row < count) × AreSeenInOrder count targets × RowsAreSeenInOrder (suc row) (count_after count targets) rows known
