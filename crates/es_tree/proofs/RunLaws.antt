-- How a run of units goes on, unit by unit.
use Rattle.std.proofs.Common.{◌≡◌, ℕ, false, zero, suc, ◌+◌, ◌-◌, ◌<◌, ◌≤◌, List, [], ◌∷◌, length, drop, refl, ap, arith}
use Rattle.std.specs.Prelude.{◌==◌}
use Rattle.std.proofs.lemmas.List.{drop-drop}
use Rattle.es_tree.specs.Units.{run_from, run}

-- what is left of a unit is passed
passed : (unit : List ℕ → ℕ) (left : ℕ) (text : List ℕ) → left ≤ length text → run_from unit left text ≡ left + run unit (drop left text)
unfolding run_from
passed unit zero text h = omega arith
passed unit (suc left) [] h = absurd (omega arith)
passed unit (suc left) (b ∷ rest) h = let more = passed unit left rest (omega arith) in omega arith

is_some : (n : ℕ) → 0 < n → (n == 0) ≡ false
is_some n h = grind arith

pub run_stops : (unit : List ℕ → ℕ) (text : List ℕ) → unit text ≡ 0 → run unit text ≡ 0
unfolding run_from
run_stops unit [] e = refl
run_stops unit (b ∷ rest) e = rw e refl

pub run_goes_on : (unit : List ℕ → ℕ) (text : List ℕ) (size : ℕ) → unit text ≡ size → 0 < size → size ≤ length text → run unit text ≡ size + run unit (drop size text)
unfolding run_from
run_goes_on unit text zero e some within = absurd (omega arith)
run_goes_on unit [] (suc size) e some within = absurd (omega arith)
run_goes_on unit (b ∷ rest) (suc size) e some within =
    let t : (unit (b ∷ rest) == 0) ≡ false = is_some (unit (b ∷ rest)) (omega arith) in
    let left : unit (b ∷ rest) - 1 ≡ size = omega arith in
    let more : run_from unit size rest ≡ size + run unit (drop size rest) = passed unit size rest (omega arith) in
    rw (t, left) (omega arith)

-- in a loop over the units of a text: one unit more
pub one_unit_more : (unit : List ℕ → ℕ) (text : List ℕ) (at size whole : ℕ) → unit (drop at text) ≡ size → 0 < size → size ≤ length (drop at text)
    → at + run unit (drop at text) ≡ whole → (at + size) + run unit (drop (at + size) text) ≡ whole
one_unit_more unit text at size whole e some within so_far =
    let on : run unit (drop at text) ≡ size + run unit (drop size (drop at text)) = run_goes_on unit (drop at text) size e some within in
    let same : run unit (drop size (drop at text)) ≡ run unit (drop (at + size) text) = ap (λ t. run unit t) (drop-drop size at text) in
    omega arith

-- and no unit more
pub no_unit_more : (unit : List ℕ → ℕ) (text : List ℕ) (at whole : ℕ) → unit (drop at text) ≡ 0 → at + run unit (drop at text) ≡ whole → at ≡ whole
no_unit_more unit text at whole e so_far = let none = run_stops unit (drop at text) e in omega arith
