-- How many modules are entries, and how many are not.
use Rattle.std.proofs.Common.{◌≡◌, ◌+◌, ◌≤◌, ℕ, suc, Bool, true, false, cond, not, List, [], ◌∷◌, length, filter, refl, ap, length-append, arith}
use Rattle.std.specs.List.{count_by, range_with_len}
use Rattle.std.proofs.lemmas.List.FromFn.{length-range_with_len}
use Rattle.std.proofs.lemmas.List.Kept.{AllPairs-from_increasing, IsStrictlyIncreasing-filter}
use Rattle.std.proofs.lemmas.List.Sums.{length-filter}
use Rattle.std.proofs.lemmas.Cmp.{nat_eq_equiv}
use Rattle.std.proofs.lemmas.Bool.Decides.{Decides-eqb}
use Rattle.std.proofs.lemmas.Map.Made.{IsDistinct-from_AllPairs, length-le_from_is_member}
use Rattle.pk_text.proofs.Ranges.{range_rises}
use Rattle.pk_types.specs.declared.graph.Graph.{Graph}
use Rattle.pk_types.specs.declared.limits.TheConstants.{MAX_GROUPS}
use Rattle.pk_types.specs.declared.plan.Active.{Active}
use Rattle.pk_types.specs.declared.plan.Groups.{Groups}
use Rattle.pk_types.specs.ChunkGroups.{IsGroups}
use Rattle.pk_types.specs.ModuleIds.{id_count}
use Rattle.pk_types.specs.Numbers.{has}
use Rattle.pk_types.proofs.ListMembers.{true-has, unfiltered}
use Rattle.bundle_plan.specs.Conditions.{HasFewModules}

-- those that pass a test, and the others
both_kept : (test : ℕ → Bool) (xs : List ℕ) → length (filter test xs) + length (filter (λ x. not (test x)) xs) ≡ length xs
both_kept test [] = refl
both_kept test (x ∷ xs) = by (test x) (both_kept test xs)
  where
    by : (b : Bool) → length (filter test xs) + length (filter (λ y. not (test y)) xs) ≡ length xs
        → length (cond b (x ∷ filter test xs) (filter test xs)) + length (cond (not b) (x ∷ filter (λ y. not (test y)) xs) (filter (λ y. not (test y)) xs)) ≡ suc (length xs)
    by true rest = omega (arith, rest)
    by false rest = omega (arith, rest)

both_counted : (test : ℕ → Bool) (xs : List ℕ) → count_by test xs + count_by (λ x. not (test x)) xs ≡ length xs
both_counted test xs = omega (arith, length-filter test xs, length-filter (λ x. not (test x)) xs, both_kept test xs)

entries_counted : (entries : List ℕ) (count : ℕ) → count_by (has entries) (range_with_len 0 count) ≤ length entries
entries_counted entries count =
    let range = range_with_len 0 count in
    let among = filter (has entries) range in
    let rises = IsStrictlyIncreasing-filter (has entries) range (range_rises count) in
    let distinct = IsDistinct-from_AllPairs Decides-eqb among (λ i j d less h e. omega (arith, AllPairs-from_increasing among rises i j d less h, e)) in
    omega (arith, length-filter (has entries) range, length-le_from_is_member nat_eq_equiv among entries distinct (λ q e. (unfiltered (has entries) range q (true-has among q e)).1))

-- so each module can have an id
pub few_modules : (graph : Graph) (active : Active) (groups : Groups) → IsGroups graph active groups → length groups.targets ≤ MAX_GROUPS → HasFewModules graph
    → length graph.rows ≤ id_count
few_modules graph active groups are short few =
    omega (
      arith,
      few,
      short,
      ap length are.targets.targets,
      length-append graph.entries are.targets.imported,
      both_counted (has graph.entries) (range_with_len 0 (length graph.rows)),
      entries_counted graph.entries (length graph.rows),
      length-range_with_len 0 (length graph.rows),
    )
