use Rattle.std.proofs.lemmas.List.Filters.{dedup_is}
use Rattle.std.proofs.lemmas.List.Kept.{Contains-dedup_nat, Contains-from_dedup}
use Rattle.std.proofs.lemmas.List.Sorted.{Contains-permutation, IsPermutation-sym}
use Rattle.std.proofs.lemmas.Map.Keys.{IsStrictlyIncreasing-dedup}
use Rattle.stop_search.proofs.stars.put_in_order.Goals as goal

pub returns-clause-rises : goal.returns-clause-rises
returns-clause-rises c = rw (dedup_is _ _ _ c.dedup.ensures.filtered) (IsStrictlyIncreasing-dedup _ c.sort_unstable.ensures.sorted)

pub returns-clause-each : goal.returns-clause-each
returns-clause-each c request =
    let is = dedup_is _ _ _ c.dedup.ensures.filtered in
    let moved = c.sort_unstable.ensures.permutation in (
      λ h. Contains-permutation _ _ request (IsPermutation-sym _ _ moved) (Contains-from_dedup _ _ request (rw is at h)),
      λ h. rw is (Contains-dedup_nat _ request (Contains-permutation _ _ request moved h)),
    )
