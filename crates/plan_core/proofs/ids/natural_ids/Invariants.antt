-- the ids so far, and the next one
use Rattle.std.proofs.Common.{◌≡◌, ◌≤◌, [], ◌∷◌, count_by}
use Rattle.std.specs.List.{range_with_len}
use Rattle.plan_core.specs.NaturalIds.{is_placed, natural_ids}
use Rattle.plan_core.proofs.ids.natural_ids.Given as goal

abbrev pub invariant-loop-number : goal.invariant-loop-number
invariant-loop-number l = record {
  ids : l.ids.items ≡ natural_ids (l.placed.keys ∷ []) l.number-counter;
  next : l.next ≡ count_by (is_placed (l.placed.keys ∷ [])) (range_with_len 0 l.number-counter);
  within : l.next ≤ l.number-counter;
}
