-- the ranks so far, and how many flags were set
use Rattle.std.proofs.Common.{◌≡◌, map, count_by}
use Rattle.std.specs.List.{range_with_len}
use Rattle.id_assign.specs.Flags.{is_set, rank_among}
use Rattle.id_assign.proofs.natural.ranks.Given as goal

abbrev pub invariant-loop-is_set : goal.invariant-loop-is_set
invariant-loop-is_set l = (l.ranks.items ≡ map (rank_among l.flags) (range_with_len 0 l.is_set-index))
    × (l.next ≡ count_by (is_set l.flags) (range_with_len 0 l.is_set-index))
