use Rattle.std.proofs.Common.{◌≡◌, ◌++◌, length}
use Rattle.es_tree.specs.Names.{all_encoded, name_meaning, name_of, points_from}
use Rattle.es_names.proofs.decode.name.Given as goal

abbrev pub invariant-loop-rest : goal.invariant-loop-rest
invariant-loop-rest l = name_of l.fn.spelling ≡ l.name.items ++ name_of l.rest

abbrev pub decreases-loop-rest : goal.decreases-loop-rest
decreases-loop-rest l = length l.rest
