use Rattle.std.proofs.Common.{◌≡◌, length}
use Rattle.es_tree.specs.Names.{name_of}
use Rattle.es_names.proofs.decode.is_plain.Given as goal

abbrev pub invariant-loop-first : goal.invariant-loop-first
invariant-loop-first l = name_of l.rest ≡ l.rest → name_of l.fn.spelling ≡ l.fn.spelling

abbrev pub decreases-loop-first : goal.decreases-loop-first
decreases-loop-first l = length l.rest
