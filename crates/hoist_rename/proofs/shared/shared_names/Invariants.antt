-- the names of the members so far
use Rattle.std.proofs.Common.{◌≡◌, ◌++◌, take, map, length, flat_map}
use Rattle.pk_types.specs.GivenNames.{own_names, GivesInOrder}
use Rattle.hoist_rename.specs.Kept.{IsKept}
use Rattle.hoist_rename.proofs.shared.shared_names.Given as goal

abbrev pub invariant-loop-member : goal.invariant-loop-member
invariant-loop-member l = (map (λ list. length list) l.names.items ≡ map (λ member. length (own_names l.graph member)) (take l.member-index l.members))
    × GivesInOrder l.initial.taken.names.keys (flat_map (own_names l.graph) (take l.member-index l.members)) (flat_map (λ list. list) l.names.items)
    × (l.taken.names.keys ≡ l.initial.taken.names.keys ++ flat_map (λ list. list) l.names.items)
    × IsKept l.taken.names.keys l.taken.last.items
