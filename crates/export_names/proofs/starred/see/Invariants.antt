-- what is known, and what is left
use Rattle.std.proofs.Common.{◌≡◌, nat_eq, drop, map}
use Rattle.std.specs.Prelude.{slice_index}
use Rattle.indexmap.specs.IndexSet.{insert_all}
use Rattle.export_names.proofs.starred.see.Given as goal

abbrev pub invariant-loop-star : goal.invariant-loop-star
invariant-loop-star l = insert_all nat_eq l.known.keys (map (slice_index l.targets) (drop l.star-index l.stars))
    ≡ insert_all nat_eq l.initial.known.keys (map (slice_index l.targets) l.stars)
