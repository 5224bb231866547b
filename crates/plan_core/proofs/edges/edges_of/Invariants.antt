-- the first places so far
use Rattle.std.proofs.Common.{◌≡◌, map, take}
use Rattle.std.specs.Prelude.{slice_index}
use Rattle.pk_text.specs.FirstPlaces.{first_places}
use Rattle.plan_core.proofs.edges.edges_of.Given as goal

abbrev pub invariant-loop-request : goal.invariant-loop-request
invariant-loop-request l = l.seen.keys ≡ first_places (map (slice_index l.targets) (take l.request-index l.request-items))
