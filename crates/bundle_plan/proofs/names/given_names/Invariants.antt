-- the modules of the sets so far have their names
use Rattle.std.proofs.Common.{◌≡◌, ◌<◌, ℕ, [], length, map, get_or}
use Rattle.pk_types.specs.GivenNames.{GivesNames}
use Rattle.pk_types.specs.HoistSets.{set_of}
use Rattle.bundle_plan.proofs.names.given_names.Given as goal

abbrev pub invariant-loop-members : goal.invariant-loop-members
invariant-loop-members l = record {
  each : length l.names.items ≡ length l.roots;
  given : (root : ℕ) → root < l.members-index → GivesNames l.graph (set_of l.roots root) (map (λ member. get_or l.names.items member []) (set_of l.roots root));
}
