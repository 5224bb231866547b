-- What the origin of an export names.
use Rattle.std.specs.Prelude.{ℕ, List, [], ◌∷◌}
use Rattle.pk_types.specs.declared.facts.Origin.{Origin}
use Rattle.pk_types.specs.declared.facts.Origin.TheVariants.{Own, Other, Space}

-- the requests that it names
abbrev pub origin_requests : Origin → List ℕ
origin_requests (Own binding) = []
origin_requests (Other request name) = request ∷ []
origin_requests (Space request) = request ∷ []

-- the bindings that it names
abbrev pub origin_bindings : Origin → List ℕ
origin_bindings (Own binding) = binding ∷ []
origin_bindings (Other request name) = []
origin_bindings (Space request) = []
