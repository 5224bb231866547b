-- What is made known one after the other. Only private clauses cite this.
use Rattle.std.specs.Prelude.{◌≡◌, ◌⊎◌, ℕ, ◌<◌, List, false, Some, slice_get}
use Rattle.std.specs.List.{All, Contains}
use Rattle.pk_types.specs.declared.graph.Graph.{Graph}
use Rattle.pk_types.specs.declared.graph.Row.{Row}
use Rattle.pk_types.specs.Places.{ArePlacesIn}
use Rattle.pk_types.specs.Requests.{flag_of}
use Rattle.pk_types.specs.Sites.{called_requests}
use Rattle.prune_graph.specs.declared.through.Through.{Through}
use Rattle.prune_graph.specs.Gathering.{IsNamed, IsSpaced}
use Rattle.export_usage.specs.Claims.{Claim}

-- one of the items says so
abbrev pub Each : {A : Type 0} → (A → Claim → Type 0) → List A → Claim → Type 0
Each {A} Says items claim = (item : A) × Contains items item × Says item claim

-- each call of the module has a target
abbrev pub HasCallTargets : Row → Type 0
HasCallTargets row = All (λ site. ArePlacesIn row.targets (called_requests site.kind)) row.facts.sites

-- the module is reached where it may have side effects
abbrev pub SaysUnflagged : Graph → ℕ → Claim → Type 0
SaysUnflagged graph target claim = (flag_of graph target ≡ Some false) × (Claim.is_reached target ≡ claim)

-- so is what a declaration leads to
abbrev pub SaysDeclared : Graph → Row → ℕ → Claim → Type 0
SaysDeclared graph row request claim = (target : ℕ) × (slice_get row.targets request ≡ Some target) × SaysUnflagged graph target claim

-- what goes through the request is used of the target
abbrev pub SaysRequest : Through → ℕ → ℕ → Claim → Type 0
SaysRequest through request target claim = ((name : List ℕ) × IsNamed through request name × (Claim.is_used target name ≡ claim))
    ⊎ (IsSpaced through request × (Claim.is_space target ≡ claim))

-- the same of the first requests
abbrev pub SaysRequests : Through → List ℕ → ℕ → Claim → Type 0
SaysRequests through targets count claim = (request : ℕ) × (target : ℕ) × (request < count) × (slice_get targets request ≡ Some target)
    × SaysRequest through request target claim

-- the name is used of what these stars lead to
abbrev pub SaysStar : List ℕ → List ℕ → ℕ → Claim → Type 0
SaysStar targets name star claim = (target : ℕ) × (slice_get targets star ≡ Some target) × (Claim.is_used target name ≡ claim)
