-- What follows from what is known of a module.
use Rattle.std.specs.Prelude.{◌≡◌, ◌⊎◌, ℕ, List, false, Some, slice_get}
use Rattle.std.specs.List.{Contains}
use Rattle.pk_text.specs.Places.{place_of}
use Rattle.pk_types.specs.declared.graph.Graph.{Graph}
use Rattle.pk_types.specs.declared.graph.Row.{Row}
use Rattle.pk_types.specs.ExportedNames.{IsExported}
use Rattle.pk_types.specs.Reexports.{PassesOn, ExportsSpace}
use Rattle.pk_types.specs.Requests.{flag_of, CallsRequire, CallsImport, NamesAtSite, UsesSpaceAtSite}
use Rattle.pk_types.specs.Stops.{IsStopOf}
use Rattle.export_usage.specs.declared.facts.Fact.{Fact}
use Rattle.export_usage.specs.declared.facts.Fact.TheVariants.{Reached, Exposed, Space, Used}
use Rattle.export_usage.specs.declared.facts.Facts.{Facts}
use Rattle.export_usage.specs.Claims.{Claim, Knows}

-- what the module calls for is reached, and all of it is used
abbrev pub FollowsCalls : Graph → ℕ → Claim → Type 0
FollowsCalls graph number claim = (target : ℕ) × (CallsRequire graph number target ⊎ CallsImport graph number target)
    × ((Claim.is_reached target ≡ claim) ⊎ (Claim.is_exposed target ≡ claim))

-- what the module declares and may have side effects is reached
abbrev pub FollowsDeclared : Graph → Row → Claim → Type 0
FollowsDeclared graph row claim = (request : ℕ) × (target : ℕ) × Contains row.facts.order request × (slice_get row.targets request ≡ Some target)
    × (flag_of graph target ≡ Some false) × (Claim.is_reached target ≡ claim)

-- what the sites of the module use
abbrev pub FollowsSites : Row → Claim → Type 0
FollowsSites row claim = (request : ℕ) × (target : ℕ) × (slice_get row.targets request ≡ Some target)
    × (((name : List ℕ) × NamesAtSite row request name × (Claim.is_used target name ≡ claim)) ⊎ (UsesSpaceAtSite row request × (Claim.is_space target ≡ claim)))

-- what an exported name of the module is passed on to
abbrev pub FollowsPassing : Graph → ℕ → Row → List ℕ → Claim → Type 0
FollowsPassing graph number row exported claim = (request : ℕ) × (target : ℕ) × (slice_get row.targets request ≡ Some target)
    × (((name : List ℕ) × PassesOn graph number row exported request name × (Claim.is_used target name ≡ claim))
    ⊎ (ExportsSpace row exported request × (Claim.is_space target ≡ claim)))

-- the stops of a used name are reached
abbrev pub FollowsStops : Graph → ℕ → List ℕ → Claim → Type 0
FollowsStops graph number name claim = (stop : ℕ) × IsStopOf graph number name stop × (Claim.is_reached stop ≡ claim)

-- what follows from a reached module, of this row
abbrev pub FollowsReached : Graph → ℕ → Row → Claim → Type 0
FollowsReached graph number row claim = FollowsCalls graph number claim ⊎ FollowsDeclared graph row claim ⊎ FollowsSites row claim

-- what follows from a used name
abbrev pub FollowsUsed : Graph → ℕ → Row → List ℕ → Claim → Type 0
FollowsUsed graph number row name claim = FollowsPassing graph number row name claim ⊎ FollowsStops graph number name claim

-- what follows where all exported names are used
abbrev pub FollowsExposed : Graph → ℕ → Claim → Type 0
FollowsExposed graph number claim = (name : List ℕ) × IsExported graph number name × (Claim.is_used number name ≡ claim)

-- what follows where the namespace is used
abbrev pub FollowsSpace : ℕ → Claim → Type 0
FollowsSpace number claim = (Claim.is_reached number ≡ claim) ⊎ (Claim.is_exposed number ≡ claim)

-- what follows from the fact is known
abbrev pub IsFollowed : Graph → Facts → Fact → Type 0
IsFollowed graph facts (Reached number) = (row : Row) × (slice_get graph.rows number ≡ Some row)
    × ((claim : Claim) → FollowsReached graph number row claim → Knows facts claim)
IsFollowed graph facts (Exposed number) = (claim : Claim) → FollowsExposed graph number claim → Knows facts claim
IsFollowed graph facts (Space number) = (claim : Claim) → FollowsSpace number claim → Knows facts claim
IsFollowed graph facts (Used number place) = (name : List ℕ) × (row : Row) × (place_of facts.names name ≡ Some place) × (slice_get graph.rows number ≡ Some row)
    × ((claim : Claim) → FollowsUsed graph number row name claim → Knows facts claim)
