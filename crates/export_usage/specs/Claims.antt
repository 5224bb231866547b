-- What may be known of the use of a graph, and what of it is true.
use Rattle.std.specs.Prelude.{◌≡◌, ◌⊎◌, ℕ, ◌<◌, List, ◌++◌, length, Some}
use Rattle.std.specs.List.{Contains}
use Rattle.pk_text.specs.Places.{place_of}
use Rattle.pk_types.specs.declared.graph.Graph.{Graph}
use Rattle.pk_types.specs.ExportedNames.{IsExported}
use Rattle.pk_types.specs.Use.{IsReached, IsUsed, IsWhole}
use Rattle.export_usage.specs.declared.facts.Fact.{Fact}
use Rattle.export_usage.specs.declared.facts.Fact.TheVariants.{Reached, Exposed, Space, Used}
use Rattle.export_usage.specs.declared.facts.Facts.{Facts}

-- what a fact says, with the name that it has a number for
pub data Claim : Type 0 where
  is_reached : (number : ℕ) → Claim
  is_exposed : (number : ℕ) → Claim
  is_space : (number : ℕ) → Claim
  is_used : (number : ℕ) (name : List ℕ) → Claim

-- the fact is known
abbrev pub KnowsOf : Facts → Fact → Type 0
KnowsOf facts fact = Contains facts.known.keys fact

-- what is claimed is known
abbrev pub Knows : Facts → Claim → Type 0
Knows facts (Claim.is_reached number) = KnowsOf facts (Reached number)
Knows facts (Claim.is_exposed number) = KnowsOf facts (Exposed number)
Knows facts (Claim.is_space number) = KnowsOf facts (Space number)
Knows facts (Claim.is_used number name) = (place : ℕ) × (place_of facts.names name ≡ Some place) × KnowsOf facts (Used number place)

-- all names that the module exports are used
abbrev pub IsExposed : Graph → ℕ → Type 0
IsExposed graph number = (name : List ℕ) → IsExported graph number name → IsUsed graph number name

-- what is claimed of a module of the graph is true
abbrev pub Holds : Graph → Claim → Type 0
Holds graph (Claim.is_reached number) = (number < length graph.rows) × IsReached graph number
Holds graph (Claim.is_exposed number) = (number < length graph.rows) × IsExposed graph number
Holds graph (Claim.is_space number) = (number < length graph.rows) × IsWhole graph number
Holds graph (Claim.is_used number name) = (number < length graph.rows) × IsUsed graph number name

-- where names have these numbers, what the fact says is true
abbrev pub HoldsAt : Graph → List (List ℕ) → Fact → Type 0
HoldsAt graph names (Reached number) = Holds graph (Claim.is_reached number)
HoldsAt graph names (Exposed number) = Holds graph (Claim.is_exposed number)
HoldsAt graph names (Space number) = Holds graph (Claim.is_space number)
HoldsAt graph names (Used number place) = (name : List ℕ) × (place_of names name ≡ Some place) × Holds graph (Claim.is_used number name)

-- all that is known is true
abbrev pub AreTrue : Graph → Facts → Type 0
AreTrue graph facts = (fact : Fact) → KnowsOf facts fact → HoldsAt graph facts.names fact

-- what is known stays so, in its place, and a name keeps its number
pub record Grows (old new : Facts) : Type 0 where
  pub more : List Fact
  pub behind : new.known.keys ≡ old.known.keys ++ more
  pub names : (name : List ℕ) (place : ℕ) → place_of old.names name ≡ Some place → place_of new.names name ≡ Some place

-- this is known beside what was, and no more than it
pub record Learns (old : Facts) (IsClaim : Claim → Type 0) (new : Facts) : Type 0 where
  pub grows : Grows old new
  pub knows : (claim : Claim) → IsClaim claim → Knows new claim
  pub truth : (graph : Graph) → AreTrue graph old → ((claim : Claim) → IsClaim claim → Holds graph claim) → AreTrue graph new

abbrev pub IsTheClaim : Claim → Claim → Type 0
IsTheClaim claim other = claim ≡ other

-- each of these modules is reached
abbrev pub AreReached : List ℕ → Claim → Type 0
AreReached numbers claim = (number : ℕ) × Contains numbers number × (Claim.is_reached number ≡ claim)

-- each of these is reached, and all that it exports is used
abbrev pub AreExposed : List ℕ → Claim → Type 0
AreExposed numbers claim = (number : ℕ) × Contains numbers number × ((Claim.is_reached number ≡ claim) ⊎ (Claim.is_exposed number ≡ claim))

-- each of these names of the module is used
abbrev pub AreUsed : ℕ → List (List ℕ) → Claim → Type 0
AreUsed number names claim = (name : List ℕ) × Contains names name × (Claim.is_used number name ≡ claim)
