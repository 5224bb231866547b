-- Candidates as they are looked at. Only private clauses cite this.
use Rattle.std.specs.Prelude.{◌≡◌, ◌⊎◌, ℕ, List, Option, IfSome, IsSomeAnd}
use Rattle.std.specs.List.{Contains}
use Rattle.pk_types.specs.declared.graph.Graph.{Graph}
use Rattle.pk_types.specs.declared.settings.SplitConfig.{SplitConfig}
use Rattle.pk_types.specs.SplitStates.{SplitState}
use Rattle.pk_types.specs.SplitCandidates.{Candidate, IsCandidate, bytes_of, path_of}
use Rattle.pk_types.specs.SplitPicks.{IsBefore, IsAhead, Qualifies}
use Rattle.split_chunks.specs.declared.choice.Choice.{Choice}

abbrev pub candidate_of : Choice → Candidate
candidate_of choice = record { cache_group = choice.cache.now; chunks = choice.chunks.now; modules = choice.modules.now }

-- its bytes are counted
abbrev pub HasBytes : Graph → Choice → Type 0
HasBytes graph choice = choice.bytes ≡ bytes_of graph choice.modules.now

-- a candidate whose bytes are counted
pub record IsChoice (graph : Graph) (config : SplitConfig) (state : SplitState) (choice : Choice) : Type 0 where
  pub is : IsCandidate graph config state (candidate_of choice)
  pub bytes : HasBytes graph choice

-- a module of the list whose path comes after none of the others'
pub record IsLeast (graph : Graph) (modules : List ℕ) (number : ℕ) : Type 0 where
  pub among : Contains modules number
  pub least : (member : ℕ) → Contains modules member → ¬ IsBefore (path_of graph member) (path_of graph number)

-- a module of the one list has the path of one of the other
pub record SharePath (graph : Graph) (modules others : List ℕ) : Type 0 where
  pub member : ℕ
  pub second : ℕ
  pub among : Contains modules member
  pub second_among : Contains others second
  pub path : path_of graph member ≡ path_of graph second

-- neither goes before the other
pub record AreTied (graph : Graph) (candidate other : Candidate) : Type 0 where
  pub name : candidate.cache_group.name ≡ other.cache_group.name
  pub share : SharePath graph candidate.modules other.modules

-- where the candidate qualifies, it is the best one, or the best one is ahead of it
abbrev pub Yields : Graph → SplitConfig → SplitState → Option Choice → Candidate → Type 0
Yields graph config state best candidate = Qualifies graph config state candidate
    → IsSomeAnd best (λ choice. (candidate ≡ candidate_of choice) ⊎ IsAhead graph (candidate_of choice) candidate)

-- the best one so far, if there is one, qualifies
abbrev pub IsSoFar : Graph → SplitConfig → SplitState → Option Choice → Type 0
IsSoFar graph config state best = IfSome best (λ choice. Qualifies graph config state (candidate_of choice) × HasBytes graph choice)

-- the best one after one more was looked at
pub record IsBetter (graph : Graph) (config : SplitConfig) (state : SplitState) (best : Option Choice) (choice : Choice) (now : Option Choice) : Type 0 where
  pub so_far : IsSoFar graph config state now
  pub yields : (candidate : Candidate) → Yields graph config state best candidate → Yields graph config state now candidate
  pub yields_it : Yields graph config state now (candidate_of choice)
