-- Laws of splitting: what holds of the chunks before a pick holds after it.
use Rattle.std.proofs.Common.{ℕ, ◌<◌, List, length, subst, arith}
use Rattle.std.specs.List.{Contains, range_with_len}
use Rattle.pk_types.specs.declared.graph.Graph.{Graph}
use Rattle.pk_types.specs.declared.settings.SplitConfig.{SplitConfig}
use Rattle.pk_types.specs.SplitStates.{SplitState}
use Rattle.pk_types.specs.SplitCandidates.{Candidate, IsCandidate}
use Rattle.pk_types.specs.SplitPicks.{Qualifies}
use Rattle.pk_types.specs.Splitting.{ArePicks, ended, picked}
use Rattle.pk_types.proofs.ListMembers.{unfiltered, range_of}

-- after the last pick nothing qualifies
pub none_left : (graph : Graph) (config : SplitConfig) (first last : SplitState) (picks : List Candidate) → ArePicks graph config first picks last
    → (candidate : Candidate) → ¬ Qualifies graph config last candidate
none_left graph config first last picks (ended _ none) candidate = none candidate
none_left graph config first last picks (picked _ _ pick rest split is_pick is_split picks_after) candidate = none_left graph config _ last rest picks_after candidate

-- a chunk of a candidate is a chunk
pub chunks_in_range : (graph : Graph) (config : SplitConfig) (state : SplitState) (candidate : Candidate) → IsCandidate graph config state candidate
    → (chunk : ℕ) → Contains candidate.chunks chunk → chunk < length state.modules
chunks_in_range graph config state candidate is chunk c =
    let from = range_of 0 (length state.modules) chunk (unfiltered _ (range_with_len 0 (length state.modules)) chunk (subst (λ list. Contains list chunk) is.chunks c)).0 in
    omega (arith, from.1)

-- each module of a candidate is a module
pub modules_in_range : (graph : Graph) (config : SplitConfig) (state : SplitState) (candidate : Candidate) → IsCandidate graph config state candidate
    → (member : ℕ) → Contains candidate.modules member → member < length graph.rows
modules_in_range graph config state candidate is member c =
    let from = range_of 0 (length graph.rows) member (unfiltered _ (range_with_len 0 (length graph.rows)) member (subst (λ list. Contains list member) is.modules c)).0 in
    omega (arith, from.1)
