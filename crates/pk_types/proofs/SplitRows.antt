-- Splitting on small graphs.
use Rattle.std.proofs.Common.{◌≡◌, ◌⊎◌, ℕ, zero, suc, ◌<◌, ◌≤◌, Bool, true, false, cond, List, [], ◌∷◌, length, refl, sym, ap, subst, ◌∙◌, arith, inl, inr, ⊎_elim, true≢false, ◌<ℤ◌, Some}
use Rattle.std.specs.List.{Contains}
use Rattle.pk_types.specs.declared.graph.Graph.{Graph}
use Rattle.pk_types.specs.declared.settings.CacheGroup.{CacheGroup}
use Rattle.pk_types.specs.declared.settings.SplitConfig.{SplitConfig}
use Rattle.pk_types.specs.SplitStates.{SplitState, chunk_at, loads_at, is_entry, first_state}
use Rattle.pk_types.specs.SplitCandidates.{Candidate, chunks_with, modules_with, is_movable, bytes_of}
use Rattle.pk_types.specs.SplitPicks.{IsSplitChunk, reused, made, HoldsJust, after_pick, request_limit, Qualifies, IsPick, KeepsLimits, by_priority}
use Rattle.pk_types.specs.Splitting.{ended, picked, IsSplit}
use Rattle.pk_types.specs.WorkedGraphs.{default_group, vendors_group, default_split, shared_graph, shared_placed, shared_chunks, one_request, unsplit_chunks}
use Rattle.pk_types.specs.WorkedGraphs.{parents_graph, parents_placed, parents_chunks, agreeing_graph, agreeing_placed, agreeing_chunks}
use Rattle.pk_types.specs.WorkedGraphs.{folder_graph, folder_placed, folder_chunks, reused_graph, reused_placed, reused_chunks}
use Rattle.pk_types.specs.WorkedGraphs.{entries_group, entries_split, entries_graph, entries_placed, entries_chunks}
use Rattle.pk_types.proofs.ListMembers.{here, there, one_of, none_in}

-- what a candidate that qualifies is, for its cache group
pub record FitsGroup (graph : Graph) (state : SplitState) (cache : CacheGroup) (chunks modules : List ℕ) : Type 0 where
  pub member : ℕ
  pub movable : is_movable graph state cache member ≡ true
  pub are_chunks : chunks ≡ chunks_with state cache member
  pub some_chunk : 0 < length chunks
  pub are_modules : modules ≡ modules_with graph state cache chunks
  pub enough_chunks : cache.min_chunks ≤ length chunks
  pub enough_bytes : cache.min_size ≤ bytes_of graph modules

fits_one : (graph : Graph) (config : SplitConfig) (state : SplitState) (candidate : Candidate) → Qualifies graph config state candidate
    → FitsGroup graph state candidate.cache_group candidate.chunks candidate.modules
fits_one graph config state candidate q = record {
  member = q.is_candidate.member;
  movable = q.is_candidate.movable;
  are_chunks = q.is_candidate.chunks;
  some_chunk = q.is_candidate.some_chunk;
  are_modules = q.is_candidate.modules;
  enough_chunks = q.enough_chunks;
  enough_bytes = q.enough_bytes;
}

-- a candidate's cache group is one of the two
either_of : (graph : Graph) (config : SplitConfig) (state : SplitState) (first second : CacheGroup) (candidate : Candidate) → config.groups ≡ first ∷ second ∷ []
    → Qualifies graph config state candidate
    → ((candidate.cache_group ≡ first) × FitsGroup graph state first candidate.chunks candidate.modules)
    ⊎ ((candidate.cache_group ≡ second) × FitsGroup graph state second candidate.chunks candidate.modules)
either_of graph config state first second candidate groups q = ⊎_elim
    (λ same. inl (sym same, subst (λ cache. FitsGroup graph state cache candidate.chunks candidate.modules) (sym same) (fits_one graph config state candidate q)))
    (λ rest. ⊎_elim
    (λ same. inr (sym same, subst (λ cache. FitsGroup graph state cache candidate.chunks candidate.modules) (sym same) (fits_one graph config state candidate q)))
    (λ none. absurd (none_in candidate.cache_group none))
    (one_of second [] candidate.cache_group rest))
    (one_of first (second ∷ []) candidate.cache_group (subst (λ list. Contains list candidate.cache_group) groups q.is_candidate.cache_group))

either_group : (graph : Graph) (size : ℕ) (state : SplitState) (candidate : Candidate) → Qualifies graph (default_split size) state candidate
    → ((candidate.cache_group ≡ default_group size) × FitsGroup graph state (default_group size) candidate.chunks candidate.modules)
    ⊎ ((candidate.cache_group ≡ vendors_group size) × FitsGroup graph state (vendors_group size) candidate.chunks candidate.modules)
either_group graph size state candidate q = either_of graph (default_split size) state (default_group size) (vendors_group size) candidate refl q

-- ---- two groups share a module

abbrev shared_first : SplitState
shared_first = first_state 1 shared_placed

-- no label of the graph has the segment `node_modules`
no_vendor : (size : ℕ) (state : SplitState) (member : ℕ) → is_movable shared_graph state (vendors_group size) member ≡ true → ⊥
no_vendor size state zero e = true≢false (sym e)
no_vendor size state (suc zero) e = true≢false (sym e)
no_vendor size state (suc (suc zero)) e = true≢false (sym e)
no_vendor size state (suc (suc (suc zero))) e = true≢false (sym e)
no_vendor size state (suc (suc (suc (suc member)))) e = true≢false (sym e)

too_few : (chunks : List ℕ) (count wanted : ℕ) → length chunks ≡ count → count < wanted → wanted ≤ length chunks → ⊥
too_few chunks count wanted long less enough = omega arith

shared_only : (member : ℕ) (chunks modules : List ℕ) → is_movable shared_graph shared_first (default_group 0) member ≡ true
    → chunks ≡ chunks_with shared_first (default_group 0) member → 2 ≤ length chunks → modules ≡ modules_with shared_graph shared_first (default_group 0) chunks
    → (chunks ≡ 1 ∷ 2 ∷ []) × (modules ≡ 3 ∷ [])
shared_only zero chunks modules movable e enough m = absurd (too_few chunks 0 2 (ap length e) (omega arith) enough)
shared_only (suc zero) chunks modules movable e enough m = absurd (too_few chunks 1 2 (ap length e) (omega arith) enough)
shared_only (suc (suc zero)) chunks modules movable e enough m = absurd (too_few chunks 1 2 (ap length e) (omega arith) enough)
shared_only (suc (suc (suc zero))) chunks modules movable e enough m = (e, m ∙ ap (modules_with shared_graph shared_first (default_group 0)) e)
shared_only (suc (suc (suc (suc member)))) chunks modules movable e enough m = absurd (true≢false (sym movable))

abbrev shared_pick : Candidate
shared_pick = record { cache_group = default_group 0; chunks = 1 ∷ 2 ∷ []; modules = 3 ∷ [] }

-- a chunk that holds one module more is not the one that holds just these
longer : (list other : List ℕ) (count more : ℕ) → length list ≡ count → length other ≡ more → count < more → list ≡ other → ⊥
longer list other count more long short less same = let equal = ap length same in omega arith

-- its module goes into a new chunk
shared_split : (split : ℕ) → IsSplitChunk shared_first shared_pick split → split ≡ 3
shared_split split (reused _ reuses just least) = ⊎_elim
    (λ same. absurd (longer (3 ∷ []) (1 ∷ 3 ∷ []) 1 2 refl refl (omega arith) (sym just.2 ∙ ap (chunk_at shared_first) (sym same))))
    (λ rest. ⊎_elim (λ same. absurd (longer (3 ∷ []) (2 ∷ 3 ∷ []) 1 2 refl refl (omega arith) (sym just.2 ∙ ap (chunk_at shared_first) (sym same)))) (λ none. absurd (none_in split none)) (one_of 2 [] split rest))
    (one_of 1 (2 ∷ []) split just.0)
shared_split split (made none) = refl

-- the default limits
limit_is : (size : ℕ) (state : SplitState) (group : ℕ) → request_limit (default_split size) state group ≡ 30
limit_is size state group = by (is_entry state group)
  where
    by : (b : Bool) → cond {A = ℕ} b 30 30 ≡ 30
    by true = refl
    by false = refl

within : (number count : ℕ) → number ≡ count → count ≤ 30 → number ≤ 30
within number count is few = omega arith

shared_small : (group : ℕ) → length (loads_at (after_pick shared_first shared_pick 3) group) ≤ 30
shared_small zero = within _ 1 refl (omega arith)
shared_small (suc zero) = within _ 2 refl (omega arith)
shared_small (suc (suc zero)) = within _ 2 refl (omega arith)
shared_small (suc (suc (suc group))) = within _ 0 refl (omega arith)

shared_limits : KeepsLimits (default_split 0) shared_first shared_pick
shared_limits split into group meet =
    let limit = limit_is 0 shared_first group in
    let small : length (loads_at (after_pick shared_first shared_pick split) group) ≤ 30 =
    subst (λ z. length (loads_at (after_pick shared_first shared_pick z) group) ≤ 30) (sym (shared_split split into)) (shared_small group) in
    omega arith

two_are_not_one : (first second chunk : ℕ) → first ∷ second ∷ [] ≡ chunk ∷ [] → ⊥
two_are_not_one first second chunk same = longer (chunk ∷ []) (first ∷ second ∷ []) 1 2 refl refl (omega arith) (sym same)

shared_is_pick : IsPick shared_graph (default_split 0) shared_first shared_pick
shared_is_pick = record {
  qualifies = record {
    is_candidate = record { cache_group = here (default_group 0) (vendors_group 0 ∷ []); member = 3; movable = refl; chunks = refl; some_chunk = omega arith; modules = refl };
    enough_chunks = omega arith;
    enough_bytes = omega arith;
    changes = λ chunk same. absurd (two_are_not_one 1 2 chunk same);
    requests = inr shared_limits;
  };
  greatest = λ other q. ⊎_elim
      (λ mine. let fit = mine.1 in let is = shared_only fit.member other.chunks other.modules fit.movable fit.are_chunks fit.enough_chunks fit.are_modules in
      inl (λ i. record { cache_group = mine.0 i; chunks = is.0 i; modules = is.1 i }))
      (λ its. absurd (no_vendor 0 shared_first its.1.member its.1.movable))
      (either_group shared_graph 0 shared_first other q);
}

abbrev shared_last : SplitState
shared_last = after_pick shared_first shared_pick 3

shared_none : (member : ℕ) (chunks : List ℕ) → is_movable shared_graph shared_last (default_group 0) member ≡ true
    → chunks ≡ chunks_with shared_last (default_group 0) member → 2 ≤ length chunks → ⊥
shared_none zero chunks movable e enough = too_few chunks 0 2 (ap length e) (omega arith) enough
shared_none (suc zero) chunks movable e enough = too_few chunks 1 2 (ap length e) (omega arith) enough
shared_none (suc (suc zero)) chunks movable e enough = too_few chunks 1 2 (ap length e) (omega arith) enough
shared_none (suc (suc (suc zero))) chunks movable e enough = true≢false (sym movable)
shared_none (suc (suc (suc (suc member)))) chunks movable e enough = true≢false (sym movable)

shared_just : (other : ℕ) → HoldsJust shared_first shared_pick other → ⊥
shared_just other just = ⊎_elim
    (λ same. absurd (longer (3 ∷ []) (1 ∷ 3 ∷ []) 1 2 refl refl (omega arith) (sym just.2 ∙ ap (chunk_at shared_first) (sym same))))
    (λ rest. ⊎_elim (λ same. absurd (longer (3 ∷ []) (2 ∷ 3 ∷ []) 1 2 refl refl (omega arith) (sym just.2 ∙ ap (chunk_at shared_first) (sym same))))
    (λ none. absurd (none_in other none)) (one_of 2 [] other rest))
    (one_of 1 (2 ∷ []) other just.0)

pub shared_is_split : IsSplit shared_graph (Some (default_split 0)) 1 shared_placed shared_chunks
shared_is_split = record {
  last = shared_last;
  picks = (
    shared_pick ∷ [],
    picked shared_first shared_last shared_pick [] 3 shared_is_pick
        (made (λ reuses other just. shared_just other just))
        (ended shared_last (λ candidate q. ⊎_elim (λ mine. shared_none mine.1.member candidate.chunks mine.1.movable mine.1.are_chunks mine.1.enough_chunks)
        (λ its. no_vendor 0 shared_last its.1.member its.1.movable) (either_group shared_graph 0 shared_last candidate q))),
  );
  finished = refl;
}

-- ---- the same where a group may load one chunk alone

-- with a chunk more, the first of the two groups loads two
one_more : Qualifies shared_graph one_request shared_first shared_pick → ⊥
one_more q = ⊎_elim (λ large. let wrong : 50000 ≤ 18 = large in omega arith)
    (λ keeps. let wrong : 2 ≤ 1 = keeps 3 (made (λ reuses other just. shared_just other just)) 1 refl in omega arith) q.requests

pub unsplit_are_split : IsSplit shared_graph (Some one_request) 1 shared_placed unsplit_chunks
unsplit_are_split = record { last = shared_first; picks = ([], ended shared_first none); finished = refl }
  where
    none : (candidate : Candidate) → ¬ Qualifies shared_graph one_request shared_first candidate
    none candidate q = ⊎_elim
        (λ mine. let fit = mine.1 in let is = shared_only fit.member candidate.chunks candidate.modules fit.movable fit.are_chunks fit.enough_chunks fit.are_modules in
        let same : candidate ≡ shared_pick = λ i. record { cache_group = mine.0 i; chunks = is.0 i; modules = is.1 i } in
        one_more (subst (Qualifies shared_graph one_request shared_first) same q))
        (λ its. no_vendor 0 shared_first its.1.member its.1.movable)
        (either_of shared_graph one_request shared_first (default_group 0) (vendors_group 0) candidate refl q)

-- ---- modules that are too small to be split

too_small : (graph : Graph) (modules expected : List ℕ) (size wanted : ℕ) → modules ≡ expected → bytes_of graph expected ≡ size → size < wanted
    → wanted ≤ bytes_of graph modules → ⊥
too_small graph modules expected size wanted same bytes less enough = let is : bytes_of graph modules ≡ bytes_of graph expected = ap (bytes_of graph) same in omega arith

abbrev parents_first : SplitState
parents_first = first_state 1 parents_placed

parents_vendor : (member : ℕ) → is_movable parents_graph parents_first (vendors_group 20000) member ≡ true → ⊥
parents_vendor zero e = true≢false (sym e)
parents_vendor (suc zero) e = true≢false (sym e)
parents_vendor (suc (suc zero)) e = true≢false (sym e)
parents_vendor (suc (suc (suc zero))) e = true≢false (sym e)
parents_vendor (suc (suc (suc (suc zero)))) e = true≢false (sym e)
parents_vendor (suc (suc (suc (suc (suc member))))) e = true≢false (sym e)

parents_none : (member : ℕ) (chunks modules : List ℕ) → is_movable parents_graph parents_first (default_group 20000) member ≡ true
    → chunks ≡ chunks_with parents_first (default_group 20000) member → 2 ≤ length chunks
    → modules ≡ modules_with parents_graph parents_first (default_group 20000) chunks → 20000 ≤ bytes_of parents_graph modules → ⊥
parents_none zero chunks modules movable e enough m bytes = too_few chunks 0 2 (ap length e) (omega arith) enough
parents_none (suc zero) chunks modules movable e enough m bytes = too_few chunks 1 2 (ap length e) (omega arith) enough
parents_none (suc (suc zero)) chunks modules movable e enough m bytes = too_few chunks 1 2 (ap length e) (omega arith) enough
parents_none (suc (suc (suc zero))) chunks modules movable e enough m bytes = too_small parents_graph modules (3 ∷ []) 5 20000
    (m ∙ ap (modules_with parents_graph parents_first (default_group 20000)) e) refl (omega arith) bytes
parents_none (suc (suc (suc (suc zero)))) chunks modules movable e enough m bytes = too_few chunks 1 2 (ap length e) (omega arith) enough
parents_none (suc (suc (suc (suc (suc member))))) chunks modules movable e enough m bytes = true≢false (sym movable)

pub parents_are_split : IsSplit parents_graph (Some (default_split 20000)) 1 parents_placed parents_chunks
parents_are_split = record {
  last = parents_first;
  picks = (
    [],
    ended parents_first (λ candidate q. ⊎_elim
        (λ mine. parents_none mine.1.member candidate.chunks candidate.modules mine.1.movable mine.1.are_chunks mine.1.enough_chunks mine.1.are_modules mine.1.enough_bytes)
        (λ its. parents_vendor its.1.member its.1.movable) (either_group parents_graph 20000 parents_first candidate q)),
  );
  finished = refl;
}

abbrev agreeing_first : SplitState
agreeing_first = first_state 1 agreeing_placed

agreeing_vendor : (member : ℕ) → is_movable agreeing_graph agreeing_first (vendors_group 20000) member ≡ true → ⊥
agreeing_vendor zero e = true≢false (sym e)
agreeing_vendor (suc zero) e = true≢false (sym e)
agreeing_vendor (suc (suc zero)) e = true≢false (sym e)
agreeing_vendor (suc (suc (suc zero))) e = true≢false (sym e)
agreeing_vendor (suc (suc (suc (suc zero)))) e = true≢false (sym e)
agreeing_vendor (suc (suc (suc (suc (suc member))))) e = true≢false (sym e)

agreeing_none : (member : ℕ) (chunks modules : List ℕ) → is_movable agreeing_graph agreeing_first (default_group 20000) member ≡ true
    → chunks ≡ chunks_with agreeing_first (default_group 20000) member → 2 ≤ length chunks
    → modules ≡ modules_with agreeing_graph agreeing_first (default_group 20000) chunks → 20000 ≤ bytes_of agreeing_graph modules → ⊥
agreeing_none zero chunks modules movable e enough m bytes = too_few chunks 0 2 (ap length e) (omega arith) enough
agreeing_none (suc zero) chunks modules movable e enough m bytes = too_few chunks 1 2 (ap length e) (omega arith) enough
agreeing_none (suc (suc zero)) chunks modules movable e enough m bytes = too_few chunks 1 2 (ap length e) (omega arith) enough
agreeing_none (suc (suc (suc zero))) chunks modules movable e enough m bytes = too_small agreeing_graph modules (3 ∷ []) 5 20000
    (m ∙ ap (modules_with agreeing_graph agreeing_first (default_group 20000)) e) refl (omega arith) bytes
agreeing_none (suc (suc (suc (suc zero)))) chunks modules movable e enough m bytes = too_few chunks 1 2 (ap length e) (omega arith) enough
agreeing_none (suc (suc (suc (suc (suc member))))) chunks modules movable e enough m bytes = true≢false (sym movable)

pub agreeing_are_split : IsSplit agreeing_graph (Some (default_split 20000)) 1 agreeing_placed agreeing_chunks
agreeing_are_split = record {
  last = agreeing_first;
  picks = (
    [],
    ended agreeing_first (λ candidate q. ⊎_elim
        (λ mine. agreeing_none mine.1.member candidate.chunks candidate.modules mine.1.movable mine.1.are_chunks mine.1.enough_chunks mine.1.are_modules mine.1.enough_bytes)
        (λ its. agreeing_vendor its.1.member its.1.movable) (either_group agreeing_graph 20000 agreeing_first candidate q)),
  );
  finished = refl;
}

-- ---- a large module of a package

abbrev folder_first : SplitState
folder_first = first_state 1 folder_placed

abbrev folder_pick : Candidate
folder_pick = record { cache_group = vendors_group 20000; chunks = 1 ∷ 2 ∷ []; modules = 6 ∷ [] }

folder_vendor : (member : ℕ) (chunks modules : List ℕ) → is_movable folder_graph folder_first (vendors_group 20000) member ≡ true
    → chunks ≡ chunks_with folder_first (vendors_group 20000) member → modules ≡ modules_with folder_graph folder_first (vendors_group 20000) chunks
    → (chunks ≡ 1 ∷ 2 ∷ []) × (modules ≡ 6 ∷ [])
folder_vendor zero chunks modules movable e m = absurd (true≢false (sym movable))
folder_vendor (suc zero) chunks modules movable e m = absurd (true≢false (sym movable))
folder_vendor (suc (suc zero)) chunks modules movable e m = absurd (true≢false (sym movable))
folder_vendor (suc (suc (suc zero))) chunks modules movable e m = absurd (true≢false (sym movable))
folder_vendor (suc (suc (suc (suc zero)))) chunks modules movable e m = absurd (true≢false (sym movable))
folder_vendor (suc (suc (suc (suc (suc zero))))) chunks modules movable e m = absurd (true≢false (sym movable))
folder_vendor (suc (suc (suc (suc (suc (suc zero)))))) chunks modules movable e m = (e, m ∙ ap (modules_with folder_graph folder_first (vendors_group 20000)) e)
folder_vendor (suc (suc (suc (suc (suc (suc (suc member))))))) chunks modules movable e m = absurd (true≢false (sym movable))

folder_just : (other : ℕ) → HoldsJust folder_first folder_pick other → ⊥
folder_just other just = ⊎_elim
    (λ same. absurd (longer (6 ∷ []) (3 ∷ 6 ∷ []) 1 2 refl refl (omega arith) (sym just.2 ∙ ap (chunk_at folder_first) (sym same))))
    (λ rest. ⊎_elim (λ same. absurd (longer (6 ∷ []) (4 ∷ 6 ∷ []) 1 2 refl refl (omega arith) (sym just.2 ∙ ap (chunk_at folder_first) (sym same)))) (λ none. absurd (none_in other none)) (one_of 2 [] other rest))
    (one_of 1 (2 ∷ []) other just.0)

folder_split : (split : ℕ) → IsSplitChunk folder_first folder_pick split → split ≡ 4
folder_split split (reused _ reuses just least) = absurd (folder_just split just)
folder_split split (made none) = refl

folder_small : (group : ℕ) → length (loads_at (after_pick folder_first folder_pick 4) group) ≤ 30
folder_small zero = within _ 1 refl (omega arith)
folder_small (suc zero) = within _ 2 refl (omega arith)
folder_small (suc (suc zero)) = within _ 2 refl (omega arith)
folder_small (suc (suc (suc zero))) = within _ 1 refl (omega arith)
folder_small (suc (suc (suc (suc group)))) = within _ 0 refl (omega arith)

folder_limits : KeepsLimits (default_split 20000) folder_first folder_pick
folder_limits split into group meet =
    let limit = limit_is 20000 folder_first group in
    let small : length (loads_at (after_pick folder_first folder_pick split) group) ≤ 30 =
    subst (λ z. length (loads_at (after_pick folder_first folder_pick z) group) ≤ 30) (sym (folder_split split into)) (folder_small group) in
    omega arith

lower : (default_group 20000).priority <ℤ (vendors_group 20000).priority
lower = omega arith

-- the cache group of packages goes before the other one, by its priority
folder_is_pick : IsPick folder_graph (default_split 20000) folder_first folder_pick
folder_is_pick = record {
  qualifies = record {
    is_candidate = record { cache_group = there (default_group 20000) (vendors_group 20000 ∷ []) (vendors_group 20000) (here (vendors_group 20000) []); member = 6; movable = refl; chunks = refl; some_chunk = omega arith; modules = refl };
    enough_chunks = omega arith;
    enough_bytes = let bytes : bytes_of folder_graph (6 ∷ []) ≡ 30000 = refl in omega arith;
    changes = λ chunk same. absurd (two_are_not_one 1 2 chunk same);
    requests = inr folder_limits;
  };
  greatest = λ other q. ⊎_elim
      (λ mine. inr (by_priority (subst (λ cache. cache.priority <ℤ folder_pick.cache_group.priority) (sym mine.0) lower)))
      (λ its. let fit = its.1 in let is = folder_vendor fit.member other.chunks other.modules fit.movable fit.are_chunks fit.are_modules in
      inl (λ i. record { cache_group = its.0 i; chunks = is.0 i; modules = is.1 i }))
      (either_group folder_graph 20000 folder_first other q);
}

abbrev folder_last : SplitState
folder_last = after_pick folder_first folder_pick 4

folder_vendor_none : (member : ℕ) → is_movable folder_graph folder_last (vendors_group 20000) member ≡ true → ⊥
folder_vendor_none zero movable = true≢false (sym movable)
folder_vendor_none (suc zero) movable = true≢false (sym movable)
folder_vendor_none (suc (suc zero)) movable = true≢false (sym movable)
folder_vendor_none (suc (suc (suc zero))) movable = true≢false (sym movable)
folder_vendor_none (suc (suc (suc (suc zero)))) movable = true≢false (sym movable)
folder_vendor_none (suc (suc (suc (suc (suc zero))))) movable = true≢false (sym movable)
folder_vendor_none (suc (suc (suc (suc (suc (suc zero)))))) movable = true≢false (sym movable)
folder_vendor_none (suc (suc (suc (suc (suc (suc (suc member))))))) movable = true≢false (sym movable)

folder_none : (member : ℕ) (chunks : List ℕ) → is_movable folder_graph folder_last (default_group 20000) member ≡ true
    → chunks ≡ chunks_with folder_last (default_group 20000) member → 2 ≤ length chunks → ⊥
folder_none zero chunks movable e enough = too_few chunks 0 2 (ap length e) (omega arith) enough
folder_none (suc zero) chunks movable e enough = too_few chunks 0 2 (ap length e) (omega arith) enough
folder_none (suc (suc zero)) chunks movable e enough = too_few chunks 0 2 (ap length e) (omega arith) enough
folder_none (suc (suc (suc zero))) chunks movable e enough = too_few chunks 1 2 (ap length e) (omega arith) enough
folder_none (suc (suc (suc (suc zero)))) chunks movable e enough = too_few chunks 1 2 (ap length e) (omega arith) enough
folder_none (suc (suc (suc (suc (suc zero))))) chunks movable e enough = too_few chunks 1 2 (ap length e) (omega arith) enough
folder_none (suc (suc (suc (suc (suc (suc zero)))))) chunks movable e enough = true≢false (sym movable)
folder_none (suc (suc (suc (suc (suc (suc (suc member))))))) chunks movable e enough = true≢false (sym movable)

pub folder_is_split : IsSplit folder_graph (Some (default_split 20000)) 1 folder_placed folder_chunks
folder_is_split = record {
  last = folder_last;
  picks = (
    folder_pick ∷ [],
    picked folder_first folder_last folder_pick [] 4 folder_is_pick
        (made (λ reuses other just. folder_just other just))
        (ended folder_last (λ candidate q. ⊎_elim (λ mine. folder_none mine.1.member candidate.chunks mine.1.movable mine.1.are_chunks mine.1.enough_chunks)
        (λ its. folder_vendor_none its.1.member its.1.movable) (either_group folder_graph 20000 folder_last candidate q))),
  );
  finished = refl;
}

-- ---- a chunk that is there already is used again

abbrev reused_first : SplitState
reused_first = first_state 1 reused_placed

abbrev reused_pick : Candidate
reused_pick = record { cache_group = default_group 0; chunks = 1 ∷ 2 ∷ []; modules = 2 ∷ [] }

reused_vendor : (state : SplitState) (member : ℕ) → is_movable reused_graph state (vendors_group 0) member ≡ true → ⊥
reused_vendor state zero e = true≢false (sym e)
reused_vendor state (suc zero) e = true≢false (sym e)
reused_vendor state (suc (suc zero)) e = true≢false (sym e)
reused_vendor state (suc (suc (suc member))) e = true≢false (sym e)

reused_only : (member : ℕ) (chunks modules : List ℕ) → is_movable reused_graph reused_first (default_group 0) member ≡ true
    → chunks ≡ chunks_with reused_first (default_group 0) member → 2 ≤ length chunks → modules ≡ modules_with reused_graph reused_first (default_group 0) chunks
    → (chunks ≡ 1 ∷ 2 ∷ []) × (modules ≡ 2 ∷ [])
reused_only zero chunks modules movable e enough m = absurd (too_few chunks 0 2 (ap length e) (omega arith) enough)
reused_only (suc zero) chunks modules movable e enough m = absurd (too_few chunks 1 2 (ap length e) (omega arith) enough)
reused_only (suc (suc zero)) chunks modules movable e enough m = (e, m ∙ ap (modules_with reused_graph reused_first (default_group 0)) e)
reused_only (suc (suc (suc member))) chunks modules movable e enough m = absurd (true≢false (sym movable))

reused_just : (other : ℕ) → HoldsJust reused_first reused_pick other → 2 ≡ other
reused_just other just = ⊎_elim
    (λ same. absurd (longer (2 ∷ []) (1 ∷ 2 ∷ []) 1 2 refl refl (omega arith) (sym just.2 ∙ ap (chunk_at reused_first) (sym same))))
    (λ rest. ⊎_elim (λ same. same) (λ none. absurd (none_in other none)) (one_of 2 [] other rest))
    (one_of 1 (2 ∷ []) other just.0)

reused_holds : HoldsJust reused_first reused_pick 2
reused_holds = (there 1 (2 ∷ []) 2 (here 2 []), omega arith, refl)

reused_split : (split : ℕ) → IsSplitChunk reused_first reused_pick split → split ≡ 2
reused_split split (reused _ reuses just least) = sym (reused_just split just)
reused_split split (made none) = absurd (none refl 2 reused_holds)

reused_small : (group : ℕ) → length (loads_at (after_pick reused_first reused_pick 2) group) ≤ 30
reused_small zero = within _ 1 refl (omega arith)
reused_small (suc zero) = within _ 2 refl (omega arith)
reused_small (suc (suc zero)) = within _ 1 refl (omega arith)
reused_small (suc (suc (suc group))) = within _ 0 refl (omega arith)

reused_limits : KeepsLimits (default_split 0) reused_first reused_pick
reused_limits split into group meet =
    let limit = limit_is 0 reused_first group in
    let small : length (loads_at (after_pick reused_first reused_pick split) group) ≤ 30 =
    subst (λ z. length (loads_at (after_pick reused_first reused_pick z) group) ≤ 30) (sym (reused_split split into)) (reused_small group) in
    omega arith

reused_is_pick : IsPick reused_graph (default_split 0) reused_first reused_pick
reused_is_pick = record {
  qualifies = record {
    is_candidate = record { cache_group = here (default_group 0) (vendors_group 0 ∷ []); member = 2; movable = refl; chunks = refl; some_chunk = omega arith; modules = refl };
    enough_chunks = omega arith;
    enough_bytes = omega arith;
    changes = λ chunk same. absurd (two_are_not_one 1 2 chunk same);
    requests = inr reused_limits;
  };
  greatest = λ other q. ⊎_elim
      (λ mine. let fit = mine.1 in let is = reused_only fit.member other.chunks other.modules fit.movable fit.are_chunks fit.enough_chunks fit.are_modules in
      inl (λ i. record { cache_group = mine.0 i; chunks = is.0 i; modules = is.1 i }))
      (λ its. absurd (reused_vendor reused_first its.1.member its.1.movable))
      (either_group reused_graph 0 reused_first other q);
}

abbrev reused_last : SplitState
reused_last = after_pick reused_first reused_pick 2

reused_none : (member : ℕ) (chunks : List ℕ) → is_movable reused_graph reused_last (default_group 0) member ≡ true
    → chunks ≡ chunks_with reused_last (default_group 0) member → 2 ≤ length chunks → ⊥
reused_none zero chunks movable e enough = too_few chunks 0 2 (ap length e) (omega arith) enough
reused_none (suc zero) chunks movable e enough = too_few chunks 1 2 (ap length e) (omega arith) enough
reused_none (suc (suc zero)) chunks movable e enough = true≢false (sym movable)
reused_none (suc (suc (suc member))) chunks movable e enough = true≢false (sym movable)

pub reused_is_split : IsSplit reused_graph (Some (default_split 0)) 1 reused_placed reused_chunks
reused_is_split = record {
  last = reused_last;
  picks = (
    reused_pick ∷ [],
    picked reused_first reused_last reused_pick [] 2 reused_is_pick
        (reused 2 refl reused_holds (λ other just. let same = reused_just other just in omega arith))
        (ended reused_last (λ candidate q. ⊎_elim (λ mine. reused_none mine.1.member candidate.chunks mine.1.movable mine.1.are_chunks mine.1.enough_chunks)
        (λ its. reused_vendor reused_last its.1.member its.1.movable) (either_group reused_graph 0 reused_last candidate q))),
  );
  finished = refl;
}

-- ---- entry chunks give a module away

abbrev entries_first : SplitState
entries_first = first_state 2 entries_placed

abbrev entries_pick : Candidate
entries_pick = record { cache_group = entries_group; chunks = 0 ∷ 1 ∷ []; modules = 2 ∷ [] }

entries_vendor : (state : SplitState) (member : ℕ) → is_movable entries_graph state (vendors_group 0) member ≡ true → ⊥
entries_vendor state zero e = true≢false (sym e)
entries_vendor state (suc zero) e = true≢false (sym e)
entries_vendor state (suc (suc zero)) e = true≢false (sym e)
entries_vendor state (suc (suc (suc member))) e = true≢false (sym e)

entries_only : (member : ℕ) (chunks modules : List ℕ) → is_movable entries_graph entries_first entries_group member ≡ true
    → chunks ≡ chunks_with entries_first entries_group member → 2 ≤ length chunks → modules ≡ modules_with entries_graph entries_first entries_group chunks
    → (chunks ≡ 0 ∷ 1 ∷ []) × (modules ≡ 2 ∷ [])
entries_only zero chunks modules movable e enough m = absurd (too_few chunks 1 2 (ap length e) (omega arith) enough)
entries_only (suc zero) chunks modules movable e enough m = absurd (too_few chunks 1 2 (ap length e) (omega arith) enough)
entries_only (suc (suc zero)) chunks modules movable e enough m = (e, m ∙ ap (modules_with entries_graph entries_first entries_group) e)
entries_only (suc (suc (suc member))) chunks modules movable e enough m = absurd (true≢false (sym movable))

-- an entry chunk is not used again
entries_just : (other : ℕ) → HoldsJust entries_first entries_pick other → ⊥
entries_just other just = let above = just.1 in ⊎_elim (λ same. omega arith)
    (λ rest. ⊎_elim (λ same. omega arith) (λ none. absurd (none_in other none)) (one_of 1 [] other rest)) (one_of 0 (1 ∷ []) other just.0)

entries_split_chunk : (split : ℕ) → IsSplitChunk entries_first entries_pick split → split ≡ 2
entries_split_chunk split (reused _ reuses just least) = absurd (entries_just split just)
entries_split_chunk split (made none) = refl

entries_small : (group : ℕ) → length (loads_at (after_pick entries_first entries_pick 2) group) ≤ 30
entries_small zero = within _ 2 refl (omega arith)
entries_small (suc zero) = within _ 2 refl (omega arith)
entries_small (suc (suc group)) = within _ 0 refl (omega arith)

entries_limits : KeepsLimits entries_split entries_first entries_pick
entries_limits split into group meet =
    let limit : request_limit entries_split entries_first group ≡ 30 = limit_is 0 entries_first group in
    let small : length (loads_at (after_pick entries_first entries_pick split) group) ≤ 30 =
    subst (λ z. length (loads_at (after_pick entries_first entries_pick z) group) ≤ 30) (sym (entries_split_chunk split into)) (entries_small group) in
    omega arith

entries_is_pick : IsPick entries_graph entries_split entries_first entries_pick
entries_is_pick = record {
  qualifies = record {
    is_candidate = record { cache_group = here entries_group (vendors_group 0 ∷ []); member = 2; movable = refl; chunks = refl; some_chunk = omega arith; modules = refl };
    enough_chunks = omega arith;
    enough_bytes = omega arith;
    changes = λ chunk same. absurd (two_are_not_one 0 1 chunk same);
    requests = inr entries_limits;
  };
  greatest = λ other q. ⊎_elim
      (λ mine. let fit = mine.1 in let is = entries_only fit.member other.chunks other.modules fit.movable fit.are_chunks fit.enough_chunks fit.are_modules in
      inl (λ i. record { cache_group = mine.0 i; chunks = is.0 i; modules = is.1 i }))
      (λ its. absurd (entries_vendor entries_first its.1.member its.1.movable))
      (either_of entries_graph entries_split entries_first entries_group (vendors_group 0) other refl q);
}

abbrev entries_last : SplitState
entries_last = after_pick entries_first entries_pick 2

entries_none : (member : ℕ) (chunks : List ℕ) → is_movable entries_graph entries_last entries_group member ≡ true
    → chunks ≡ chunks_with entries_last entries_group member → 2 ≤ length chunks → ⊥
entries_none zero chunks movable e enough = too_few chunks 1 2 (ap length e) (omega arith) enough
entries_none (suc zero) chunks movable e enough = too_few chunks 1 2 (ap length e) (omega arith) enough
entries_none (suc (suc zero)) chunks movable e enough = true≢false (sym movable)
entries_none (suc (suc (suc member))) chunks movable e enough = true≢false (sym movable)

pub entries_are_split : IsSplit entries_graph (Some entries_split) 2 entries_placed entries_chunks
entries_are_split = record {
  last = entries_last;
  picks = (
    entries_pick ∷ [],
    picked entries_first entries_last entries_pick [] 2 entries_is_pick
        (made (λ reuses other just. entries_just other just))
        (ended entries_last (λ candidate q. ⊎_elim (λ mine. entries_none mine.1.member candidate.chunks mine.1.movable mine.1.are_chunks mine.1.enough_chunks)
        (λ its. entries_vendor entries_last its.1.member its.1.movable)
        (either_of entries_graph entries_split entries_last entries_group (vendors_group 0) candidate refl q))),
  );
  finished = refl;
}
