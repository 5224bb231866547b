-- Each pick moves a module, and none is moved twice.
use Rattle.std.proofs.Common.{◌≡◌, ◌≢◌, ℕ, zero, suc, ◌<◌, true, false, cond, List, [], ◌∷◌, ◌++◌, length, sym, ap, subst, ◌∙◌, arith, ⊎_elim, true≢false, AllPairs, slice_get, slice_index_or, option_map, unwrap_or}
use Rattle.std.specs.List.{Contains, range_with_len}
use Rattle.std.specs.Cmp.Lexicographic.{bytes_decides}
use Rattle.std.proofs.lemmas.List.Elements.{Contains-append_left, Contains-append_right, Contains-get_or}
use Rattle.std.proofs.lemmas.Bool.{cases_Bool}
use Rattle.pk_types.specs.declared.graph.Graph.{Graph}
use Rattle.pk_types.specs.declared.graph.Row.{Row}
use Rattle.pk_types.specs.declared.settings.CacheGroup.{CacheGroup}
use Rattle.pk_types.specs.declared.settings.SplitConfig.{SplitConfig}
use Rattle.pk_types.specs.Numbers.{has, without}
use Rattle.pk_types.specs.SplitStates.{SplitState, chunk_at}
use Rattle.pk_types.specs.SplitCandidates.{Candidate, IsCandidate, is_split, takes_module, takes, chunks_with}
use Rattle.pk_types.specs.SplitPicks.{IsSplitChunk, reused, made, after_pick}
use Rattle.pk_types.specs.Splitting.{ArePicks, ended, picked}
use Rattle.pk_types.proofs.ListMembers.{here, one_of, none_in, filtered, unfiltered, in_range, has-true, true-has, any_true, true-any, both, first_so, second_so, not_so, in_row, absent}
use Rattle.pk_types.proofs.PickLaws.{count_after, chunk_at_after, split_holds, other_chunk, holds_one}

-- a module that may be moved is a module
takes_one : (graph : Graph) (cache : CacheGroup) (member : ℕ) → takes_module graph cache member ≡ true → member < length graph.rows
takes_one graph cache member e = by graph.rows member e
  where
    by : (rows : List Row) (member : ℕ) → unwrap_or (option_map (takes cache.test) (option_map (λ row. row.label) (slice_get rows member))) false ≡ true → member < length rows
    by [] member e = absurd (true≢false (sym e))
    by (row ∷ rows) zero e = omega arith
    by (row ∷ rows) (suc member) e = let rest = by rows member e in omega arith

-- so a candidate has a module
pub has_module : (graph : Graph) (config : SplitConfig) (state : SplitState) (candidate : Candidate) (is : IsCandidate graph config state candidate) → Contains candidate.modules is.member
has_module graph config state candidate is =
    let inside = takes_one graph candidate.cache_group is.member (first_so _ _ is.movable) in
    let same = (bytes_decides (chunks_with state candidate.cache_group is.member) candidate.chunks).1 (sym is.chunks) in
    subst (λ list. Contains list is.member) (sym is.modules)
    (filtered _ (range_with_len 0 (length graph.rows)) is.member (in_range 0 (length graph.rows) is.member (omega arith) (omega arith)) (both _ _ is.movable same))

-- a chunk that is none of the candidate's is not the split chunk
another : (state : SplitState) (candidate : Candidate) (split : ℕ) → IsSplitChunk state candidate split → (chunk : ℕ) → ¬ Contains candidate.chunks chunk → chunk < length state.modules → chunk ≢ split
another state candidate split (reused _ reuses just least) chunk none inside same = none (subst (Contains candidate.chunks) (sym same) just.0)
another state candidate split (made free) chunk none inside same = omega arith

module _ (graph : Graph) (config : SplitConfig) (state : SplitState) (candidate : Candidate) (split : ℕ) (is : IsCandidate graph config state candidate) (into : IsSplitChunk state candidate split) where
  -- no module of a candidate stands in a split chunk before
  pub unsplit : (member : ℕ) → Contains candidate.modules member → is_split state member ≡ false
  unsplit member c =
      let passes = (unfiltered _ (range_with_len 0 (length graph.rows)) member (subst (λ list. Contains list member) is.modules c)).1 in
      not_so _ (second_so _ _ (first_so _ _ passes))

  split_below : split < count_after state split
  split_below = omega arith

  -- each of them does afterwards
  pub now_split : (member : ℕ) → Contains candidate.modules member → is_split (after_pick state candidate split) member ≡ true
  now_split member c = any_true (λ chunk. has (chunk_at (after_pick state candidate split) chunk) member) (state.split ++ split ∷ []) split
      (Contains-append_right state.split (split ∷ []) split (here split []))
      (has-true (chunk_at (after_pick state candidate split) split) member
      (subst (λ list. Contains list member) (sym (chunk_at_after state candidate split split split_below ∙ split_holds state candidate split)) c))

  -- and what stood in a split chunk still does
  pub still_split : (member : ℕ) → is_split state member ≡ true → is_split (after_pick state candidate split) member ≡ true
  still_split member before =
      let found = true-any (λ chunk. has (chunk_at state chunk) member) state.split before in
      let chunk = found.0 in
      let held = true-has (chunk_at state chunk) member found.2 in
      let inside = in_row state.modules chunk member held in
      let below : chunk < count_after state split = omega (arith, inside) in
      let none : ¬ Contains candidate.chunks chunk = λ among. true≢false
      (sym (any_true (λ chunk. has (chunk_at state chunk) is.member) state.split chunk found.1 (has-true (chunk_at state chunk) is.member (holds_one graph config state candidate is chunk among).1))
      ∙ not_so _ (second_so _ _ is.movable)) in
      let apart : chunk ≢ split = another state candidate split into chunk none inside in
      let same : chunk_at (after_pick state candidate split) chunk ≡ chunk_at state chunk =
      chunk_at_after state candidate split chunk below
      ∙ (other_chunk state candidate split chunk apart ∙ ap (λ b. cond b (without candidate.modules (chunk_at state chunk)) (chunk_at state chunk)) (absent candidate.chunks chunk none)) in
      any_true (λ chunk. has (chunk_at (after_pick state candidate split) chunk) member) (state.split ++ split ∷ []) chunk
      (Contains-append_left state.split (split ∷ []) chunk found.1)
      (has-true (chunk_at (after_pick state candidate split) chunk) member (subst (λ list. Contains list member) (sym same) held))

-- no module of a pick stands in a split chunk before the picks
fresh : (graph : Graph) (config : SplitConfig) (first last : SplitState) (picks : List Candidate) → ArePicks graph config first picks last
    → (pick : Candidate) → Contains picks pick → (member : ℕ) → Contains pick.modules member → is_split first member ≡ false
fresh graph config first last picks (ended _ none) pick c member inside = absurd (none_in pick c)
fresh graph config first last picks (picked _ _ head rest split is into after) pick c member inside = ⊎_elim
    (λ same. unsplit graph config first head split is.qualifies.is_candidate into member (subst (λ z. Contains z.modules member) (sym same) inside))
    (λ d. let later = fresh graph config (after_pick first head split) last rest after pick d member inside in
    ⊎_elim (λ yes_split. absurd (true≢false (sym (still_split graph config first head split is.qualifies.is_candidate into member yes_split) ∙ later))) (λ no. no) (cases_Bool (is_split first member)))
    (one_of head rest pick c)

-- no two picks move one module
pub picked_once : (graph : Graph) (config : SplitConfig) (first last : SplitState) (picks : List Candidate) → ArePicks graph config first picks last
    → AllPairs (λ pick later. (member : ℕ) → Contains pick.modules member → ¬ Contains later.modules member) picks
picked_once graph config first last picks (ended _ none) i j d before inside = absurd (omega arith)
picked_once graph config first last picks (picked _ _ head rest split is into after) zero zero d before inside = absurd (omega arith)
picked_once graph config first last picks (picked _ _ head rest split is into after) (suc i) zero d before inside = absurd (omega arith)
picked_once graph config first last picks (picked _ _ head rest split is into after) zero (suc j) d before inside = λ member c again.
    true≢false (sym (now_split graph config first head split is.qualifies.is_candidate into member c)
    ∙ fresh graph config (after_pick first head split) last rest after (slice_index_or rest j d) (Contains-get_or rest j d (omega arith)) member again)
picked_once graph config first last picks (picked _ _ head rest split is into after) (suc i) (suc j) d before inside =
    picked_once graph config (after_pick first head split) last rest after i j d (omega arith) (omega arith)

-- each pick moves some module
pub moves_some : (graph : Graph) (config : SplitConfig) (first last : SplitState) (picks : List Candidate) → ArePicks graph config first picks last
    → (pick : Candidate) → Contains picks pick → (member : ℕ) × Contains pick.modules member
moves_some graph config first last picks (ended _ none) pick c = absurd (none_in pick c)
moves_some graph config first last picks (picked _ _ head rest split is into after) pick c = ⊎_elim
    (λ same. subst (λ z. (member : ℕ) × Contains z.modules member) same (is.qualifies.is_candidate.member, has_module graph config first head is.qualifies.is_candidate))
    (λ d. moves_some graph config (after_pick first head split) last rest after pick d)
    (one_of head rest pick c)
