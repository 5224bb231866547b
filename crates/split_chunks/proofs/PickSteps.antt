-- From pick to pick.
use Rattle.std.proofs.Common.{◌≡◌, ⊎_elim, ℕ, ◌+◌, ◌-◌, ◌<◌, ◌≤◌, max, ◌&&◌, Bool, true, false, not, cond, true≢false, List, [], ◌∷◌, ◌++◌, length, filter, count_by, get_or, Option, Some, None, slice_get, refl, sym, ap, subst, ◌∙◌, arith}
use Rattle.std.specs.List.{All, Contains, range_with_len}
use Rattle.std.specs.List.Sorted.{IsStrictlyIncreasing}
use Rattle.std.proofs.lemmas.Bool.{cases_Bool, cases_lt}
use Rattle.std.proofs.lemmas.Option.{slice_get_within, get_or_from_slice_get, slice_get-get_or, same_Some}
use Rattle.std.proofs.lemmas.List.Kept.{IsStrictlyIncreasing-filter}
use Rattle.std.proofs.lemmas.List.Elements.{All-contains, Contains-push_cases}
use Rattle.std.proofs.lemmas.List.FromFn.{length-map-range_with_len, length-range_with_len}
use Rattle.std.proofs.lemmas.List.Sums.{sum_by-cons, count_by-le-length}
use Rattle.pk_types.specs.declared.graph.Graph.{Graph}
use Rattle.pk_types.specs.declared.settings.CacheGroup.{CacheGroup}
use Rattle.pk_types.specs.declared.settings.SplitConfig.{SplitConfig}
use Rattle.pk_types.specs.declared.plan.Groups.{Groups}
use Rattle.std.proofs.lemmas.List.Sums.{length-filter}
use Rattle.std.specs.Cmp.Lexicographic.{bytes_decides}
use Rattle.std.proofs.lemmas.List.{get_or_default}
use Rattle.pk_types.specs.Numbers.{are_same}
use Rattle.pk_types.specs.SplitStates.{SplitState, is_entry, first_state}
use Rattle.pk_types.specs.SplitCandidates.{Candidate, IsCandidate, is_split, is_movable, chunks_with}
use Rattle.pk_types.specs.SplitPicks.{chunk_after, after_pick, Qualifies, IsPick}
use Rattle.pk_types.specs.Splitting.{ArePicks, picked, IsSplit}
use Rattle.pk_types.specs.declared.plan.Chunks.{Chunks}
use Rattle.pk_types.specs.Availability.{GroupsFit, ArePlaced, HasModulesBelow}
use Rattle.pk_types.specs.ChunkClauses.{row_at, MeetClauses}
use Rattle.pk_types.proofs.ListMembers.{in_row, has_some, or_second, one_of, none_in, in_range, filtered, unfiltered, so_not, not_so}
use Rattle.pk_types.proofs.Members.{at-Contains, at_front, at_append}
use Rattle.pk_types.proofs.PickLaws.{pick_keeps}
use Rattle.pk_types.proofs.PickedOnce.{has_module, unsplit, now_split, still_split}
use Rattle.pk_types.proofs.SplitLaws.{modules_in_range}
use Rattle.pk_types.proofs.SplitClauses.{first_keeps, split_meets}
use Rattle.pk_types.proofs.GroupChunks.{placed_fit}
use Rattle.split_chunks.specs.declared.state.State.{State}
use Rattle.split_chunks.specs.declared.choice.Choice.{Choice}
use Rattle.split_chunks.specs.declared.gather.Gathered.{Gathered}
use Rattle.avail_sets.specs.Rows.{AreAvailable}
use Rattle.split_chunks.specs.GroupChunks.{HasAscendingClosures}
use Rattle.split_chunks.specs.States.{state_of, IsSound}
use Rattle.split_chunks.specs.Choices.{candidate_of, Yields}
use Rattle.split_chunks.specs.Gathering.{AreOfScene}
use Rattle.split_chunks.specs.Picking.{candidate_at, AreFirstGathered, IsBest, IsPicked, IsHeld, IsPickedFrom}
use Rattle.split_chunks.proofs.Lists.{all_of}
use Rattle.split_chunks.proofs.Gathers.{each_candidate}

pub held_sound : (rows : ℕ) (state : SplitState) → IsHeld rows state → IsSound rows state
held_sound rows state held = record {
  ascending = held.keeps.ascending;
  members = λ chunk member c.
      let there = or_second (is_entry state chunk) _ (has_some (get_or state.modules chunk []) member c) in
      let listed = held.keeps.listed chunk (in_row state.modules chunk member c) there in
      held.below listed.0 member (held.keeps.closed listed.0 chunk member listed.1 c);
  loads = held.keeps.in_range;
  split = held.split;
  short = held.short;
  entries = held.keeps.few_entries;
}

-- the first state of groups
pub held_first : (rows : ℕ) (groups : Groups) (placed : List (List ℕ)) → GroupsFit groups → ArePlaced groups placed → HasModulesBelow groups rows
    → IsHeld rows (first_state groups.entries placed)
held_first rows groups placed fits are below = record {
  closures = groups.closures;
  placed = placed;
  keeps = first_keeps groups.entries groups.closures placed (placed_fit groups placed fits.entries are.each are.modules);
  below = λ group member c. All-contains (λ number. number < rows) (row_at groups.closures group) member (below group [] (in_row groups.closures group member c)) c;
  split = λ k d inside. absurd (omega arith);
  short = let few = fits.few in let long = are.each in omega arith;
}

module _ (graph : Graph) (config : SplitConfig) (state : SplitState) (held : IsHeld (length graph.rows) state) (next : State) (step : IsPicked graph config state next) where
  is_it : IsCandidate graph config state step.pick
  is_it = step.is.qualifies.is_candidate

  long_after : length (after_pick state step.pick step.after.split).modules ≡ max (length state.modules) (step.after.split + 1)
  long_after = length-map-range_with_len (chunk_after state step.pick step.after.split) 0 (max (length state.modules) (step.after.split + 1))

  pub held_after : IsHeld (length graph.rows) (state_of next)
  held_after = subst (IsHeld (length graph.rows)) (sym step.after.is_after) (record {
    closures = held.closures;
    placed = held.placed;
    keeps = pick_keeps graph config state.entries held.closures held.placed state step.pick step.after.split is_it step.after.into held.keeps;
    below = held.below;
    split = all_of (λ chunk. chunk < length (after_pick state step.pick step.after.split).modules) (state.split ++ step.after.split ∷ []) (λ chunk c. ⊎_elim
        (λ old. let low = All-contains (λ chunk. chunk < length state.modules) state.split chunk held.split old in let long = long_after in omega arith)
        (λ same. let long = long_after in omega arith)
        (Contains-push_cases state.split step.after.split chunk c));
    short = let short = step.after.short in let same = ap (λ (s : SplitState). length s.modules) step.after.is_after in omega arith;
  })

  pub goes_on : (last : SplitState) → IsPickedFrom graph config (state_of next) last → IsPickedFrom graph config state last
  goes_on last (picks, are) = (
    step.pick ∷ picks,
    picked state last step.pick picks step.after.split step.is step.after.into
        (subst (λ z. ArePicks graph config z picks last) step.after.is_after are),
  )

cond_le : (b c : Bool) → (b ≡ true → c ≡ true) → cond {A = ℕ} b 1 0 ≤ cond {A = ℕ} c 1 0
cond_le true true one = omega arith
cond_le true false one = absurd (true≢false (sym (one refl)))
cond_le false true one = omega arith
cond_le false false one = omega arith

count_le : (p q : ℕ → Bool) (xs : List ℕ) → ((x : ℕ) → p x ≡ true → q x ≡ true) → count_by p xs ≤ count_by q xs
count_le p q [] one = let a : count_by p [] ≡ 0 = refl in let b : count_by q [] ≡ 0 = refl in omega arith
count_le p q (x ∷ xs) one =
    let rest = count_le p q xs one in
    let first = cond_le (p x) (q x) (one x) in
    let a = sum_by-cons (λ z. cond {A = ℕ} (p z) 1 0) x xs in
    let b = sum_by-cons (λ z. cond {A = ℕ} (q z) 1 0) x xs in
    omega arith

count_less : (p q : ℕ → Bool) (xs : List ℕ) (y : ℕ) → ((x : ℕ) → p x ≡ true → q x ≡ true) → Contains xs y → p y ≡ false → q y ≡ true → count_by p xs < count_by q xs
count_less p q [] y one c isnt does = absurd (none_in y c)
count_less p q (x ∷ xs) y one c isnt does =
    let a = sum_by-cons (λ z. cond {A = ℕ} (p z) 1 0) x xs in
    let b = sum_by-cons (λ z. cond {A = ℕ} (q z) 1 0) x xs in
    ⊎_elim
    (λ same. let none : cond {A = ℕ} (p x) 1 0 ≡ 0 = ap (λ b. cond {A = ℕ} b 1 0) (ap p same ∙ isnt) in
    let some : cond {A = ℕ} (q x) 1 0 ≡ 1 = ap (λ b. cond {A = ℕ} b 1 0) (ap q same ∙ does) in
    let rest = count_le p q xs one in omega arith)
    (λ d. let rest = count_less p q xs y one d isnt does in let first = cond_le (p x) (q x) (one x) in omega arith)
    (one_of x xs y c)

-- with each pick fewer modules are left that stand in no split chunk
pub fewer_left : (graph : Graph) (config : SplitConfig) (state : SplitState) (next : State) → IsPicked graph config state next
    → count_by (λ member. not (is_split (state_of next) member)) (range_with_len 0 (length graph.rows)) < count_by (λ member. not (is_split state member)) (range_with_len 0 (length graph.rows))
fewer_left graph config state next step =
    let is = step.is.qualifies.is_candidate in
    let pick = step.pick in
    let split = step.after.split in
    let among = has_module graph config state pick is in
    let inside = modules_in_range graph config state pick is is.member among in
    let moved = ap (λ z. is_split z is.member) step.after.is_after ∙ now_split graph config state pick split is step.after.into is.member among in
    count_less (λ member. not (is_split (state_of next) member)) (λ member. not (is_split state member)) (range_with_len 0 (length graph.rows)) is.member
    (λ member left. so_not (is_split state member) (⊎_elim
    (λ does. absurd (true≢false (sym (ap (λ z. is_split z member) step.after.is_after ∙ still_split graph config state pick split is step.after.into member does) ∙ not_so (is_split (state_of next) member) left)))
    (λ isnt. isnt) (cases_Bool (is_split state member))))
    (in_range 0 (length graph.rows) is.member (omega arith) (omega arith))
    (ap not moved)
    (so_not (is_split state is.member) (unsplit graph config state pick split is step.after.into is.member among))

-- ---- the best one

pub best_pick : (graph : Graph) (config : SplitConfig) (state : SplitState) (choice : Choice) → IsBest graph config state (Some choice) → IsPick graph config state (candidate_of choice)
best_pick graph config state choice best = record { qualifies = best.so_far.0; greatest = λ other q. best.yields other q }

pub no_pick : (graph : Graph) (config : SplitConfig) (state : SplitState) → IsBest graph config state None → (candidate : Candidate) → ¬ Qualifies graph config state candidate
no_pick graph config state best candidate q = absurd (best.yields candidate q)

pub yields_group : (graph : Graph) (config : SplitConfig) (state : SplitState) (cache : CacheGroup) (gathered : Gathered) (best : Option Choice) → AreOfScene graph state cache gathered
    → ((k : ℕ) → k < length gathered.sets.keys → Yields graph config state best (candidate_at cache gathered k))
    → (candidate : Candidate) → candidate.cache_group ≡ cache → Yields graph config state best candidate
yields_group graph config state cache gathered best are all candidate same q =
    let found = each_candidate graph config state cache gathered are candidate q.is_candidate same in
    subst (Yields graph config state best) (sym found.2) (all found.0 found.1) q

pub yields_all : (graph : Graph) (config : SplitConfig) (state : SplitState) (best : Option Choice)
    → ((k : ℕ) (cache : CacheGroup) → k < length config.groups → slice_get config.groups k ≡ Some cache → (candidate : Candidate) → candidate.cache_group ≡ cache → Yields graph config state best candidate)
    → (candidate : Candidate) → Yields graph config state best candidate
yields_all graph config state best all candidate q =
    let among = q.is_candidate.cache_group in
    all among.0 candidate.cache_group among.1 (at-Contains config.groups candidate.cache_group among) candidate refl q

-- nothing was looked at yet
pub yields_below : (graph : Graph) (config : SplitConfig) (state : SplitState) (best now : Option Choice) (cache : CacheGroup)
    → ((candidate : Candidate) → Yields graph config state best candidate → Yields graph config state now candidate)
    → ((candidate : Candidate) → candidate.cache_group ≡ cache → Yields graph config state best candidate) → (candidate : Candidate) → candidate.cache_group ≡ cache → Yields graph config state now candidate
yields_below graph config state best now cache keeps all candidate same = keeps candidate (all candidate same)

-- ---- what groups bring

pub placed_are : (groups : Groups) (avail : List (List Bool)) (placed : List (List ℕ)) (rows : ℕ) → GroupsFit groups → HasAscendingClosures groups → HasModulesBelow groups rows
    → AreAvailable groups rows avail → length placed ≡ length groups.closures
    → ((k : ℕ) → k < length groups.closures → get_or placed k [] ≡ filter (λ member. not (get_or (get_or avail k []) member false)) (get_or groups.closures k [])) → ArePlaced groups placed
placed_are groups avail placed rows fits ascend below are long lists = record {
  each = long ∙ fits.each_closure;
  modules = λ group modules at.
      let inside : group < length groups.closures = subst (λ n. group < n) long (slice_get_within placed group modules at) in
      let within : group < length groups.targets = subst (λ n. group < n) fits.each_closure inside in
      let closure = get_or groups.closures group [] in
      let flag : ℕ → Bool = λ member. get_or (get_or avail group []) member false in
      let is : modules ≡ filter (λ member. not (flag member)) closure = sym (get_or_from_slice_get placed group modules [] at) ∙ lists group inside in
      let low : (member : ℕ) → Contains closure member → member < rows = λ member c. All-contains (λ number. number < rows) closure member (below group [] inside) c in
      let there = slice_get-get_or groups.closures group [] inside in
      record {
        ascending = subst IsStrictlyIncreasing (sym is) (IsStrictlyIncreasing-filter (λ member. not (flag member)) closure (ascend group [] inside));
        each = λ member. (
          λ c. let from = unfiltered (λ member. not (flag member)) closure member (subst (λ l. Contains l member) is c) in
              ((closure, there, from.0), λ available. true≢false (sym ((are.flags group member within (low member from.0)).1 available) ∙ not_so (flag member) from.1)),
          λ brings. let held : Contains closure member = subst (λ l. Contains l member) (sym (get_or_from_slice_get groups.closures group brings.0.0 [] brings.0.1)) brings.0.2 in
              subst (λ l. Contains l member) (sym is) (filtered (λ member. not (flag member)) closure member held
              (so_not (flag member) (⊎_elim (λ does. absurd (brings.1 ((are.flags group member within (low member held)).0 does))) (λ isnt. isnt) (cases_Bool (flag member))))),
        );
      };
}

-- ---- what all cache groups may move

pub first_gathered_more : (graph : Graph) (config : SplitConfig) (state : SplitState) (all more : List Gathered) (one : Gathered) (cache : CacheGroup) (count : ℕ) → length all ≡ count
    → AreFirstGathered graph config state all count → slice_get config.groups count ≡ Some cache → AreOfScene graph state cache one → more ≡ all ++ one ∷ []
    → AreFirstGathered graph config state more (count + 1)
first_gathered_more graph config state all more one cache count long so_far at are is place other gathered low at' here = ⊎_elim
    (λ early. so_far place other gathered early at' (at_front all (one ∷ []) place gathered (subst (λ l. slice_get l place ≡ Some gathered) is here) (omega arith)))
    (λ late. let same : place ≡ count = omega arith in
    let first : other ≡ cache = same_Some other cache (sym at' ∙ ap (slice_get config.groups) same ∙ at) in
    let last : slice_get (one ∷ []) (place - length all) ≡ Some gathered = at_append all (one ∷ []) place gathered (subst (λ l. slice_get l place ≡ Some gathered) is here) (omega arith) in
    let none : place - length all ≡ 0 = omega arith in
    let second : one ≡ gathered = same_Some one gathered (sym (ap (slice_get (one ∷ [])) none) ∙ last) in
    subst (λ z. AreOfScene graph state z gathered) (sym first) (subst (AreOfScene graph state cache) second are))
    (cases_lt place count)

-- ---- one chunk that holds just the modules

pub alone_by : (rows : List (List ℕ)) (chunks modules row : List ℕ) (b : Bool) → length chunks ≡ 1 → All (λ chunk. chunk < length rows) chunks → row ≡ get_or rows (get_or chunks 0 0) row
    → b ≡ are_same row modules → (b ≡ true → (chunk : ℕ) × (chunks ≡ chunk ∷ []) × (get_or rows chunk [] ≡ modules)) × (((chunk : ℕ) × (chunks ≡ chunk ∷ []) × (get_or rows chunk [] ≡ modules)) → b ≡ true)
alone_by rows [] modules row b one below read same = absurd (omega arith)
alone_by rows (chunk ∷ []) modules row b one below read same =
    let inside : chunk < length rows = below 0 0 (omega arith) in
    let is : row ≡ get_or rows chunk [] = read ∙ get_or_default rows chunk row [] inside in (
      λ e. (chunk, refl, sym is ∙ (bytes_decides row modules).0 (sym same ∙ e)),
      λ alone. same ∙ (bytes_decides row modules).1 (is ∙ ap (λ k. get_or rows k []) (ap (λ l. get_or l 0 0) alone.1) ∙ alone.2),
    )
alone_by rows (chunk ∷ other ∷ rest) modules row b one below read same = absurd (omega arith)

pub group_clauses : (graph : Graph) (config : Option SplitConfig) (groups : Groups) (placed : List (List ℕ)) (chunks : Chunks) → GroupsFit groups → ArePlaced groups placed
    → IsSplit graph config groups.entries placed chunks → MeetClauses groups.entries groups.closures placed chunks
group_clauses graph config groups placed chunks fits are split =
    split_meets graph config groups.entries groups.closures placed chunks (placed_fit groups placed fits.entries are.each are.modules) split

-- a candidate has no more modules than there are
pub few_modules : (graph : Graph) (config : SplitConfig) (state : SplitState) (candidate : Candidate) → IsCandidate graph config state candidate → length candidate.modules ≤ length graph.rows
few_modules graph config state candidate is =
    let test : ℕ → Bool = λ member. is_movable graph state candidate.cache_group member && are_same (chunks_with state candidate.cache_group member) candidate.chunks in
    let long = ap length is.modules ∙ length-filter test (range_with_len 0 (length graph.rows)) in
    let most = count_by-le-length test (range_with_len 0 (length graph.rows)) in
    let range = length-range_with_len 0 (length graph.rows) in
    omega (arith, long, most, range)
