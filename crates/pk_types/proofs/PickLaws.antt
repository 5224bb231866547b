-- What a pick leaves: the clauses on chunks hold after it where they held before.
use Rattle.std.proofs.Common.{◌≡◌, ◌≢◌, ◌⊎◌, ℕ, ◌+◌, ◌<◌, ◌≤◌, max, ◌||◌, Bool, true, false, not, cond, List, [], length, refl, sym, ap, subst, ◌∙◌, arith, inl, inr, ⊎_elim, nat_lt, true≢false}
use Rattle.std.specs.List.{Contains, range_with_len}
use Rattle.std.specs.Cmp.Lexicographic.{bytes_decides}
use Rattle.std.specs.List.Sorted.{IsStrictlyIncreasing}
use Rattle.std.proofs.lemmas.Bool.{cases_lt, eq-eqb, ne_eqb, ltb-true, lt-ltb}
use Rattle.std.proofs.lemmas.List.FromFn.{get_or-map-range_with_len, length-map-range_with_len}
use Rattle.std.proofs.lemmas.List.{get_or_past, length-map}
use Rattle.std.proofs.lemmas.List.Kept.{IsStrictlyIncreasing-filter}
use Rattle.pk_text.proofs.Ranges.{range_rises}
use Rattle.pk_types.specs.declared.graph.Graph.{Graph}
use Rattle.pk_types.specs.declared.settings.SplitConfig.{SplitConfig}
use Rattle.pk_types.specs.Numbers.{has, meets, without}
use Rattle.pk_types.specs.SplitStates.{SplitState, chunk_at, loads_at, is_entry, is_there}
use Rattle.pk_types.specs.SplitCandidates.{Candidate, IsCandidate, allows, chunks_with}
use Rattle.pk_types.specs.SplitPicks.{IsSplitChunk, reused, made, chunk_after, stays, loads_after, after_pick}
use Rattle.pk_types.specs.ChunkClauses.{row_at}
use Rattle.pk_types.proofs.StateClauses.{KeepClauses}
use Rattle.pk_types.proofs.ListMembers.{filtered, unfiltered, has-true, true-has, in_range, range_of, any_true, true-any, or_first, or_second, or_one, has_some, some_of, both, first_so, second_so, not_so, so_not, in_or_not, absent, in_row, of_mapped_row, in_mapped_row, same_or_not}

-- the chunks of a module that a candidate moves are the candidate's
chunks_of_moved : (graph : Graph) (config : SplitConfig) (state : SplitState) (candidate : Candidate) → IsCandidate graph config state candidate
    → (member : ℕ) → Contains candidate.modules member → chunks_with state candidate.cache_group member ≡ candidate.chunks
chunks_of_moved graph config state candidate is member moves =
    let passes = (unfiltered _ (range_with_len 0 (length graph.rows)) member (subst (λ list. Contains list member) is.modules moves)).1 in
    (bytes_decides (chunks_with state candidate.cache_group member) candidate.chunks).0 (second_so _ _ passes)

-- a chunk of a candidate holds each of its modules
pub holds_each : (graph : Graph) (config : SplitConfig) (state : SplitState) (candidate : Candidate) → IsCandidate graph config state candidate
    → (chunk member : ℕ) → Contains candidate.chunks chunk → Contains candidate.modules member → Contains (chunk_at state chunk) member
holds_each graph config state candidate is chunk member in_chunks in_modules =
    let equal = chunks_of_moved graph config state candidate is member in_modules in
    let among = (unfiltered _ (range_with_len 0 (length state.modules)) chunk (subst (λ list. Contains list chunk) (sym equal) in_chunks)).1 in
    true-has (chunk_at state chunk) member (second_so _ _ among)

-- a chunk of a candidate is one of the chunks, and holds the module that the candidate is made for
pub holds_one : (graph : Graph) (config : SplitConfig) (state : SplitState) (candidate : Candidate) (is : IsCandidate graph config state candidate)
    → (chunk : ℕ) → Contains candidate.chunks chunk → (chunk < length state.modules) × Contains (chunk_at state chunk) is.member
holds_one graph config state candidate is chunk c =
    let from = unfiltered _ (range_with_len 0 (length state.modules)) chunk (subst (λ list. Contains list chunk) is.chunks c) in
    let below = (range_of 0 (length state.modules) chunk from.0).1 in
    (omega (arith, below), true-has (chunk_at state chunk) is.member (second_so _ _ from.1))

-- the number of chunks after a pick
abbrev pub count_after : SplitState → ℕ → ℕ
count_after state split = max (length state.modules) (split + 1)

length_after : (state : SplitState) (candidate : Candidate) (split : ℕ) → length (after_pick state candidate split).modules ≡ count_after state split
length_after state candidate split = length-map-range_with_len (chunk_after state candidate split) 0 (count_after state split)

pub chunk_at_after : (state : SplitState) (candidate : Candidate) (split chunk : ℕ) → chunk < count_after state split
    → chunk_at (after_pick state candidate split) chunk ≡ chunk_after state candidate split chunk
chunk_at_after state candidate split chunk inside = get_or-map-range_with_len (chunk_after state candidate split) 0 (count_after state split) chunk chunk [] inside (omega arith)

-- the split chunk holds the modules
pub split_holds : (state : SplitState) (candidate : Candidate) (split : ℕ) → chunk_after state candidate split split ≡ candidate.modules
split_holds state candidate split = ap (λ b. cond b candidate.modules (cond (has candidate.chunks split) (without candidate.modules (chunk_at state split)) (chunk_at state split))) (eq-eqb split split refl)

pub other_chunk : (state : SplitState) (candidate : Candidate) (split chunk : ℕ) → chunk ≢ split
    → chunk_after state candidate split chunk ≡ cond (has candidate.chunks chunk) (without candidate.modules (chunk_at state chunk)) (chunk_at state chunk)
other_chunk state candidate split chunk apart = ap (λ b. cond b candidate.modules (cond (has candidate.chunks chunk) (without candidate.modules (chunk_at state chunk)) (chunk_at state chunk))) (ne_eqb chunk split apart)

-- another chunk holds after the pick what it held, but for what moved
held_before : (state : SplitState) (candidate : Candidate) (split chunk member : ℕ) → chunk ≢ split
    → Contains (chunk_after state candidate split chunk) member → Contains (chunk_at state chunk) member
held_before state candidate split chunk member apart c =
    by (has candidate.chunks chunk) (subst (λ list. Contains list member) (other_chunk state candidate split chunk apart) c)
  where
    by : (b : Bool) → Contains (cond b (without candidate.modules (chunk_at state chunk)) (chunk_at state chunk)) member → Contains (chunk_at state chunk) member
    by true d = (unfiltered _ (chunk_at state chunk) member d).0
    by false d = d

held_after : (state : SplitState) (candidate : Candidate) (split chunk member : ℕ) → chunk ≢ split → Contains (chunk_at state chunk) member
    → (Contains candidate.chunks chunk → ¬ Contains candidate.modules member) → Contains (chunk_after state candidate split chunk) member
held_after state candidate split chunk member apart c still =
    subst (λ list. Contains list member) (sym (other_chunk state candidate split chunk apart)) (by (has candidate.chunks chunk) refl)
  where
    by : (b : Bool) → has candidate.chunks chunk ≡ b → Contains (cond b (without candidate.modules (chunk_at state chunk)) (chunk_at state chunk)) member
    by true e = filtered (λ number. not (has candidate.modules number)) (chunk_at state chunk) member c
        (so_not _ (absent candidate.modules member (still (true-has candidate.chunks chunk e))))
    by false e = c

-- what a chunk of the candidate still holds was not moved
none_moved : (state : SplitState) (candidate : Candidate) (split chunk member : ℕ) → chunk ≢ split → Contains (chunk_after state candidate split chunk) member
    → Contains candidate.chunks chunk → ¬ Contains candidate.modules member
none_moved state candidate split chunk member apart c among moves =
    let left = subst (λ list. Contains list member) (other_chunk state candidate split chunk apart
    ∙ ap (λ b. cond b (without candidate.modules (chunk_at state chunk)) (chunk_at state chunk)) (has-true candidate.chunks chunk among)) c in
    true≢false (sym (has-true candidate.modules member moves) ∙ not_so _ (unfiltered (λ number. not (has candidate.modules number)) (chunk_at state chunk) member left).1)

-- the modules of a candidate stand by number
modules_ascend : (graph : Graph) (config : SplitConfig) (state : SplitState) (candidate : Candidate) → IsCandidate graph config state candidate
    → IsStrictlyIncreasing candidate.modules
modules_ascend graph config state candidate is = subst IsStrictlyIncreasing (sym is.modules) (IsStrictlyIncreasing-filter _ (range_with_len 0 (length graph.rows)) (range_rises (length graph.rows)))

pub none_ascends : IsStrictlyIncreasing []
none_ascends k inside = absurd (omega arith)

-- of two entry chunks with a module that the candidate moves, both are the candidate's if one is
one_entry : (graph : Graph) (config : SplitConfig) (state : SplitState) (candidate : Candidate) → IsCandidate graph config state candidate
    → (entry other member : ℕ) → entry < length state.modules → entry < state.entries → other < state.entries → Contains (chunk_at state entry) member
    → Contains candidate.chunks other → Contains candidate.modules member → Contains candidate.chunks entry
one_entry graph config state candidate is entry other member inside below other_below held among moves =
    let equal = chunks_of_moved graph config state candidate is member moves in
    let passes = (unfiltered _ (range_with_len 0 (length state.modules)) other (subst (λ list. Contains list other) (sym equal) among)).1 in
    let allowed : allows candidate.cache_group.chunks true ≡ true =
    ap (allows candidate.cache_group.chunks) (sym (lt-ltb other state.entries other_below)) ∙ first_so _ _ passes in
    subst (λ list. Contains list entry) equal
    (filtered _ (range_with_len 0 (length state.modules)) entry (in_range 0 (length state.modules) entry (omega arith) (omega (arith, inside)))
    (both _ _ (ap (allows candidate.cache_group.chunks) (lt-ltb entry state.entries below) ∙ allowed) (has-true (chunk_at state entry) member held)))

-- which chunks a group loads after the pick
loads_split : (state : SplitState) (candidate : Candidate) (split group : ℕ) → Contains (loads_at (after_pick state candidate split) group) split
    → (chunk : ℕ) × Contains (loads_at state group) chunk × Contains candidate.chunks chunk
loads_split state candidate split group c =
    let row = of_mapped_row (loads_after state candidate split) state.loads group split c in
    let test = first_so _ _ (unfiltered _ (range_with_len 0 (count_after state split)) split row).1 in
    let shares : meets (loads_at state group) candidate.chunks ≡ true =
    sym (ap (λ b. cond b (meets (loads_at state group) candidate.chunks) (has (loads_at state group) split)) (eq-eqb split split refl)) ∙ test in
    let found = true-any (has candidate.chunks) (loads_at state group) shares in
    (found.0, found.1, true-has candidate.chunks found.0 found.2)

loads_other : (state : SplitState) (candidate : Candidate) (split group chunk : ℕ) → chunk ≢ split
    → Contains (loads_at (after_pick state candidate split) group) chunk → Contains (loads_at state group) chunk
loads_other state candidate split group chunk apart c =
    let row = of_mapped_row (loads_after state candidate split) state.loads group chunk c in
    let test = first_so _ _ (unfiltered _ (range_with_len 0 (count_after state split)) chunk row).1 in
    true-has (loads_at state group) chunk
    (sym (ap (λ b. cond b (meets (loads_at state group) candidate.chunks) (has (loads_at state group) chunk)) (ne_eqb chunk split apart)) ∙ test)

loaded_stays : (state : SplitState) (candidate : Candidate) (split group chunk : ℕ) → Contains (loads_at (after_pick state candidate split) group) chunk
    → (chunk < count_after state split) × (stays state candidate split chunk ≡ true)
loaded_stays state candidate split group chunk c =
    let row = of_mapped_row (loads_after state candidate split) state.loads group chunk c in
    let from = unfiltered _ (range_with_len 0 (count_after state split)) chunk row in
    let below = (range_of 0 (count_after state split) chunk from.0).1 in
    (omega (arith, below), second_so _ _ from.1)

split_loaded : (state : SplitState) (candidate : Candidate) (split group chunk : ℕ) → Contains (loads_at state group) chunk → Contains candidate.chunks chunk
    → stays state candidate split split ≡ true → Contains (loads_at (after_pick state candidate split) group) split
split_loaded state candidate split group chunk loaded among left =
    let shares = any_true (has candidate.chunks) (loads_at state group) chunk loaded (has-true candidate.chunks chunk among) in
    let test = ap (λ b. cond b (meets (loads_at state group) candidate.chunks) (has (loads_at state group) split)) (eq-eqb split split refl) ∙ shares in
    in_mapped_row (loads_after state candidate split) state.loads group split (in_row state.loads group chunk loaded)
    (filtered _ (range_with_len 0 (count_after state split)) split (in_range 0 (count_after state split) split (omega arith) (omega arith)) (both _ _ test left))

other_loaded : (state : SplitState) (candidate : Candidate) (split group chunk : ℕ) → chunk ≢ split → chunk < length state.modules
    → Contains (loads_at state group) chunk → stays state candidate split chunk ≡ true → Contains (loads_at (after_pick state candidate split) group) chunk
other_loaded state candidate split group chunk apart inside loaded left =
    let test = ap (λ b. cond b (meets (loads_at state group) candidate.chunks) (has (loads_at state group) chunk)) (ne_eqb chunk split apart) ∙ has-true (loads_at state group) chunk loaded in
    in_mapped_row (loads_after state candidate split) state.loads group chunk (in_row state.loads group chunk loaded)
    (filtered _ (range_with_len 0 (count_after state split)) chunk (in_range 0 (count_after state split) chunk (omega arith) (omega arith)) (both _ _ test left))

-- the split chunk is one of the candidate's chunks that holds just its modules, or a new one; it is no entry chunk
split_place : (state : SplitState) (candidate : Candidate) (split : ℕ) → IsSplitChunk state candidate split → state.entries ≤ length state.modules
    → (state.entries ≤ split) × ((Contains candidate.chunks split × (chunk_at state split ≡ candidate.modules)) ⊎ (split ≡ length state.modules))
split_place state candidate split (reused _ reuses just least) few = (just.1, inl (just.0, just.2))
split_place state candidate split (made none) few = (few, inr refl)

-- a chunk with a module is there, after the pick too
stays_filled : (state : SplitState) (candidate : Candidate) (split chunk member : ℕ) → Contains (chunk_after state candidate split chunk) member → stays state candidate split chunk ≡ true
stays_filled state candidate split chunk member c = or_second (is_entry state chunk) _ (has_some (chunk_after state candidate split chunk) member c)

there_filled : (state : SplitState) (chunk member : ℕ) → Contains (chunk_at state chunk) member → is_there state chunk ≡ true
there_filled state chunk member c = or_second (is_entry state chunk) _ (has_some (chunk_at state chunk) member c)

-- whether a chunk is there after the pick
there_after : (state : SplitState) (candidate : Candidate) (split chunk : ℕ) → chunk < count_after state split
    → is_there (after_pick state candidate split) chunk ≡ stays state candidate split chunk
there_after state candidate split chunk inside = ap (λ list. is_entry state chunk || nat_lt 0 (length list)) (chunk_at_after state candidate split chunk inside)

-- a chunk that stays was there, unless it is the split chunk
was_there : (state : SplitState) (candidate : Candidate) (split chunk : ℕ) → chunk ≢ split → stays state candidate split chunk ≡ true → is_there state chunk ≡ true
was_there state candidate split chunk apart left = ⊎_elim (λ entry. or_first (is_entry state chunk) _ entry)
    (λ filled. let found = some_of (chunk_after state candidate split chunk) (ltb-true 0 _ filled) in
    there_filled state chunk found.0 (held_before state candidate split chunk found.0 apart found.1))
    (or_one (is_entry state chunk) _ left)

module _ (graph : Graph) (config : SplitConfig) (count : ℕ) (closures placed : List (List ℕ)) (state : SplitState) (candidate : Candidate) (split : ℕ)
    (is : IsCandidate graph config state candidate) (into : IsSplitChunk state candidate split) (kept : KeepClauses count closures placed state) where
  place : (state.entries ≤ split) × ((Contains candidate.chunks split × (chunk_at state split ≡ candidate.modules)) ⊎ (split ≡ length state.modules))
  place = split_place state candidate split into kept.few_entries

  -- the split chunk with a moved module is loaded by each group that loaded a chunk of the candidate
  moved : (group chunk member : ℕ) → Contains (loads_at state group) chunk → Contains candidate.chunks chunk → Contains candidate.modules member
      → (other : ℕ) × Contains (loads_at (after_pick state candidate split) group) other × Contains (chunk_at (after_pick state candidate split) other) member
  moved group chunk member loaded among inside =
      let here_now : Contains (chunk_after state candidate split split) member = subst (λ list. Contains list member) (sym (split_holds state candidate split)) inside in (
        split,
        split_loaded state candidate split group chunk loaded among (stays_filled state candidate split split member here_now),
        subst (λ list. Contains list member) (sym (chunk_at_after state candidate split split (omega arith))) here_now,
      )

  unmoved : (group chunk member : ℕ) → chunk ≢ split → Contains (loads_at state group) chunk → Contains (chunk_at state chunk) member
      → (Contains candidate.chunks chunk → ¬ Contains candidate.modules member)
      → (other : ℕ) × Contains (loads_at (after_pick state candidate split) group) other × Contains (chunk_at (after_pick state candidate split) other) member
  unmoved group chunk member apart loaded inside still =
      let below = kept.in_range group chunk loaded in
      let here_now = held_after state candidate split chunk member apart inside still in (
        chunk,
        other_loaded state candidate split group chunk apart below loaded (stays_filled state candidate split chunk member here_now),
        subst (λ list. Contains list member) (sym (chunk_at_after state candidate split chunk (omega (arith, below)))) here_now,
      )

  held_still : (group chunk member : ℕ) → Contains (loads_at state group) chunk → Contains (chunk_at state chunk) member
      → (other : ℕ) × Contains (loads_at (after_pick state candidate split) group) other × Contains (chunk_at (after_pick state candidate split) other) member
  held_still group chunk member loaded inside = ⊎_elim
      (λ same. ⊎_elim
      (λ old. moved group chunk member loaded (subst (Contains candidate.chunks) (sym same) old.0)
      (subst (λ list. Contains list member) old.1 (subst (λ z. Contains (chunk_at state z) member) same inside)))
      (λ new. absurd (over chunk (length state.modules) (kept.in_range group chunk loaded) (same ∙ new)))
      place.1)
      (λ apart. ⊎_elim
      (λ among. ⊎_elim (λ moves. moved group chunk member loaded among moves) (λ still. unmoved group chunk member apart loaded inside (λ yes. still)) (in_or_not candidate.modules member))
      (λ none. unmoved group chunk member apart loaded inside (λ yes. absurd (none yes)))
      (in_or_not candidate.chunks chunk))
      (same_or_not chunk split)
    where
      over : (low high : ℕ) → low < high → low ≡ high → ⊥
      over low high less e = omega arith

  closed_still : (group chunk member : ℕ) → Contains (loads_at (after_pick state candidate split) group) chunk
      → Contains (chunk_at (after_pick state candidate split) chunk) member → Contains (row_at closures group) member
  closed_still group chunk member loaded inside =
      let held : Contains (chunk_after state candidate split chunk) member =
      subst (λ list. Contains list member) (chunk_at_after state candidate split chunk (loaded_stays state candidate split group chunk loaded).0) inside in
      ⊎_elim
      (λ same. let source = loads_split state candidate split group (subst (Contains (loads_at (after_pick state candidate split) group)) same loaded) in
      kept.closed group source.0 member source.1 (holds_each graph config state candidate is source.0 member source.2
      (subst (λ list. Contains list member) (split_holds state candidate split) (subst (λ z. Contains (chunk_after state candidate split z) member) same held))))
      (λ apart. kept.closed group chunk member (loads_other state candidate split group chunk apart loaded) (held_before state candidate split chunk member apart held))
      (same_or_not chunk split)

  -- a candidate's modules stand by number, and taking some away leaves the others so
  ascending_at : (chunk : ℕ) → IsStrictlyIncreasing (chunk_after state candidate split chunk)
  ascending_at chunk = ⊎_elim
      (λ same. subst IsStrictlyIncreasing (sym (ap (chunk_after state candidate split) same ∙ split_holds state candidate split)) (modules_ascend graph config state candidate is))
      (λ apart. subst IsStrictlyIncreasing (sym (other_chunk state candidate split chunk apart)) (by (has candidate.chunks chunk)))
      (same_or_not chunk split)
    where
      by : (b : Bool) → IsStrictlyIncreasing (cond b (without candidate.modules (chunk_at state chunk)) (chunk_at state chunk))
      by true = IsStrictlyIncreasing-filter (λ number. not (has candidate.modules number)) (chunk_at state chunk) (kept.ascending chunk)
      by false = kept.ascending chunk

  ascending_still : (chunk : ℕ) → IsStrictlyIncreasing (chunk_at (after_pick state candidate split) chunk)
  ascending_still chunk = ⊎_elim
      (λ inside. subst IsStrictlyIncreasing (sym (chunk_at_after state candidate split chunk inside)) (ascending_at chunk))
      (λ beyond. subst IsStrictlyIncreasing (sym (get_or_past (after_pick state candidate split).modules chunk [] (let long = length_after state candidate split in omega arith))) none_ascends)
      (cases_lt chunk (count_after state split))

  -- an entry chunk is not the one that modules move into
  entry_apart : (entry : ℕ) → entry < state.entries → entry ≢ split
  entry_apart entry below same = let above = place.0 in omega arith

  entry_at : (entry : ℕ) → entry < state.entries → chunk_at (after_pick state candidate split) entry ≡ chunk_after state candidate split entry
  entry_at entry below = chunk_at_after state candidate split entry (let few = kept.few_entries in omega arith)

  -- where one entry chunk keeps a module, none loses it
  together_still : (entry other member : ℕ) → entry < state.entries → other < state.entries
      → Contains (chunk_at (after_pick state candidate split) entry) member → Contains (row_at closures other) member
      → Contains (chunk_at (after_pick state candidate split) other) member
  together_still entry other member below other_below inside closure =
      let left : Contains (chunk_after state candidate split entry) member = subst (λ list. Contains list member) (entry_at entry below) inside in
      let was = held_before state candidate split entry member (entry_apart entry below) left in
      let there_too = kept.together entry other member below other_below was closure in
      subst (λ list. Contains list member) (sym (entry_at other other_below))
      (held_after state candidate split other member (entry_apart other other_below) there_too
      (λ among moves. none_moved state candidate split entry member (entry_apart entry below) left
      (let few = kept.few_entries in one_entry graph config state candidate is entry other member (omega arith) below other_below was among moves) moves))

  listed_still : (chunk : ℕ) → chunk < length (after_pick state candidate split).modules → is_there (after_pick state candidate split) chunk ≡ true
      → (group : ℕ) × Contains (loads_at (after_pick state candidate split) group) chunk
  listed_still chunk inside is_left =
      let long = length_after state candidate split in
      let below : chunk < count_after state split = omega (arith, long) in
      let left : stays state candidate split chunk ≡ true = sym (there_after state candidate split chunk below) ∙ is_left in
      ⊎_elim
      (λ same. let first = some_of candidate.chunks is.some_chunk in
      let holds = holds_one graph config state candidate is first.0 first.1 in
      let source = kept.listed first.0 holds.0 (there_filled state first.0 is.member holds.1) in (
        source.0,
        subst (Contains (loads_at (after_pick state candidate split) source.0)) (sym same)
            (split_loaded state candidate split source.0 first.0 source.1 first.1 (subst (λ z. stays state candidate split z ≡ true) same left)),
      ))
      (λ apart. let old : chunk < length state.modules = ⊎_elim
      (λ among. let from = (holds_one graph config state candidate is split among.0).0 in omega arith) (λ new. omega arith) place.1 in
      let source = kept.listed chunk old (was_there state candidate split chunk apart left) in
      (source.0, other_loaded state candidate split source.0 chunk apart old source.1 left))
      (same_or_not chunk split)

  pub pick_keeps : KeepClauses count closures placed (after_pick state candidate split)
  pick_keeps = record {
    entries = kept.entries;
    ascending = ascending_still;
    together = together_still;
    groups = length-map state.loads (loads_after state candidate split) ∙ kept.groups;
    few_entries = let long = length_after state candidate split in let few = kept.few_entries in omega arith;
    in_range = λ group chunk c. let below = (loaded_stays state candidate split group chunk c).0 in let long = length_after state candidate split in omega (arith, below);
    entry = λ group inside. let own = kept.entry group inside in
        other_loaded state candidate split group group (λ same. let above = place.0 in omega arith) (kept.in_range group group own) own
        (or_first (is_entry state group) _ (lt-ltb group state.entries inside));
    own = λ group chunk c entry. kept.own group chunk
        (loads_other state candidate split group chunk (λ same. let above = place.0 in omega arith) c) entry;
    held = λ group member c. let source = kept.held group member c in held_still group source.0 member source.1 source.2;
    closed = closed_still;
    listed = listed_still;
    there = λ group chunk c. let from = loaded_stays state candidate split group chunk c in there_after state candidate split chunk from.0 ∙ from.1;
  }
