-- The chunks that splitting leaves meet the clauses on chunks.
use Rattle.std.proofs.Common.{◌≡◌, ℕ, ◌+◌, ◌-◌, ◌<◌, ◌≤◌, Bool, true, false, cond, List, [], ◌∷◌, length, refl, sym, ap, subst, ◌∙◌, arith, inl, inr, ⊎_elim, nat_le, filter, count_by, Option, Some, None}
use Rattle.std.specs.List.{Contains, range_with_len}
use Rattle.std.proofs.lemmas.Bool.{ltb-true, lt-ltb, cases_lt, le-leb, leb-true}
use Rattle.std.specs.List.Sorted.{IsStrictlyIncreasing}
use Rattle.std.proofs.lemmas.List.{get_or_past, length-map, get_or-map}
use Rattle.std.proofs.lemmas.List.Sums.{length-filter}
use Rattle.std.proofs.lemmas.List.FromFn.{get_or-map-range_with_len, length-map-range_with_len}
use Rattle.pk_types.specs.declared.graph.Graph.{Graph}
use Rattle.pk_types.specs.declared.plan.Chunks.{Chunks}
use Rattle.pk_types.specs.declared.settings.SplitConfig.{SplitConfig}
use Rattle.pk_types.specs.SplitStates.{SplitState, chunk_at, loads_at, is_entry, is_there, first_state, own_chunks}
use Rattle.pk_types.specs.SplitCandidates.{Candidate}
use Rattle.pk_types.specs.Splitting.{ArePicks, ended, picked, PicksEndIn, chunks_of, chunk_number, list_of, chunks_there, IsSplit}
use Rattle.pk_types.specs.ChunkClauses.{MeetClauses, FitTogether, IsOfGroup, row_at}
use Rattle.pk_types.proofs.StateClauses.{KeepClauses}
use Rattle.pk_types.proofs.ListMembers.{here, one_of, none_in, filtered, unfiltered, mapped, unmapped, or_first, or_second, or_one, has_some, in_row, of_mapped_row, in_mapped_row}
use Rattle.pk_types.proofs.Counts.{counted, place_of_passing, passing_at, count_split, count_all}
use Rattle.pk_types.proofs.PickLaws.{none_ascends, pick_keeps}

own_one : (entries : ℕ) (placed : List (List ℕ)) (group chunk : ℕ) → Contains (own_chunks entries placed group) chunk
    → (chunk ≡ group) × (is_there (first_state entries placed) group ≡ true)
own_one entries placed group chunk c = by (is_there (first_state entries placed) group) refl c
  where
    by : (b : Bool) → is_there (first_state entries placed) group ≡ b → Contains (cond b (group ∷ []) []) chunk
        → (chunk ≡ group) × (is_there (first_state entries placed) group ≡ true)
    by true e d = (⊎_elim (λ same. sym same) (λ none. absurd (none_in chunk none)) (one_of group [] chunk d), e)
    by false e d = absurd (none_in chunk d)

own_there : (entries : ℕ) (placed : List (List ℕ)) (group : ℕ) → is_there (first_state entries placed) group ≡ true
    → Contains (own_chunks entries placed group) group
own_there entries placed group there = subst (λ b. Contains (cond b (group ∷ []) []) group) (sym there) (here group [])

module _ (entries : ℕ) (closures placed : List (List ℕ)) (fits : FitTogether entries closures placed) where
  first : SplitState
  first = first_state entries placed

  first_loads : (group : ℕ) → group < length placed → loads_at (first_state entries placed) group ≡ own_chunks entries placed group
  first_loads group inside = get_or-map-range_with_len (own_chunks entries placed) 0 (length placed) group group [] inside (omega arith)

  first_loaded : (group chunk : ℕ) → Contains (loads_at (first_state entries placed) group) chunk
      → (group < length placed) × (chunk ≡ group) × (is_there (first_state entries placed) group ≡ true)
  first_loaded group chunk c =
      let long = length-map-range_with_len (own_chunks entries placed) 0 (length placed) in
      let inside = in_row (first_state entries placed).loads group chunk c in
      let below : group < length placed = omega (arith, long, inside) in
      let own = own_one entries placed group chunk (subst (λ list. Contains list chunk) (first_loads group below) c) in
      (below, own.0, own.1)

  loads_itself : (group : ℕ) → group < length placed → is_there (first_state entries placed) group ≡ true → Contains (loads_at (first_state entries placed) group) group
  loads_itself group inside there = subst (λ list. Contains list group) (sym (first_loads group inside)) (own_there entries placed group there)

  pub first_keeps : KeepClauses entries closures placed (first_state entries placed)
  first_keeps = record {
    entries = refl;
    ascending = fits.sorted;
    together = λ entry other member below other_below inside closure. fits.whole other member other_below closure;
    groups = length-map-range_with_len (own_chunks entries placed) 0 (length placed);
    few_entries = fits.few_entries;
    in_range = λ group chunk c. let from = first_loaded group chunk c in let below = from.0 in let same = from.1 in omega arith;
    entry = λ group inside. let few = fits.few_entries in loads_itself group (omega arith) (or_first (is_entry (first_state entries placed) group) _ (lt-ltb group entries inside));
    own = λ group chunk c entry. (first_loaded group chunk c).1;
    held = λ group member c. (
      group,
      loads_itself group (in_row placed group member c)
          (or_second (is_entry (first_state entries placed) group) _ (has_some (row_at placed group) member c)),
      c,
    );
    closed = λ group chunk member c inside. let from = first_loaded group chunk c in
        fits.within group member (subst (λ z. Contains (row_at placed z) member) from.1 inside);
    listed = λ chunk inside there. (chunk, loads_itself chunk inside there);
    there = λ group chunk c. let from = first_loaded group chunk c in subst (λ z. is_there (first_state entries placed) z ≡ true) (sym from.1) from.2;
  }

-- what holds before the picks holds after them
picks_keep : (graph : Graph) (config : SplitConfig) (count : ℕ) (closures placed : List (List ℕ)) (start last : SplitState) (picks : List Candidate)
    → ArePicks graph config start picks last → KeepClauses count closures placed start → KeepClauses count closures placed last
picks_keep graph config count closures placed start last picks (ended _ none) keeps = keeps
picks_keep graph config count closures placed start last picks (picked _ _ pick rest split is_pick into after) keeps =
    picks_keep graph config count closures placed _ last rest after (pick_keeps graph config count closures placed start pick split is_pick.qualifies.is_candidate into keeps)

last_keeps : (graph : Graph) (config : Option SplitConfig) (count : ℕ) (closures placed : List (List ℕ)) (start last : SplitState) → PicksEndIn graph config start last
    → KeepClauses count closures placed start → KeepClauses count closures placed last
last_keeps graph None count closures placed start last same keeps = subst (KeepClauses count closures placed) same keeps
last_keeps graph (Some config) count closures placed start last (picks, are) keeps = picks_keep graph config count closures placed start last picks are keeps

module _ (count : ℕ) (closures placed : List (List ℕ)) (state : SplitState) (keeps : KeepClauses count closures placed state) where
  -- the place of a chunk that is there
  place_inside : (chunk : ℕ) → chunk < length state.modules → is_there state chunk ≡ true
      → count_by (is_there state) (range_with_len 0 chunk) < length (chunks_there state (range_with_len 0 (length state.modules)))
  place_inside chunk inside there =
      let start : chunk ≡ 0 + chunk = omega arith in
      let fewer = counted (is_there state) 0 chunk (length state.modules) inside (ap (is_there state) (sym start) ∙ there) in
      let long = length-filter (is_there state) (range_with_len 0 (length state.modules)) in
      omega arith

  -- the modules of a chunk stand at its place
  row_of_chunk : (chunk : ℕ) → chunk < length state.modules → is_there state chunk ≡ true
      → row_at (chunks_of state).modules (count_by (is_there state) (range_with_len 0 chunk)) ≡ chunk_at state chunk
  row_of_chunk chunk inside there =
      let start : chunk ≡ 0 + chunk = omega arith in
      get_or-map (chunk_at state) (chunks_there state (range_with_len 0 (length state.modules))) (count_by (is_there state) (range_with_len 0 chunk)) 0 [] (place_inside chunk inside there)
      ∙ ap (chunk_at state) (place_of_passing (is_there state) 0 (length state.modules) chunk 0 inside (ap (is_there state) (sym start) ∙ there) ∙ sym start)

  -- so the entry chunks keep their numbers
  place_of_entry : (chunk : ℕ) → chunk < state.entries → count_by (is_there state) (range_with_len 0 chunk) ≡ chunk
  place_of_entry chunk below = count_all (is_there state) 0 chunk (λ number low high. or_first (is_entry state number) _ (lt-ltb number state.entries (omega arith)))

  -- behind the entry chunks they are numbered
  number_of_chunk : (chunk : ℕ) → state.entries ≤ chunk → count_by (is_there state) (range_with_len 0 chunk) ≡ state.entries + chunk_number state chunk
  number_of_chunk chunk above =
      let split = count_split (is_there state) 0 state.entries (chunk - state.entries) in
      let all = count_all (is_there state) 0 state.entries (λ number low high. or_first (is_entry state number) _ (lt-ltb number state.entries (omega arith))) in
      let whole : state.entries + (chunk - state.entries) ≡ chunk = omega arith in
      let start : 0 + state.entries ≡ state.entries = omega arith in
      let one = ap (λ k. count_by (is_there state) (range_with_len 0 k)) whole in
      let two = ap (λ k. count_by (is_there state) (range_with_len k (chunk - state.entries))) start in
      omega arith

  -- a chunk that a group loads is a chunk of the group
  of_group : (group chunk : ℕ) → Contains (loads_at state group) chunk → (chunk < state.entries → chunk ≡ group)
      → IsOfGroup (chunks_of state) group (count_by (is_there state) (range_with_len 0 chunk))
  of_group group chunk loaded own = ⊎_elim
      (λ below. inl (subst (λ z. z < state.entries) (own below) below, place_of_entry chunk below ∙ own below))
      (λ above. inr (
        chunk_number state chunk,
        in_mapped_row (list_of state) state.loads group (chunk_number state chunk) (in_row state.loads group chunk loaded)
            (mapped (chunk_number state) (filter (nat_le state.entries) (loads_at state group)) chunk (filtered (nat_le state.entries) (loads_at state group) chunk loaded (le-leb state.entries chunk above))),
        number_of_chunk chunk above,
      ))
      (cases_lt chunk state.entries)

  -- a chunk of a group is one that the group loads
  from_group : (group place : ℕ) → IsOfGroup (chunks_of state) group place
      → (chunk : ℕ) × Contains (loads_at state group) chunk × (place ≡ count_by (is_there state) (range_with_len 0 chunk))
  from_group group place (inl own) = (group, keeps.entry group own.0, own.1 ∙ sym (place_of_entry group own.0))
  from_group group place (inr (number, listed, at)) =
      let row = of_mapped_row (list_of state) state.loads group number listed in
      let found = unmapped (chunk_number state) (filter (nat_le state.entries) (loads_at state group)) number row in
      let from = unfiltered (nat_le state.entries) (loads_at state group) found.0 found.1 in
      let above : state.entries ≤ found.0 = leb-true state.entries found.0 from.1 in
      (found.0, from.0, at ∙ (ap (λ k. state.entries + k) (sym found.2) ∙ sym (number_of_chunk found.0 above)))

  -- what stands at a place behind the entry chunks
  chunk_of_place : (place : ℕ) → state.entries ≤ place → place < length (chunks_of state).modules
      → (chunk : ℕ) × (chunk < length state.modules) × (is_there state chunk ≡ true) × (state.entries ≤ chunk) × (count_by (is_there state) (range_with_len 0 chunk) ≡ place)
  chunk_of_place place above inside =
      let long = length-map (chunks_there state (range_with_len 0 (length state.modules))) (chunk_at state) in
      let found = passing_at (is_there state) 0 (length state.modules) place (omega arith) in
      let start : 0 + found.0 ≡ found.0 = omega arith in
      let counts = found.3 in
      let high : state.entries ≤ found.0 = ⊎_elim (λ below. let same = place_of_entry found.0 below in omega arith) (λ yes. yes) (cases_lt found.0 state.entries) in
      (found.0, found.1, ap (is_there state) (sym start) ∙ found.2, high, counts)

  of_group_loaded : (group chunk : ℕ) → Contains (loads_at state group) chunk → IsOfGroup (chunks_of state) group (count_by (is_there state) (range_with_len 0 chunk))
  of_group_loaded group chunk loaded = of_group group chunk loaded (keeps.own group chunk loaded)

  no_entry : (chunk : ℕ) → state.entries ≤ chunk → is_there state chunk ≡ true → 0 < length (chunk_at state chunk)
  no_entry chunk above there = ⊎_elim (λ entry. let below = ltb-true chunk state.entries entry in absurd (over chunk state.entries above below))
      (λ filled. ltb-true 0 (length (chunk_at state chunk)) filled) (or_one (is_entry state chunk) _ there)
    where
      over : (high low : ℕ) → low ≤ high → high < low → ⊥
      over high low above below = omega arith

  -- so many chunks are left
  long_after : length (chunks_of state).modules ≡ count_by (is_there state) (range_with_len 0 (length state.modules))
  long_after = length-map (chunks_there state (range_with_len 0 (length state.modules))) (chunk_at state)
      ∙ length-filter (is_there state) (range_with_len 0 (length state.modules))

  still_few : state.entries ≤ length (chunks_of state).modules
  still_few =
      let few = keeps.few_entries in
      let long = long_after in
      let split = count_split (is_there state) 0 state.entries (length state.modules - state.entries) in
      let all = count_all (is_there state) 0 state.entries (λ number low high. or_first (is_entry state number) _ (lt-ltb number state.entries (omega arith))) in
      let whole : state.entries + (length state.modules - state.entries) ≡ length state.modules = omega arith in
      let one = ap (λ k. count_by (is_there state) (range_with_len 0 k)) whole in
      omega arith

  numbers_inside : (group number : ℕ) → Contains (row_at (chunks_of state).lists group) number → state.entries + number < length (chunks_of state).modules
  numbers_inside group number listed =
      let source = from_group group (state.entries + number) (inr (number, listed, refl)) in
      let chunk = source.0 in
      let at = source.2 in
      let inside = place_inside chunk (keeps.in_range group chunk source.1) (keeps.there group chunk source.1) in
      let long = length-map (chunks_there state (range_with_len 0 (length state.modules))) (chunk_at state) in
      omega arith

  -- a chunk that is left stands at some place
  row_of_place : (place : ℕ) → place < length (chunks_of state).modules → (chunk : ℕ) × (row_at (chunks_of state).modules place ≡ chunk_at state chunk)
  row_of_place place inside =
      let long = length-map (chunks_there state (range_with_len 0 (length state.modules))) (chunk_at state) in
      let found = passing_at (is_there state) 0 (length state.modules) place (omega arith) in
      let start : 0 + found.0 ≡ found.0 = omega arith in
      (found.0, ap (row_at (chunks_of state).modules) (sym found.3) ∙ row_of_chunk found.0 found.1 (ap (is_there state) (sym start) ∙ found.2))

  still_ascending : (place : ℕ) → IsStrictlyIncreasing (row_at (chunks_of state).modules place)
  still_ascending place = ⊎_elim
      (λ inside. let found = row_of_place place inside in subst IsStrictlyIncreasing (sym found.1) (keeps.ascending found.0))
      (λ beyond. subst IsStrictlyIncreasing (sym (get_or_past (chunks_of state).modules place [] beyond)) none_ascends)
      (cases_lt place (length (chunks_of state).modules))

  -- the modules of an entry chunk stand at its number
  row_of_entry : (entry : ℕ) → entry < state.entries → row_at (chunks_of state).modules entry ≡ chunk_at state entry
  row_of_entry entry below =
      let few = keeps.few_entries in
      ap (row_at (chunks_of state).modules) (sym (place_of_entry entry below))
      ∙ row_of_chunk entry (omega arith) (or_first (is_entry state entry) _ (lt-ltb entry state.entries below))

  still_together : (entry other member : ℕ) → entry < count → other < count → Contains (row_at (chunks_of state).modules entry) member
      → Contains (row_at closures other) member → Contains (row_at (chunks_of state).modules other) member
  still_together entry other member below other_below inside closure =
      let same = keeps.entries in
      let low : entry < state.entries = omega arith in
      let other_low : other < state.entries = omega arith in
      subst (λ list. Contains list member) (sym (row_of_entry other other_low))
      (keeps.together entry other member low other_low (subst (λ list. Contains list member) (row_of_entry entry low) inside) closure)

  pub finished : MeetClauses count closures placed (chunks_of state)
  finished = record {
    each = length-map state.loads (list_of state) ∙ keeps.groups;
    each_entry = keeps.entries;
    few_entries = still_few;
    ascending = still_ascending;
    in_range = numbers_inside;
    held = λ group member c. let source = keeps.held group member c in (
      count_by (is_there state) (range_with_len 0 source.0),
      of_group_loaded group source.0 source.1,
      subst (λ list. Contains list member) (sym (row_of_chunk source.0 (keeps.in_range group source.0 source.1) (keeps.there group source.0 source.1))) source.2,
    );
    closed = λ group place member of_it c. let source = from_group group place of_it in
        keeps.closed group source.0 member source.1
        (subst (λ list. Contains list member) (ap (row_at (chunks_of state).modules) source.2 ∙ row_of_chunk source.0 (keeps.in_range group source.0 source.1) (keeps.there group source.0 source.1)) c);
    together = still_together;
    listed = λ place above inside. let found = chunk_of_place place above inside in
        let source = keeps.listed found.0 found.1 found.2 in
        (source.0, subst (IsOfGroup (chunks_of state) source.0) found.4 (of_group_loaded source.0 found.0 source.1));
    filled = λ place above inside. let found = chunk_of_place place above inside in
        subst (λ list. 0 < length list) (sym (row_of_chunk found.0 found.1 found.2) ∙ ap (row_at (chunks_of state).modules) found.4) (no_entry found.0 found.3 found.2);
  }

-- the chunks that splitting leaves meet the clauses
pub split_meets : (graph : Graph) (config : Option SplitConfig) (entries : ℕ) (closures placed : List (List ℕ)) (chunks : Chunks)
    → FitTogether entries closures placed → IsSplit graph config entries placed chunks → MeetClauses entries closures placed chunks
split_meets graph config entries closures placed chunks fits split =
    subst (MeetClauses entries closures placed) (sym split.finished)
    (finished entries closures placed split.last
    (last_keeps graph config entries closures placed (first_state entries placed) split.last split.picks (first_keeps entries closures placed fits)))
