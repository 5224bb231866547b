-- What a pick does to chunks and groups.
use Rattle.std.proofs.Common.{◌≡◌, ◌≢◌, ⊎_elim, ℕ, ◌+◌, ◌<◌, ◌≤◌, max, ◌==◌, ◌&&◌, Bool, true, false, not, cond, true≢false, List, [], ◌∷◌, ◌++◌, length, map, filter, get_or, nat_lt, nat_le, refl, sym, ap, subst, ◌∙◌, arith}
use Rattle.std.specs.List.{All, Contains, list_any, range_with_len}
use Rattle.std.specs.List.Sorted.{IsStrictlyIncreasing}
use Rattle.std.specs.Cmp.Lexicographic.{bytes_decides}
use Rattle.std.proofs.lemmas.Bool.{cases_Bool, cases_eq, cases_lt, eq-eqb, ne_eqb, ltb-true, lt-ltb, le-leb, leb-true}
use Rattle.std.proofs.lemmas.List.{get_or-map, get_or_default, length_push, get_or_append_left}
use Rattle.std.proofs.lemmas.List.FromFn.{length-map-range_with_len, get_or-map-range_with_len}
use Rattle.std.proofs.lemmas.List.Elements.{All-contains, Contains-get_or, Contains-append_left, Contains-append_right, Contains-push_cases}
use Rattle.std.proofs.lemmas.List.Kept.{IsStrictlyIncreasing-filter, AllPairs-from_increasing}
use Rattle.std.proofs.Math.Seq.{get_or-append_seam}
use Rattle.pk_text.proofs.Ranges.{range_rises}
use Rattle.pk_types.specs.declared.graph.Graph.{Graph}
use Rattle.pk_types.specs.declared.settings.SplitConfig.{SplitConfig}
use Rattle.pk_types.specs.ChunkGroups.{AreAll}
use Rattle.pk_types.specs.Numbers.{has, meets, without, are_same}
use Rattle.pk_types.specs.SplitStates.{SplitState, chunk_at, loads_at, is_entry}
use Rattle.pk_types.specs.SplitCandidates.{Candidate, IsCandidate}
use Rattle.pk_types.specs.SplitPicks.{IsSplitChunk, HoldsJust, reused, made, chunk_after, stays, loads_after, after_pick, request_limit, KeepsLimits}
use Rattle.pk_types.proofs.ListMembers.{here, filtered, unfiltered, has-true, true-has, in_range, range_of, true-any, or_first, or_second, or_one, some_of, both, first_so, second_so, not_so, so_not, absent, in_or_not, in_row}
use Rattle.pk_types.proofs.OneOrder.{same_rising}
use Rattle.pk_types.proofs.OnePick.{one_chunk}
use Rattle.pk_types.proofs.PickLaws.{split_holds, other_chunk, holds_each}
use Rattle.pk_types.proofs.PickedOnce.{has_module}
use Rattle.pk_types.proofs.SplitLaws.{chunks_in_range}
use Rattle.split_chunks.specs.Marked.{AreFlags}
use Rattle.split_chunks.specs.States.{IsSound}
use Rattle.split_chunks.specs.Turns.{MovesSound, GroupKeeps, holds_just}
use Rattle.split_chunks.proofs.Lists.{same_so, list_any_same, all_of}

-- ---- candidates of a sound state

pub moves_sound : (graph : Graph) (config : SplitConfig) (state : SplitState) (candidate : Candidate) → IsSound (length graph.rows) state → IsCandidate graph config state candidate
    → MovesSound state candidate
moves_sound graph config state candidate sound is = record {
  chunks = subst IsStrictlyIncreasing (sym is.chunks) (IsStrictlyIncreasing-filter _ (range_with_len 0 (length state.modules)) (range_rises (length state.modules)));
  modules = subst IsStrictlyIncreasing (sym is.modules) (IsStrictlyIncreasing-filter _ (range_with_len 0 (length graph.rows)) (range_rises (length graph.rows)));
  inside = all_of (λ chunk. chunk < length state.modules) candidate.chunks (chunks_in_range graph config state candidate is);
  some = let has = has_module graph config state candidate is in omega (arith, has.1);
  holds = holds_each graph config state candidate is;
  ascending = sound.ascending;
}

-- ---- the split chunk

just_holds : (state : SplitState) (candidate : Candidate) (chunk : ℕ) → Contains candidate.chunks chunk → holds_just state candidate chunk ≡ true → HoldsJust state candidate chunk
just_holds state candidate chunk c e = (
  c,
  leb-true state.entries chunk (first_so (nat_le state.entries chunk) (are_same (chunk_at state chunk) candidate.modules) e),
  (bytes_decides (chunk_at state chunk) candidate.modules).0 (second_so (nat_le state.entries chunk) (are_same (chunk_at state chunk) candidate.modules) e),
)

holds_then : (state : SplitState) (candidate : Candidate) (chunk : ℕ) → HoldsJust state candidate chunk → holds_just state candidate chunk ≡ true
holds_then state candidate chunk just = both (nat_le state.entries chunk) (are_same (chunk_at state chunk) candidate.modules) (le-leb state.entries chunk just.1)
    ((bytes_decides (chunk_at state chunk) candidate.modules).1 just.2)

-- the first of the chunks that holds just the modules is the least
pub first_just : (state : SplitState) (candidate : Candidate) (at : ℕ) → IsStrictlyIncreasing candidate.chunks → candidate.cache_group.reuse ≡ true → at < length candidate.chunks
    → ((k : ℕ) → k < at → holds_just state candidate (get_or candidate.chunks k 0) ≡ false) → holds_just state candidate (get_or candidate.chunks at 0) ≡ true
    → IsSplitChunk state candidate (get_or candidate.chunks at 0)
first_just state candidate at ascending reuses inside before e =
    reused (get_or candidate.chunks at 0) reuses (just_holds state candidate (get_or candidate.chunks at 0) (Contains-get_or candidate.chunks at 0 inside) e) (λ other just. least other just just.0)
  where
    least : (other : ℕ) → HoldsJust state candidate other → Contains candidate.chunks other → get_or candidate.chunks at 0 ≤ other
    least other just (k, low, is) = ⊎_elim
        (λ early. let same : get_or candidate.chunks k 0 ≡ other = get_or_default candidate.chunks k 0 other low ∙ is in
        absurd (true≢false (sym (holds_then state candidate other just) ∙ (ap (holds_just state candidate) (sym same) ∙ before k early))))
        (λ late. ⊎_elim
        (λ same. let it : get_or candidate.chunks k 0 ≡ other = get_or_default candidate.chunks k 0 other low ∙ is in let moved = ap (λ z. get_or candidate.chunks z 0) same in omega arith)
        (λ ne. let it : get_or candidate.chunks k 0 ≡ other = get_or_default candidate.chunks k 0 other low ∙ is in
        let less : get_or candidate.chunks at 0 < get_or candidate.chunks k 0 = AllPairs-from_increasing candidate.chunks ascending at k 0 (omega arith) low in omega arith)
        (cases_eq k at))
        (cases_lt k at)

pub no_just : (state : SplitState) (candidate : Candidate) → ((k : ℕ) → k < length candidate.chunks → holds_just state candidate (get_or candidate.chunks k 0) ≡ false)
    → IsSplitChunk state candidate (length state.modules)
no_just state candidate none = made (λ reuses other just. by other just just.0)
  where
    by : (other : ℕ) → HoldsJust state candidate other → Contains candidate.chunks other → ⊥
    by other just (k, low, is) = let same : get_or candidate.chunks k 0 ≡ other = get_or_default candidate.chunks k 0 other low ∙ is in
        true≢false (sym (holds_then state candidate other just) ∙ (ap (holds_just state candidate) (sym same) ∙ none k low))

pub never_again : (state : SplitState) (candidate : Candidate) → candidate.cache_group.reuse ≡ false → IsSplitChunk state candidate (length state.modules)
never_again state candidate fresh = made (λ reuses other just. true≢false (sym reuses ∙ fresh))

pub split_below : (state : SplitState) (candidate : Candidate) (split : ℕ) → MovesSound state candidate → IsSplitChunk state candidate split → split ≤ length state.modules
split_below state candidate split moves (reused _ reuses just least) = let low = All-contains (λ chunk. chunk < length state.modules) candidate.chunks split moves.inside just.0 in omega arith
split_below state candidate split moves (made none) = omega arith

-- ---- which chunks stay

pub split_stays : (state : SplitState) (candidate : Candidate) (split : ℕ) → 0 < length candidate.modules → stays state candidate split split ≡ true
split_stays state candidate split some = or_second (is_entry state split) _ (ap (λ l. nat_lt 0 (length l)) (split_holds state candidate split) ∙ lt-ltb 0 (length candidate.modules) some)

pub left_in : (state : SplitState) (candidate : Candidate) (split chunk : ℕ) → MovesSound state candidate → has candidate.chunks chunk ≡ true → state.entries ≤ chunk → chunk ≢ split
    → not (are_same (chunk_at state chunk) candidate.modules) ≡ stays state candidate split chunk
left_in state candidate split chunk moves e above apart = same_so (not (are_same (chunk_at state chunk) candidate.modules)) (stays state candidate split chunk) one other
  where
    is : chunk_after state candidate split chunk ≡ without candidate.modules (chunk_at state chunk)
    is = other_chunk state candidate split chunk apart ∙ ap (λ b. cond b (without candidate.modules (chunk_at state chunk)) (chunk_at state chunk)) e

    one : not (are_same (chunk_at state chunk) candidate.modules) ≡ true → stays state candidate split chunk ≡ true
    one differ = ⊎_elim
        (λ some. or_second (is_entry state chunk) _ (ap (λ l. nat_lt 0 (length l)) is ∙ lt-ltb 0 (length (without candidate.modules (chunk_at state chunk))) some))
        (λ none. absurd (true≢false (sym ((bytes_decides (chunk_at state chunk) candidate.modules).1
        (same_rising (chunk_at state chunk) candidate.modules (moves.ascending chunk) moves.modules (λ member. (
          λ c. ⊎_elim (λ does. does) (λ isnt. absurd (let left = filtered (λ number. not (has candidate.modules number)) (chunk_at state chunk) member c (so_not _ (absent candidate.modules member isnt)) in omega (arith, left.1, none))) (in_or_not candidate.modules member),
          λ c. moves.holds chunk member (true-has candidate.chunks chunk e) c,
        )))) ∙ not_so _ differ)))
        (cases_lt 0 (length (without candidate.modules (chunk_at state chunk))))

    other : stays state candidate split chunk ≡ true → not (are_same (chunk_at state chunk) candidate.modules) ≡ true
    other left = so_not _ (⊎_elim
        (λ same. absurd (⊎_elim
        (λ entry. let below = ltb-true chunk state.entries entry in omega arith)
        (λ filled. let some = ltb-true 0 (length (chunk_after state candidate split chunk)) filled in
        let found = some_of (without candidate.modules (chunk_at state chunk)) (subst (λ l. 0 < length l) is some) in
        let from = unfiltered (λ number. not (has candidate.modules number)) (chunk_at state chunk) found.0 found.1 in
        let both_same = (bytes_decides (chunk_at state chunk) candidate.modules).0 same in
        true≢false (sym (has-true candidate.modules found.0 (subst (λ l. Contains l found.0) both_same from.0)) ∙ not_so _ from.1))
        (or_one (is_entry state chunk) _ left)))
        (λ isnt. isnt)
        (cases_Bool (are_same (chunk_at state chunk) candidate.modules)))

pub left_out : (state : SplitState) (candidate : Candidate) (split chunk : ℕ) → has candidate.chunks chunk ≡ false → state.entries ≤ chunk → chunk ≢ split
    → nat_lt 0 (length (chunk_at state chunk)) ≡ stays state candidate split chunk
left_out state candidate split chunk e above apart = same_so (nat_lt 0 (length (chunk_at state chunk))) (stays state candidate split chunk)
    (λ some. or_second (is_entry state chunk) _ (ap (λ l. nat_lt 0 (length l)) is ∙ some))
    (λ left. ⊎_elim (λ entry. absurd (let below = ltb-true chunk state.entries entry in omega arith)) (λ filled. ap (λ l. nat_lt 0 (length l)) (sym is) ∙ filled) (or_one (is_entry state chunk) _ left))
  where
    is : chunk_after state candidate split chunk ≡ chunk_at state chunk
    is = other_chunk state candidate split chunk apart ∙ ap (λ b. cond b (without candidate.modules (chunk_at state chunk)) (chunk_at state chunk)) e

pub entry_stays : (state : SplitState) (candidate : Candidate) (split chunk : ℕ) → chunk < state.entries → true ≡ stays state candidate split chunk
entry_stays state candidate split chunk below = sym (or_first (is_entry state chunk) _ (lt-ltb chunk state.entries below))

-- the flags of all chunks
abbrev pub HasStays : SplitState → Candidate → ℕ → List Bool → Type 0
HasStays state candidate split flags = (length flags ≡ max (length state.modules) (split + 1))
    × ((chunk : ℕ) → chunk < length flags → get_or flags chunk false ≡ stays state candidate split chunk)

pub stays_old : (state : SplitState) (candidate : Candidate) (split : ℕ) (flags : List Bool) → split < length state.modules
    → flags ≡ map (stays state candidate split) (range_with_len 0 (length state.modules)) → HasStays state candidate split flags
stays_old state candidate split flags below is =
    let long = ap length is ∙ length-map-range_with_len (stays state candidate split) 0 (length state.modules) in (
      omega arith,
      λ chunk inside. ap (λ l. get_or l chunk false) is ∙ get_or-map-range_with_len (stays state candidate split) 0 (length state.modules) chunk chunk false (omega arith) (omega arith),
    )

pub stays_new : (state : SplitState) (candidate : Candidate) (split : ℕ) (flags more : List Bool) → split ≡ length state.modules → 0 < length candidate.modules
    → flags ≡ map (stays state candidate split) (range_with_len 0 (length state.modules)) → more ≡ flags ++ true ∷ [] → HasStays state candidate split more
stays_new state candidate split flags more at some is made_of =
    let long = ap length is ∙ length-map-range_with_len (stays state candidate split) 0 (length state.modules) in
    let longer = ap length made_of ∙ length_push flags true in (
      omega arith,
      λ chunk inside. ⊎_elim
          (λ low. ap (λ l. get_or l chunk false) made_of ∙ get_or_append_left flags (true ∷ []) false chunk (omega arith)
          ∙ ap (λ l. get_or l chunk false) is ∙ get_or-map-range_with_len (stays state candidate split) 0 (length state.modules) chunk chunk false low (omega arith))
          (λ high. let last : chunk ≡ length flags = omega arith in let same : chunk ≡ split = omega arith in
          ap (λ l. get_or l chunk false) made_of ∙ ap (λ k. get_or (flags ++ true ∷ []) k false) last ∙ get_or-append_seam flags true [] false
          ∙ sym (split_stays state candidate split some) ∙ ap (stays state candidate split) (sym same))
          (cases_lt chunk (length state.modules)),
    )

-- ---- what a group loads

module _ (state : SplitState) (candidate : Candidate) (split : ℕ) (loads others after result : List ℕ) (flags : List Bool) (met : Bool)
    (below : All (λ chunk. chunk < length state.modules) loads) (has_stays : HasStays state candidate split flags)
    (lasting : stays state candidate split split ≡ true) (meeting : met ≡ meets loads candidate.chunks)
    (are_others : others ≡ filter (λ chunk. not (chunk == split) && get_or flags chunk false) loads)
    (is_after : after ≡ cond met (others ++ split ∷ []) others) (all : AreAll (Contains after) result) where
  abbrev test : ℕ → Bool
  test chunk = cond (chunk == split) (meets loads candidate.chunks) (has loads chunk) && stays state candidate split chunk

  at_split : (chunk : ℕ) → chunk ≡ split → met ≡ true → test chunk ≡ true
  at_split chunk same does = both (cond (chunk == split) (meets loads candidate.chunks) (has loads chunk)) (stays state candidate split chunk)
      (ap (λ b. cond b (meets loads candidate.chunks) (has loads chunk)) (eq-eqb chunk split same) ∙ sym meeting ∙ does)
      (ap (stays state candidate split) same ∙ lasting)

  from_other : (chunk : ℕ) → Contains others chunk → (chunk < length flags) × (test chunk ≡ true)
  from_other chunk c =
      let from = unfiltered (λ chunk. not (chunk == split) && get_or flags chunk false) loads chunk (subst (λ l. Contains l chunk) are_others c) in
      let differs = not_so (chunk == split) (first_so (not (chunk == split)) (get_or flags chunk false) from.1) in
      let low = All-contains (λ chunk. chunk < length state.modules) loads chunk below from.0 in
      let long = has_stays.0 in
      let inside : chunk < length flags = omega (arith, low, long) in (
        inside,
        both (cond (chunk == split) (meets loads candidate.chunks) (has loads chunk)) (stays state candidate split chunk)
            (ap (λ b. cond b (meets loads candidate.chunks) (has loads chunk)) differs ∙ has-true loads chunk from.0)
            (sym (has_stays.1 chunk inside) ∙ second_so (not (chunk == split)) (get_or flags chunk false) from.1),
      )

  to_other : (chunk : ℕ) → chunk ≢ split → chunk < length flags → test chunk ≡ true → Contains others chunk
  to_other chunk apart inside passes =
      let among = true-has loads chunk (ap (λ b. cond b (meets loads candidate.chunks) (has loads chunk)) (sym (ne_eqb chunk split apart)) ∙ first_so (cond (chunk == split) (meets loads candidate.chunks) (has loads chunk)) (stays state candidate split chunk) passes) in
      subst (λ l. Contains l chunk) (sym are_others) (filtered (λ chunk. not (chunk == split) && get_or flags chunk false) loads chunk among
      (both (not (chunk == split)) (get_or flags chunk false) (so_not (chunk == split) (ne_eqb chunk split apart))
      (has_stays.1 chunk inside ∙ second_so (cond (chunk == split) (meets loads candidate.chunks) (has loads chunk)) (stays state candidate split chunk) passes)))

  in_after : (chunk : ℕ) → (b : Bool) → met ≡ b → Contains (cond b (others ++ split ∷ []) others) chunk → (chunk < length flags) × (test chunk ≡ true)
  in_after chunk true does c = ⊎_elim
      (λ other. from_other chunk other)
      (λ same. let long = has_stays.0 in (omega (arith, same, long), at_split chunk (sym same) does))
      (Contains-push_cases others split chunk c)
  in_after chunk false isnt c = from_other chunk c

  to_after : (chunk : ℕ) → (b : Bool) → met ≡ b → chunk < length flags → test chunk ≡ true → Contains (cond b (others ++ split ∷ []) others) chunk
  to_after chunk true does inside passes = ⊎_elim
      (λ same. subst (λ z. Contains (others ++ split ∷ []) z) (sym same) (Contains-append_right others (split ∷ []) split (here split [])))
      (λ apart. Contains-append_left others (split ∷ []) chunk (to_other chunk apart inside passes))
      (cases_eq chunk split)
  to_after chunk false isnt inside passes = ⊎_elim
      (λ same. absurd (true≢false (sym (first_so (cond (chunk == split) (meets loads candidate.chunks) (has loads chunk)) (stays state candidate split chunk) passes)
      ∙ ap (λ b. cond b (meets loads candidate.chunks) (has loads chunk)) (eq-eqb chunk split same) ∙ sym meeting ∙ isnt)))
      (λ apart. to_other chunk apart inside passes)
      (cases_eq chunk split)

  pub loads_are : result ≡ loads_after state candidate split loads
  loads_are = same_rising result (filter test (range_with_len 0 (max (length state.modules) (split + 1)))) all.ascending
      (IsStrictlyIncreasing-filter test (range_with_len 0 (max (length state.modules) (split + 1))) (range_rises (max (length state.modules) (split + 1))))
      (λ chunk. (
        λ c. let found = in_after chunk met refl (subst (λ l. Contains l chunk) is_after ((all.each chunk).0 c)) in
            let long = has_stays.0 in
            filtered test (range_with_len 0 (max (length state.modules) (split + 1))) chunk (in_range 0 (max (length state.modules) (split + 1)) chunk (omega arith) (omega (arith, found.0, long))) found.1,
        λ c. let from = unfiltered test (range_with_len 0 (max (length state.modules) (split + 1))) chunk c in
            let range = range_of 0 (max (length state.modules) (split + 1)) chunk from.0 in
            let long = has_stays.0 in
            (all.each chunk).1 (subst (λ l. Contains l chunk) (sym is_after) (to_after chunk met refl (omega (arith, range.1, long)) from.1)),
      ))

-- whether chunks meet, by flags
pub met_by_flags : (loads numbers : List ℕ) (flags : List Bool) (count : ℕ) → AreFlags numbers count flags → list_any (λ chunk. get_or flags chunk false) loads ≡ meets loads numbers
met_by_flags loads numbers flags count are = list_any_same (λ chunk. get_or flags chunk false) (has numbers) loads are.each

-- ---- the limits

loads_there : (state : SplitState) (candidate : Candidate) (split group : ℕ) → group < length state.loads
    → loads_at (after_pick state candidate split) group ≡ loads_after state candidate split (loads_at state group)
loads_there state candidate split group inside = get_or-map (loads_after state candidate split) state.loads group [] [] inside

pub keeps_all : (config : SplitConfig) (state : SplitState) (candidate : Candidate) (split : ℕ) → IsSplitChunk state candidate split
    → ((group : ℕ) → group < length state.loads → GroupKeeps config state candidate split group) → KeepsLimits config state candidate
keeps_all config state candidate split into each = λ other also group meet.
    let found = true-any (has candidate.chunks) (loads_at state group) meet in
    let inside = in_row state.loads group found.0 found.1 in
    let same = one_chunk state candidate split other into also in
    subst (λ z. length (loads_at (after_pick state candidate z) group) ≤ request_limit config state group) same
    (subst (λ l. length l ≤ request_limit config state group) (sym (loads_there state candidate split group inside)) (each group inside meet))

pub keeps_not : (config : SplitConfig) (state : SplitState) (candidate : Candidate) (split group : ℕ) → IsSplitChunk state candidate split → group < length state.loads
    → meets (loads_at state group) candidate.chunks ≡ true → request_limit config state group < length (loads_after state candidate split (loads_at state group)) → ¬ KeepsLimits config state candidate
keeps_not config state candidate split group into inside meet over keeps =
    let few = keeps split into group meet in
    let same = ap length (loads_there state candidate split group inside) in
    omega arith
