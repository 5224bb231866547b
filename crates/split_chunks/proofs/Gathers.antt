-- Modules gathered by sets of chunks.
use Rattle.std.proofs.Common.{◌≡◌, ◌⊎◌, ⊎_elim, inl, inr, ℕ, zero, suc, ◌+◌, ◌<◌, ◌≤◌, ◌&&◌, Bool, true, false, not, cond, true≢false, List, [], ◌∷◌, ◌++◌, length, filter, get_or, Some, slice_get, refl, sym, ap, subst, ◌∙◌, arith}
use Rattle.std.proofs.Math.ListN.{set}
use Rattle.std.specs.List.{Contains, IsDistinct, list_any, range_with_len}
use Rattle.std.specs.Str.{bytes_eq}
use Rattle.std.specs.Cmp.Lexicographic.{bytes_decides}
use Rattle.std.proofs.lemmas.Bool.{cases_eq, cases_lt}
use Rattle.std.proofs.lemmas.List.{length-set, get_or_past, get_or-set_same, get_or-set_other, get_or_append_left, length_push}
use Rattle.std.proofs.lemmas.Map.Keys.{apart_from_distinct}
use Rattle.std.proofs.lemmas.Option.{get_or_from_slice_get}
use Rattle.pk_types.specs.declared.graph.Graph.{Graph}
use Rattle.pk_types.specs.declared.settings.CacheGroup.{CacheGroup}
use Rattle.pk_types.specs.declared.settings.SplitConfig.{SplitConfig}
use Rattle.pk_types.specs.Numbers.{are_same}
use Rattle.pk_types.specs.ChunkClauses.{row_at}
use Rattle.pk_types.specs.SplitStates.{SplitState}
use Rattle.pk_types.specs.SplitCandidates.{Candidate, IsCandidate, is_movable, chunks_with, modules_with}
use Rattle.pk_types.proofs.ListMembers.{both, first_so, second_so, range_of, unfiltered}
use Rattle.pk_types.proofs.SplitLaws.{modules_in_range}
use Rattle.pk_types.proofs.PickedOnce.{has_module}
use Rattle.indexmap.specs.IndexSet.{insert_key}
use Rattle.split_chunks.specs.declared.gather.Gathered.{Gathered}
use Rattle.split_chunks.specs.Gathering.{GainsMember, AreGathered, AreOfScene}
use Rattle.split_chunks.specs.Picking.{candidate_at}
use Rattle.split_chunks.proofs.Lists.{passes_more, fails_more}

same_true : (xs : List ℕ) → are_same xs xs ≡ true
same_true xs = (bytes_decides xs xs).1 refl

same_is : (xs ys : List ℕ) → are_same xs ys ≡ true → xs ≡ ys
same_is xs ys e = (bytes_decides xs ys).0 e

false_unless : (b : Bool) → (b ≡ true → ⊥) → b ≡ false
false_unless true isnt = absurd (isnt refl)
false_unless false isnt = refl

-- one empty list more changes no list
push_empty : (lists : List (List ℕ)) (k : ℕ) → get_or (lists ++ [] ∷ []) k [] ≡ get_or lists k []
push_empty [] zero = refl
push_empty [] (suc k) = refl
push_empty (line ∷ lists) zero = refl
push_empty (line ∷ lists) (suc k) = push_empty lists k

-- the lists with room for one set more
abbrev pub with_room : Bool → List (List ℕ) → List (List ℕ)
with_room is_new lists = cond is_new (lists ++ [] ∷ []) lists

room_same : (is_new : Bool) (lists : List (List ℕ)) (k : ℕ) → get_or (with_room is_new lists) k [] ≡ get_or lists k []
room_same true lists k = push_empty lists k
room_same false lists k = refl

room_long : (is_new : Bool) (lists sets : List (List ℕ)) (one : List ℕ) → length lists ≡ length sets → length (with_room is_new lists) ≡ length (cond (not is_new) sets (sets ++ one ∷ []))
room_long true lists sets one e = length_push lists [] ∙ ap (λ n. n + 1) e ∙ sym (length_push sets one)
room_long false lists sets one e = e

grown : (had : Bool) (sets : List (List ℕ)) (one : List ℕ) (other : ℕ) → other < length sets → get_or (cond had sets (sets ++ one ∷ [])) other [] ≡ get_or sets other []
grown true sets one other inside = refl
grown false sets one other inside = get_or_append_left sets (one ∷ []) [] other inside

not_not : (b : Bool) → not (not b) ≡ b
not_not true = refl
not_not false = refl

grown_long : (had : Bool) (sets : List (List ℕ)) (one : List ℕ) → length sets ≤ length (cond had sets (sets ++ one ∷ []))
grown_long true sets one = omega arith
grown_long false sets one = let long = length_push sets one in omega arith

-- what stands past the old sets is the new one
past_old : (had : Bool) (sets : List (List ℕ)) (one : List ℕ) (other : ℕ) → other < length (cond had sets (sets ++ one ∷ [])) → (other < length sets) ⊎ (get_or (cond had sets (sets ++ one ∷ [])) other [] ≡ one)
past_old true sets one other inside = inl inside
past_old false sets one other inside = by sets other (let long = length_push sets one in omega arith)
  where
    by : (sets : List (List ℕ)) (other : ℕ) → other < length sets + 1 → (other < length sets) ⊎ (get_or (sets ++ one ∷ []) other [] ≡ one)
    by [] zero inside = inr refl
    by [] (suc other) inside = absurd (omega arith)
    by (first ∷ rest) zero inside = inl (omega arith)
    by (first ∷ rest) (suc other) inside = ⊎_elim (λ low. inl (omega arith)) (λ is. inr is) (by rest other (omega arith))

pub room_fits : (sets lists now_sets : List (List ℕ)) (one : List ℕ) (is_new : Bool) → length lists ≡ length sets → now_sets ≡ insert_key bytes_eq sets one → is_new ≡ not (list_any (bytes_eq one) sets)
    → length (with_room is_new lists) ≡ length now_sets
room_fits sets lists now_sets one is_new each keys added = room_long is_new lists sets one each
    ∙ ap length (sym (keys ∙ ap (λ b. cond b sets (sets ++ one ∷ [])) (sym (ap not added ∙ not_not (list_any (bytes_eq one) sets)))))

module _ (sets lists now_sets now_lists : List (List ℕ)) (one found : List ℕ) (member place : ℕ) (is_new : Bool) (each : length lists ≡ length sets)
    (keys : now_sets ≡ insert_key bytes_eq sets one) (added : is_new ≡ not (list_any (bytes_eq one) sets)) (inside : place < length now_sets)
    (stored : slice_get now_sets place ≡ Some found) (equal : bytes_eq one found ≡ true) (distinct : IsDistinct bytes_eq now_sets)
    (made : now_lists ≡ set (with_room is_new lists) place (get_or (with_room is_new lists) place [] ++ member ∷ [])) where
  had : list_any (bytes_eq one) sets ≡ not is_new
  had = sym (ap not added ∙ not_not (list_any (bytes_eq one) sets))

  is_grown : now_sets ≡ cond (not is_new) sets (sets ++ one ∷ [])
  is_grown = keys ∙ ap (λ b. cond b sets (sets ++ one ∷ [])) had

  at_place : get_or now_sets place [] ≡ one
  at_place = get_or_from_slice_get now_sets place found [] stored ∙ sym ((bytes_decides one found).0 equal)

  long : length (with_room is_new lists) ≡ length now_sets
  long = room_long is_new lists sets one each ∙ ap length (sym is_grown)

  only_place : (other : ℕ) → other < length now_sets → get_or now_sets other [] ≡ one → other ≡ place
  only_place other low is = ⊎_elim
      (λ before. absurd (apart other place before inside is at_place))
      (λ not_before. ⊎_elim (λ same. same) (λ ne. absurd (apart place other (omega arith) low at_place is)) (cases_eq other place))
      (cases_lt other place)
    where
      apart : (i j : ℕ) → i < j → j < length now_sets → get_or now_sets i [] ≡ one → get_or now_sets j [] ≡ one → ⊥
      apart i j before low at_i at_j = true≢false (sym ((bytes_decides one one).1 refl) ∙ sym ((λ k. bytes_eq (at_i k) (at_j k))) ∙ apart_from_distinct bytes_eq now_sets i j [] distinct before low)

  pub gains_member : GainsMember sets lists one member now_sets now_lists
  gains_member = record {
    each = ap length made ∙ length-set (with_room is_new lists) place _ ∙ long;
    place = place;
    inside = inside;
    is_set = at_place;
    gains = ap (λ l. get_or l place []) made ∙ get_or-set_same (with_room is_new lists) place _ [] (omega (arith, long, inside)) ∙ ap (λ l. l ++ member ∷ []) (room_same is_new lists place);
    others = λ other ne. ap (λ l. get_or l other []) made ∙ get_or-set_other (with_room is_new lists) place other _ [] ne ∙ room_same is_new lists other;
    same_sets = λ other low. ap (λ l. get_or l other []) is_grown ∙ grown (not is_new) sets one other low;
    more = λ other low ne. ⊎_elim (λ does. does) (λ is. absurd (ne (only_place other low (ap (λ l. get_or l other []) is_grown ∙ is))))
        (past_old (not is_new) sets one other (subst (λ l. other < length l) is_grown low));
    fewer = subst (λ l. length sets ≤ length l) (sym is_grown) (grown_long (not is_new) sets one);
    only = only_place;
  }

-- none of them passes
none_pass : (test : ℕ → Bool) (count : ℕ) → ((number : ℕ) → number < count → test number ≡ true → ⊥) → filter test (range_with_len 0 count) ≡ []
none_pass test count none = by (filter test (range_with_len 0 count)) (λ number c. let from = unfiltered test (range_with_len 0 count) number c in let range = range_of 0 count number from.0 in none number (omega (arith, range.1)) from.1)
  where
    by : (list : List ℕ) → ((number : ℕ) → Contains list number → ⊥) → list ≡ []
    by [] isnt = refl
    by (x ∷ xs) isnt = absurd (isnt x (0, omega arith, refl))

module _ (test : ℕ → Bool) (chunks : ℕ → List ℕ) where
  pub gathered_none : AreGathered test chunks 0 [] []
  gathered_none = record {
    each = refl;
    members = λ place inside. absurd (omega arith);
    some = λ place inside. absurd (omega arith);
    all = λ member inside passes filled. absurd (omega arith);
  }

  -- the next module does not pass, or stands in no chunk
  pub gathered_skip : (count : ℕ) (sets lists : List (List ℕ)) → AreGathered test chunks count sets lists → (test count ≡ true → 0 < length (chunks count) → ⊥)
      → AreGathered test chunks (count + 1) sets lists
  gathered_skip count sets lists so_far out = record {
    each = so_far.each;
    members = λ place inside. so_far.members place inside ∙ sym (fails_more (λ member. test member && are_same (chunks member) (row_at sets place)) count (fails place inside));
    some = so_far.some;
    all = λ member inside passes filled. ⊎_elim
        (λ e. absurd (out (subst (λ n. test n ≡ true) e passes) (subst (λ n. 0 < length (chunks n)) e filled)))
        (λ ne. so_far.all member (omega arith) passes filled)
        (cases_eq member count);
  }
    where
      fails : (place : ℕ) → place < length sets → (test count && are_same (chunks count) (row_at sets place)) ≡ false
      fails place inside = false_unless (test count && are_same (chunks count) (row_at sets place)) (λ e.
          let is = same_is (chunks count) (row_at sets place) (second_so (test count) _ e) in
          let filled = (so_far.some place inside).3 in
          out (first_so (test count) _ e) (subst (λ l. 0 < length l) (sym is) filled))

  -- the next module is gathered
  pub gathered_add : (count : ℕ) (sets lists now_sets now_lists : List (List ℕ)) → AreGathered test chunks count sets lists → test count ≡ true → 0 < length (chunks count)
      → GainsMember sets lists (chunks count) count now_sets now_lists → AreGathered test chunks (count + 1) now_sets now_lists
  gathered_add count sets lists now_sets now_lists so_far passes filled gain = record {
    each = gain.each;
    members = λ place inside. ⊎_elim
        (λ e. here place e inside)
        (λ ne. gain.others place ne ∙ so_far.members place (gain.more place inside ne)
        ∙ filter_row place (gain.more place inside ne)
        ∙ sym (fails_more (λ member. test member && are_same (chunks member) (row_at now_sets place)) count (fails place inside ne)))
        (cases_eq place gain.place);
    some = λ place inside. ⊎_elim
        (λ e. (count, passes, ap (row_at now_sets) e ∙ gain.is_set, subst (λ l. 0 < length l) (sym (ap (row_at now_sets) e ∙ gain.is_set)) filled))
        (λ ne. let low = gain.more place inside ne in let old = so_far.some place low in
        (old.0, old.1, gain.same_sets place low ∙ old.2, subst (λ l. 0 < length l) (sym (gain.same_sets place low)) old.3))
        (cases_eq place gain.place);
    all = λ member inside good some. ⊎_elim
        (λ e. (gain.place, gain.inside, gain.is_set ∙ ap chunks (sym e)))
        (λ ne. let old = so_far.all member (omega arith) good some in let more = gain.fewer in
        (old.0, omega (arith, old.1, more), gain.same_sets old.0 old.1 ∙ old.2))
        (cases_eq member count);
  }
    where
      filter_row : (place : ℕ) → place < length sets → filter (λ member. test member && are_same (chunks member) (row_at sets place)) (range_with_len 0 count)
          ≡ filter (λ member. test member && are_same (chunks member) (row_at now_sets place)) (range_with_len 0 count)
      filter_row place low = ap (λ l. filter (λ member. test member && are_same (chunks member) l) (range_with_len 0 count)) (sym (gain.same_sets place low))

      fails : (place : ℕ) → place < length now_sets → ¬ (place ≡ gain.place) → (test count && are_same (chunks count) (row_at now_sets place)) ≡ false
      fails place inside ne = false_unless (test count && are_same (chunks count) (row_at now_sets place)) (λ e.
          ne (gain.only place inside (sym (same_is (chunks count) (row_at now_sets place) (second_so (test count) _ e)))))

      before : (place : ℕ) → place ≡ gain.place → (place < length sets) ⊎ (length sets ≤ place)
          → row_at lists place ≡ filter (λ member. test member && are_same (chunks member) (row_at now_sets place)) (range_with_len 0 count)
      before place e (inl low) = so_far.members place low ∙ filter_row place low
      before place e (inr past) = get_or_past lists place [] (omega (arith, so_far.each, past)) ∙ sym (none_pass (λ member. test member && are_same (chunks member) (row_at now_sets place)) count (λ member inside good.
          let is = same_is (chunks member) (row_at now_sets place) (second_so (test member) _ good) ∙ ap (row_at now_sets) e ∙ gain.is_set in
          let old = so_far.all member inside (first_so (test member) _ good) (subst (λ l. 0 < length l) (sym is) filled) in
          let more = gain.fewer in
          let same = gain.only old.0 (omega (arith, old.1, more)) (gain.same_sets old.0 old.1 ∙ old.2 ∙ is) in
          absurd (omega (arith, old.1, same, e, past))))

      here : (place : ℕ) → place ≡ gain.place → place < length now_sets
          → row_at now_lists place ≡ filter (λ member. test member && are_same (chunks member) (row_at now_sets place)) (range_with_len 0 (count + 1))
      here place e inside = ap (row_at now_lists) e ∙ gain.gains ∙ ap (λ l. l ++ count ∷ []) (ap (row_at lists) (sym e) ∙ before place e (cases_lt place (length sets)))
          ∙ sym (passes_more (λ member. test member && are_same (chunks member) (row_at now_sets place)) count
          (both (test count) (are_same (chunks count) (row_at now_sets place)) passes (ap (are_same (chunks count)) (ap (row_at now_sets) e ∙ gain.is_set) ∙ same_true (chunks count))))

-- ---- what is gathered are the candidates

module _ (graph : Graph) (config : SplitConfig) (state : SplitState) (cache : CacheGroup) (gathered : Gathered) (are : AreOfScene graph state cache gathered) where
  pub is_candidate : Contains config.groups cache → (place : ℕ) → place < length gathered.sets.keys → IsCandidate graph config state (candidate_at cache gathered place)
  is_candidate among place inside = let one = are.some place inside in record {
    cache_group = among;
    member = one.0;
    movable = one.1;
    chunks = one.2;
    some_chunk = one.3;
    modules = are.members place inside;
  }

  pub each_candidate : (candidate : Candidate) → IsCandidate graph config state candidate → candidate.cache_group ≡ cache
      → (place : ℕ) × (place < length gathered.sets.keys) × (candidate ≡ candidate_at cache gathered place)
  each_candidate candidate is same =
      let inside = modules_in_range graph config state candidate is is.member (has_module graph config state candidate is) in
      let chunks : candidate.chunks ≡ chunks_with state cache is.member = is.chunks ∙ ap (λ z. chunks_with state z is.member) same in
      let found = are.all is.member inside (subst (λ z. is_movable graph state z is.member ≡ true) same is.movable) (subst (λ l. 0 < length l) chunks is.some_chunk) in
      let set : candidate.chunks ≡ row_at gathered.sets.keys found.0 = chunks ∙ sym found.2 in
      let modules : candidate.modules ≡ row_at gathered.members.items found.0 =
      is.modules ∙ (λ i. modules_with graph state (same i) (set i)) ∙ sym (are.members found.0 found.1) in
      (found.0, found.1, λ i. record { cache_group = same i; chunks = set i; modules = modules i })
