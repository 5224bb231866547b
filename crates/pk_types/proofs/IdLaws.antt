-- Laws of ids.
use Rattle.std.proofs.Common.{◌≡◌, ◌≢◌, ℕ, ◌+◌, ◌<◌, true, cond, List, length, map, sym, ap, subst, ◌∙◌, arith, ⊎_elim, count_by, slice_index, take, ◌%◌, mod-lt}
use Rattle.std.specs.List.{Contains, range_with_len}
use Rattle.std.proofs.lemmas.Bool.{cases_order}
use Rattle.std.proofs.lemmas.List.FromFn.{get_or-map-range_with_len}
use Rattle.pk_types.specs.declared.graph.Graph.{Graph}
use Rattle.pk_types.specs.declared.plan.Chunks.{Chunks}
use Rattle.pk_types.specs.declared.plan.Ids.{Ids}
use Rattle.pk_types.specs.ModuleIds.{is_in_chunks, rank_of, AreNaturalIds, id_count, AreGivenInOrder}
use Rattle.pk_types.proofs.ListMembers.{within_take}
use Rattle.pk_types.proofs.Counts.{counted, place_of_passing}
use Rattle.pk_types.specs.HashedIds.{AreHashedIds, placed_modules, module_start}
use Rattle.std.proofs.lemmas.List.{length-map, get_or-map}
use Rattle.std.proofs.lemmas.List.Sums.{length-filter}

rank_less : (chunks : Chunks) (member other : ℕ) → is_in_chunks chunks member ≡ true → is_in_chunks chunks other ≡ true → member < other
    → rank_of chunks member < rank_of chunks other
rank_less chunks member other one two before =
    let fewer : count_by (is_in_chunks chunks) (range_with_len 0 member) < count_by (is_in_chunks chunks) (range_with_len 0 other) =
    counted (is_in_chunks chunks) 0 member other before (ap (is_in_chunks chunks) (omega arith) ∙ one) in
    let mine : rank_of chunks member ≡ count_by (is_in_chunks chunks) (range_with_len 0 member) = ap (λ b. cond b (count_by (is_in_chunks chunks) (range_with_len 0 member)) 0) one in
    let its : rank_of chunks other ≡ count_by (is_in_chunks chunks) (range_with_len 0 other) = ap (λ b. cond b (count_by (is_in_chunks chunks) (range_with_len 0 other)) 0) two in
    omega arith

-- two modules in chunks have two ranks
pub ranks_differ : (chunks : Chunks) (member other : ℕ) → is_in_chunks chunks member ≡ true → is_in_chunks chunks other ≡ true
    → rank_of chunks member ≡ rank_of chunks other → member ≡ other
ranks_differ chunks member other one two same = ⊎_elim (λ e. e)
    (⊎_elim (λ before. absurd (apart (rank_of chunks member) (rank_of chunks other) (rank_less chunks member other one two before) same))
    (λ after. absurd (apart (rank_of chunks other) (rank_of chunks member) (rank_less chunks other member two one after) (sym same))))
    (cases_order member other)
  where
    apart : (low high : ℕ) → low < high → low ≡ high → ⊥
    apart low high less e = omega arith

-- natural ids tell the modules in chunks apart
pub natural_ids_differ : (graph : Graph) (chunks : Chunks) (ids : Ids) → AreNaturalIds graph chunks ids → (member other : ℕ)
    → member < length graph.rows → other < length graph.rows → is_in_chunks chunks member ≡ true → is_in_chunks chunks other ≡ true
    → slice_index ids.modules member ≡ slice_index ids.modules other → member ≡ other
natural_ids_differ graph chunks ids natural member other inside within one two same =
    ranks_differ chunks member other one two (sym (at member inside) ∙ (same ∙ at other within))
  where
    at : (number : ℕ) → number < length graph.rows → slice_index ids.modules number ≡ rank_of chunks number
    at number inside = ap (λ list. slice_index list number) natural.module_ids ∙ get_or-map-range_with_len (rank_of chunks) 0 (length graph.rows) number number 0 inside (omega arith)

-- numbers that are given in order are apart, and have five hexadecimal digits
pub given_apart : (starts numbers : List ℕ) → AreGivenInOrder starts numbers → (place other : ℕ) → place < other → other < length starts
    → slice_index numbers place ≢ slice_index numbers other
given_apart starts numbers (long, next) place other before inside same =
    (next other inside).free (subst (Contains (take other numbers)) same (within_take numbers place other 0 before (omega arith)))

pub given_below : (starts numbers : List ℕ) → AreGivenInOrder starts numbers → (place : ℕ) → place < length starts → slice_index numbers place < id_count
given_below starts numbers (long, next) place inside =
    let at = (next place inside).at in
    let above : 0 < id_count = omega arith in
    let below : (slice_index starts place + (next place inside).steps) % id_count < id_count = mod-lt _ above in
    rw at below

-- hashed ids tell the modules in chunks apart
module _ (hash : List ℕ → List ℕ) (graph : Graph) (chunks : Chunks) (ids : Ids) (hashed : AreHashedIds hash graph chunks ids) where
  place_of : ℕ → ℕ
  place_of member = count_by (is_in_chunks chunks) (range_with_len 0 member)

  -- the place of a module among those in chunks
  at_place : (member : ℕ) → member < length graph.rows → is_in_chunks chunks member ≡ true
      → (count_by (is_in_chunks chunks) (range_with_len 0 member) < length (placed_modules hash graph chunks))
      × (slice_index (map (slice_index ids.modules) (placed_modules hash graph chunks)) (count_by (is_in_chunks chunks) (range_with_len 0 member)) ≡ slice_index ids.modules member)
  at_place member inside placed =
      let start : member ≡ 0 + member = omega arith in
      let passes : is_in_chunks chunks (0 + member) ≡ true = ap (is_in_chunks chunks) (sym start) ∙ placed in
      let fewer = counted (is_in_chunks chunks) 0 member (length graph.rows) inside passes in
      let long = length-filter (is_in_chunks chunks) (range_with_len 0 (length graph.rows)) in
      let below : count_by (is_in_chunks chunks) (range_with_len 0 member) < length (placed_modules hash graph chunks) = omega arith in (
        below,
        get_or-map (slice_index ids.modules) (placed_modules hash graph chunks) (count_by (is_in_chunks chunks) (range_with_len 0 member)) 0 0 below
            ∙ ap (slice_index ids.modules) (place_of_passing (is_in_chunks chunks) 0 (length graph.rows) member 0 inside passes ∙ sym start),
      )

  apart_before : (member other : ℕ) → member < other → other < length graph.rows → is_in_chunks chunks member ≡ true → is_in_chunks chunks other ≡ true
      → slice_index ids.modules member ≢ slice_index ids.modules other
  apart_before member other before inside one two same =
      let first = at_place member (omega arith) one in
      let second = at_place other inside two in
      let start : member ≡ 0 + member = omega arith in
      let fewer = counted (is_in_chunks chunks) 0 member other before (ap (is_in_chunks chunks) (sym start) ∙ one) in
      let long = length-map (placed_modules hash graph chunks) (module_start hash graph) in
      let second_below = second.0 in
      given_apart (map (module_start hash graph) (placed_modules hash graph chunks)) (map (slice_index ids.modules) (placed_modules hash graph chunks)) hashed.module_ids
      (count_by (is_in_chunks chunks) (range_with_len 0 member)) (count_by (is_in_chunks chunks) (range_with_len 0 other)) fewer (omega arith)
      (first.1 ∙ (same ∙ sym second.1))

  pub hashed_ids_differ : (member other : ℕ) → member < length graph.rows → other < length graph.rows → is_in_chunks chunks member ≡ true
      → is_in_chunks chunks other ≡ true → slice_index ids.modules member ≡ slice_index ids.modules other → member ≡ other
  hashed_ids_differ member other inside within one two same = ⊎_elim (λ e. e)
      (⊎_elim (λ before. absurd (apart_before member other before within one two same)) (λ after. absurd (apart_before other member after inside two one (sym same))))
      (cases_order member other)
