-- What is said of flags is said of the modules in chunks.
use Rattle.std.proofs.Common.{◌≡◌, ℕ, ◌+◌, ◌<◌, ◌≤◌, Bool, false, cond, List, [], length, map, drop, get_or, filter, slice_index, count_by, refl, sym, ap, subst, ◌∙◌, arith, ⊎_elim}
use Rattle.std.specs.List.{All, range_with_len}
use Rattle.std.specs.Option.{option_map, unwrap_or}
use Rattle.std.proofs.lemmas.Bool.{cases_lt}
use Rattle.std.proofs.lemmas.List.{get_or-drop, length-drop, get_or_past, get_or_default}
use Rattle.std.proofs.lemmas.List.FromFn.{get_or-map-range_with_len, fill_by_all, length-map-range_with_len}
use Rattle.std.proofs.lemmas.Option.{slice_get_read}
use Rattle.pk_types.specs.declared.graph.Graph.{Graph}
use Rattle.pk_types.specs.declared.graph.Row.{Row}
use Rattle.pk_types.specs.declared.plan.Chunks.{Chunks}
use Rattle.pk_types.specs.declared.plan.Ids.{Ids}
use Rattle.pk_types.specs.ModuleIds.{is_in_chunks, rank_of, id_count, AreGivenInOrder}
use Rattle.pk_types.specs.HashedIds.{module_start, chunk_start, AreHashedIds}
use Rattle.pk_types.specs.SplitCandidates.{path_of}
use Rattle.id_assign.specs.Conditions.{MayHaveIds}
use Rattle.id_assign.specs.Flags.{is_set, rank_among}
use Rattle.id_assign.specs.Numbered.{AreNumbered}
use Rattle.id_assign.proofs.Ranges.{filter_same, count_same}

-- the path of a module whose row was read
pub path_read : (graph : Graph) (number : ℕ) (row : Row) → number < length graph.rows → row ≡ get_or graph.rows number row → path_of graph number ≡ row.label
path_read graph number row inside is = ap (λ found. unwrap_or (option_map (λ row. row.label) found) []) (slice_get_read graph.rows (length graph.rows) number row refl inside is)

module _ (chunks : Chunks) (flags : List Bool) (count : ℕ) (placed : flags ≡ map (is_in_chunks chunks) (range_with_len 0 count)) where
  pub flag_at : (number : ℕ) → number < count → is_set flags number ≡ is_in_chunks chunks number
  flag_at number inside = ap (λ l. get_or l number false) placed ∙ get_or-map-range_with_len (is_in_chunks chunks) 0 count number number false inside (omega arith)

  pub flag_count : length flags ≡ count
  flag_count = ap length placed ∙ length-map-range_with_len (is_in_chunks chunks) 0 count

  pub same_count : count_by (is_set flags) (range_with_len 0 count) ≡ count_by (is_in_chunks chunks) (range_with_len 0 count)
  same_count = count_same (is_set flags) (is_in_chunks chunks) count flag_at

  pub few_set : count_by (is_in_chunks chunks) (range_with_len 0 count) ≤ id_count → count_by (is_set flags) (range_with_len 0 (length flags)) ≤ id_count
  few_set few = subst (λ n. count_by (is_set flags) (range_with_len 0 n) ≤ id_count) (sym flag_count) (omega (arith, same_count))

  pub same_ranks : map (rank_among flags) (range_with_len 0 (length flags)) ≡ map (rank_of chunks) (range_with_len 0 count)
  same_ranks = ap (λ n. map (rank_among flags) (range_with_len 0 n)) flag_count
      ∙ fill_by_all (rank_of chunks) (map (rank_among flags) (range_with_len 0 count)) count 0 (length-map-range_with_len (rank_among flags) 0 count)
      (λ k h. get_or-map-range_with_len (rank_among flags) 0 count k k 0 h (omega arith)
      ∙ ap (λ b. cond b (count_by (is_set flags) (range_with_len 0 k)) 0) (flag_at k h)
      ∙ ap (λ m. cond (is_in_chunks chunks k) m 0) (count_same (is_set flags) (is_in_chunks chunks) k (λ j l. flag_at j (omega arith))))

pub rest_filled : (graph : Graph) (chunks : Chunks) → MayHaveIds graph chunks → All (λ modules. 0 < length modules) (drop chunks.entries chunks.modules)
rest_filled graph chunks may = λ k d inside.
    let long = length-drop chunks.entries chunks.modules in
    let within : chunks.entries + k < length chunks.modules = omega arith in
    subst (λ (l : List ℕ). 0 < length l) (get_or_default chunks.modules (chunks.entries + k) [] d within ∙ sym (get_or-drop chunks.entries chunks.modules k d))
    (may.filled (chunks.entries + k) (omega arith) within)

-- the whole
pub are_hashed : (hash : List ℕ → List ℕ) (graph : Graph) (chunks : Chunks) (flags : List Bool) (ids : Ids) → flags ≡ map (is_in_chunks chunks) (range_with_len 0 (length graph.rows))
    → AreNumbered (module_start hash graph) (is_set flags) (length flags) ids.modules
    → AreGivenInOrder (map (chunk_start hash graph) (drop chunks.entries chunks.modules)) ids.chunks → AreHashedIds hash graph chunks ids
are_hashed hash graph chunks flags ids placed modules others = record {
  each = modules.each ∙ flag_count chunks flags (length graph.rows) placed;
  module_ids = subst (λ numbers. AreGivenInOrder (map (module_start hash graph) numbers) (map (slice_index ids.modules) numbers))
      (ap (λ n. filter (is_set flags) (range_with_len 0 n)) (flag_count chunks flags (length graph.rows) placed)
      ∙ filter_same (is_set flags) (is_in_chunks chunks) (length graph.rows) (flag_at chunks flags (length graph.rows) placed)) modules.given;
  no_chunk = λ member none. ⊎_elim
      (λ inside. modules.others member (flag_at chunks flags (length graph.rows) placed member inside ∙ none))
      (λ past. get_or_past ids.modules member 0 (omega (arith, modules.each, flag_count chunks flags (length graph.rows) placed)))
      (cases_lt member (length graph.rows));
  chunk_ids = others;
}
