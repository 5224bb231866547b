-- How modules stand before a pick.
use Rattle.std.proofs.Common.{◌≡◌, ℕ, zero, suc, ◌<◌, ◌||◌, Bool, true, false, List, [], ◌∷◌, length, filter, nat_lt, refl, ap, subst, ◌∙◌, arith, slice_get, option_map, unwrap_or}
use Rattle.std.specs.List.{All, range_with_len}
use Rattle.std.specs.List.Sorted.{IsStrictlyIncreasing}
use Rattle.std.proofs.lemmas.List.{get_or_default}
use Rattle.pk_types.specs.declared.graph.Graph.{Graph}
use Rattle.pk_types.specs.declared.graph.Row.{Row}
use Rattle.pk_types.specs.declared.settings.CacheGroup.{CacheGroup}
use Rattle.pk_types.specs.Numbers.{has}
use Rattle.pk_types.specs.SplitStates.{SplitState, chunk_at, loads_at}
use Rattle.pk_types.specs.SplitCandidates.{takes, takes_module, path_of, allows, chunks_with}
use Rattle.split_chunks.specs.States.{IsSound}
use Rattle.split_chunks.proofs.Lists.{filter_twice, all_of}

pub or_swap : (a b : Bool) → (a || b) ≡ (b || a)
or_swap true true = refl
or_swap true false = refl
or_swap false true = refl
or_swap false false = refl

-- a cache group takes a module by its path
pub takes_path : (graph : Graph) (cache : CacheGroup) (member : ℕ) → member < length graph.rows → takes_module graph cache member ≡ takes cache.test (path_of graph member)
takes_path graph cache member inside = by graph.rows member inside
  where
    by : (rows : List Row) (member : ℕ) → member < length rows
        → unwrap_or (option_map (takes cache.test) (option_map (λ row. row.label) (slice_get rows member))) false ≡ takes cache.test (unwrap_or (option_map (λ row. row.label) (slice_get rows member)) [])
    by [] member inside = absurd (omega arith)
    by (row ∷ rows) zero inside = refl
    by (row ∷ rows) (suc member) inside = by rows member (omega arith)

pub chunks_are : (state : SplitState) (cache : CacheGroup) (member : ℕ) (home : List ℕ) → home ≡ filter (λ chunk. has (chunk_at state chunk) member) (range_with_len 0 (length state.modules))
    → filter (λ chunk. allows cache.chunks (nat_lt chunk state.entries)) home ≡ chunks_with state cache member
chunks_are state cache member home is = ap (filter (λ chunk. allows cache.chunks (nat_lt chunk state.entries))) is
    ∙ filter_twice (λ chunk. allows cache.chunks (nat_lt chunk state.entries)) (λ chunk. has (chunk_at state chunk) member) (range_with_len 0 (length state.modules))

module _ (rows : ℕ) (state : SplitState) (sound : IsSound rows state) where
  pub members_below : (chunk : ℕ) → All (λ member. member < rows) (chunk_at state chunk)
  members_below chunk = all_of (λ member. member < rows) (chunk_at state chunk) (sound.members chunk)

  pub all_below : All (All (λ member. member < rows)) state.modules
  all_below = λ chunk d inside. subst (All (λ member. member < rows)) (get_or_default state.modules chunk [] d inside) (members_below chunk)

  pub all_ascend : All IsStrictlyIncreasing state.modules
  all_ascend = λ chunk d inside. subst IsStrictlyIncreasing (get_or_default state.modules chunk [] d inside) (sound.ascending chunk)

  pub loads_below : (group : ℕ) → All (λ chunk. chunk < length state.modules) (loads_at state group)
  loads_below group = all_of (λ chunk. chunk < length state.modules) (loads_at state group) (sound.loads group)
