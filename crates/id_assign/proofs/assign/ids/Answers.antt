use Rattle.std.proofs.Common.{◌≡◌, ◌≤◌, length, map, count_by, Result, Ok, Err, IfOk, sym, ap, subst, ◌∙◌}
use Rattle.std.specs.List.{range_with_len}
use Rattle.std.proofs.lemmas.List.FromFn.{length-map-range_with_len}
use Rattle.sha2.specs.Sha256.{sha256}
use Rattle.pk_types.specs.declared.plan.Ids.{Ids}
use Rattle.pk_types.specs.HashedIds.{HasIds}
use Rattle.pk_types.specs.ModuleIds.{is_in_chunks, rank_of, id_count}
use Rattle.pk_types.specs.Splitting.{chunk_count}
use Rattle.id_assign.proofs.assign.ids.Goals as goal

pub natural_ids-requires-clause-placed : goal.natural_ids-requires-clause-placed
natural_ids-requires-clause-placed c =
    let flags = c.as_slice-else-config.ensures.value ∙ c.in_ok-placed.ensures in
    let count = ap length flags ∙ length-map-range_with_len (is_in_chunks c.args.chunks.now) 0 c.len.result in
    flags ∙ ap (λ n. map (is_in_chunks c.args.chunks.now) (range_with_len 0 n)) (sym count)

pub natural_ids-requires-clause-few : goal.natural_ids-requires-clause-few
natural_ids-requires-clause-few c =
    let flags = c.as_slice-else-config.ensures.value ∙ c.in_ok-placed.ensures in
    let count = ap length flags ∙ length-map-range_with_len (is_in_chunks c.args.chunks.now) 0 c.len.result ∙ c.len.ensures in
    subst (λ n. count_by (is_in_chunks c.args.chunks.now) (range_with_len 0 n) ≤ id_count) (sym count) c.requires.few_modules

both : {T E : Type 0} (result : Result T E) (P Q R : T → Type 0) → ((x : T) → P x → Q x → R x) → IfOk result P → IfOk result Q → IfOk result R
both (Ok x) P Q R joined p q = joined x p q
both (Err e) P Q R joined p q = tt

pub returns : goal.returns
returns c =
    let flags = c.as_slice-else-config.ensures.value ∙ c.in_ok-placed.ensures in
    let count = ap length flags ∙ length-map-range_with_len (is_in_chunks c.args.chunks.now) 0 c.len.result ∙ c.len.ensures in
    both c.natural_ids.result (λ ids. ids.modules ≡ map (rank_of c.args.chunks.now) (range_with_len 0 (length c.as_slice-else-config.result.now)))
    (λ ids. ids.chunks ≡ range_with_len 0 (chunk_count c.args.chunks.now)) _
    (λ (ids : Ids) modules chunks. subst (λ hashed. HasIds sha256 c.args.graph.now c.args.chunks.now hashed ids) (sym c.if-config.false)
    (record { module_ids = modules ∙ ap (λ n. map (rank_of c.args.chunks.now) (range_with_len 0 n)) count; chunk_ids = chunks }))
    c.natural_ids.ensures.modules c.natural_ids.ensures.chunks
