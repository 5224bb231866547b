use Rattle.std.proofs.Common.{ℕ, List, length, ◌<◌, map, sym, subst}
use Rattle.std.specs.List.{All}
use Rattle.sha2.specs.Sha256.{sha256}
use Rattle.pk_types.specs.ModuleIds.{AreGivenInOrder}
use Rattle.pk_types.specs.HashedIds.{module_start, chunk_start}
use Rattle.id_assign.specs.Flags.{is_set}
use Rattle.id_assign.specs.Numbered.{AreNumbered}
use Rattle.id_assign.proofs.Together.{flag_count, few_set, rest_filled, are_hashed}
use Rattle.id_assign.proofs.hashed.hashed_ids.Goals as goal

pub module_ids-requires-clause-each : goal.module_ids-requires-clause-each
module_ids-requires-clause-each c = flag_count c.args.chunks.now c.args.placed.now (length c.args.graph.now.rows) c.requires.placed

pub module_ids-requires-clause-few : goal.module_ids-requires-clause-few
module_ids-requires-clause-few c = few_set c.args.chunks.now c.args.placed.now (length c.args.graph.now.rows) c.requires.placed c.requires.few.few_modules

pub chunk_ids-requires-clause-filled : goal.chunk_ids-requires-clause-filled
chunk_ids-requires-clause-filled c =
    subst (λ (l : List (List ℕ)). All (λ modules. 0 < length modules) l) (sym c.without_entries.ensures) (rest_filled c.args.graph.now c.args.chunks.now c.requires.few)

pub returns : goal.returns
returns c =
    let graph = c.args.graph.now in
    let flags = c.args.placed.now in
    are_hashed sha256 graph c.args.chunks.now flags _ c.requires.placed
    (subst (λ ids. AreNumbered (module_start sha256 graph) (is_set flags) (length flags) ids) (sym c.from_vec.ensures) c.in_ok-modules.ensures)
    (subst (AreGivenInOrder _) (sym c.from_vec-2.ensures)
    (subst (λ chunks. AreGivenInOrder (map (chunk_start sha256 graph) chunks) c.in_ok-chunks.chunks.items) c.without_entries.ensures c.in_ok-chunks.ensures))
