use Rattle.std.proofs.Common.{◌≡◌, ℕ, List, ◌+◌, ◌<◌, ◌++◌, length, get_or, map, take, codes, sym, ap, subst, ◌∙◌, arith}
use Rattle.sha2.specs.Sha256.{sha256}
use Rattle.std.proofs.lemmas.List.Elements.{All-get_or}
use Rattle.pk_types.specs.declared.graph.Row.{Row}
use Rattle.pk_types.specs.HashedIds.{chunk_start}
use Rattle.pk_types.specs.ModuleIds.{five_digits, IsNextFree, AreGivenInOrder}
use Rattle.pk_types.specs.SplitCandidates.{path_of}
use Rattle.id_assign.proofs.Numbering.{chunk_more}
use Rattle.id_assign.proofs.Together.{path_read}
use Rattle.id_assign.proofs.hashed.chunk_ids.Goals as goal

pub loop-modules-preserved : goal.loop-modules-preserved
loop-modules-preserved c =
    let graph = c.args.graph.now in
    let chunks = c.args.chunks.now in
    let place = c.loop-modules.modules-index in
    let modules = c.modules-item.result in
    let row = c.index-rows-first.result in
    let number = c.in_ok-take_next.field-0 in
    let taken = c.loop-modules.taken.keys in
    let inside : place < length chunks = omega (arith, c.loop-modules-test.true) in
    let is : modules ≡ get_or chunks place modules = c.modules-item.is in
    let some : 0 < length modules = subst (λ (l : List ℕ). 0 < length l) (sym is) (All-get_or (λ (l : List ℕ). 0 < length l) chunks place modules inside c.requires.filled) in
    let first : get_or modules 0 0 < length graph.rows = All-get_or (λ member. member < length graph.rows) modules 0 0 some
    (subst (λ l. (k d : ℕ) → k < length l → get_or l k d < length graph.rows) (sym is) (All-get_or (λ (l : List ℕ). (k d : ℕ) → k < length l → get_or l k d < length graph.rows) chunks place modules inside c.requires.in_range)) in
    let member = ap (λ l. get_or l 0 0) c.as_slice.ensures in
    let path : path_of graph (get_or modules 0 0) ≡ row.label = path_read graph (get_or modules 0 0) row first
    (c.index-rows-first.is ∙ ap (λ l. get_or l (get_or c.as_slice.result.now 0 0) row) c.as_slice-rows.ensures ∙ ap (λ k. get_or graph.rows k row) member) in
    let start : c.start_of_chunk.result ≡ chunk_start sha256 graph modules = c.start_of_chunk.ensures.start ∙ ap (λ (l : List ℕ). five_digits (sha256 (codes "chunk " ++ l))) (c.as_slice-label.ensures ∙ ap (λ (r : Row). r.label) (sym c.index-rows-first.is) ∙ sym path) in
    subst (AreGivenInOrder (map (chunk_start sha256 graph) (take (place + 1) chunks))) (sym c.in_ok-take_next.ensures.taken)
    (chunk_more (chunk_start sha256 graph) chunks place modules taken number inside is c.loop-modules.invariant
    (subst (λ from. IsNextFree taken from number) start c.in_ok-take_next.ensures.next))
