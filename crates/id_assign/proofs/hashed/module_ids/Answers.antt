use Rattle.std.proofs.Common.{◌+◌, ◌<◌, [], ◌∷◌, ◌++◌, length, get_or, sym, ap, subst, ◌∙◌, arith, ⊎_elim}
use Rattle.std.proofs.lemmas.Bool.{cases_Bool}
use Rattle.sha2.specs.Sha256.{sha256}
use Rattle.pk_types.specs.HashedIds.{module_start}
use Rattle.pk_types.specs.ModuleIds.{five_digits, IsNextFree}
use Rattle.id_assign.specs.Flags.{is_set}
use Rattle.id_assign.proofs.Numbering.{IsSoFar, taken_so_far, one_more, none_more}
use Rattle.id_assign.proofs.Together.{path_read}
use Rattle.id_assign.proofs.hashed.module_ids.Goals as goal

pub module_id-requires : goal.module_id-requires
module_id-requires c = λ passes.
    let short : c.loop-number.number < length c.args.placed.now = omega (arith, c.requires.each, ap length c.as_slice-row-items.ensures, c.loop-number-test.true) in
    omega (arith, c.requires.few, taken_so_far (module_start sha256 c.args.graph.now) (is_set c.args.placed.now) c.loop-number.number (length c.args.placed.now) c.loop-number.ids.items c.loop-number.taken.keys c.loop-number.invariant short passes)

pub loop-number-preserved : goal.loop-number-preserved
loop-number-preserved c =
    let graph = c.args.graph.now in
    let flags = c.args.placed.now in
    let number = c.loop-number.number in
    let ids = c.loop-number.ids.items in
    let taken = c.loop-number.taken.keys in
    let id = c.in_ok-id.id in
    let row = c.row-item.result in
    let start = module_start sha256 graph in
    let rows = c.as_slice-row-items.ensures in
    let inside : number < length graph.rows = omega (arith, ap length rows, c.loop-number-test.true) in
    let path = path_read graph number row inside (c.row-item.is ∙ ap (λ l. get_or l number row) rows) in
    subst (λ l. IsSoFar start (is_set flags) (number + 1) l c.module_id.new.taken.keys) (sym c.in_ok-push.ensures.items)
    (⊎_elim
    (λ passes. let given = c.in_ok-id.ensures.placed passes in
    subst (λ l. IsSoFar start (is_set flags) (number + 1) (ids ++ id ∷ []) l) (sym given.1)
    (one_more start (is_set flags) number ids taken id c.loop-number.invariant passes
    (subst (λ label. IsNextFree taken (five_digits (sha256 label)) id) (sym path) given.0)))
    (λ fails. let none = c.in_ok-id.ensures.other fails in
    subst (λ l. IsSoFar start (is_set flags) (number + 1) (ids ++ id ∷ []) l) (sym none.1)
    (none_more start (is_set flags) number ids taken id c.loop-number.invariant fails none.0))
    (cases_Bool (is_set flags number)))
