use Rattle.std.proofs.Common.{◌≡◌, ◌<◌, [], ◌∷◌, ◌++◌, length, get_or, Some, sym, ap, subst, ◌∙◌, arith}
use Rattle.std.proofs.lemmas.List.Elements.{All-get_or}
use Rattle.std.proofs.lemmas.Option.{slice_get-get_or}
use Rattle.pk_types.specs.Fitting.{RowFits}
use Rattle.chunk_groups.specs.Lines.{ImportsBy}
use Rattle.chunk_groups.proofs.Gathering.{one_more}
use Rattle.chunk_groups.proofs.LineRows.{calls_have_targets, imports_by, all_imports}
use Rattle.chunk_groups.proofs.lines.imports.Goals as goal

pub imported-requires : goal.imported-requires
imported-requires c =
    let graph = c.args.graph.now in
    let place = c.loop-row.row-index in
    let row = c.row-item.result in
    let h : place < length graph.rows = omega (arith, c.loop-row-test.true, ap length c.as_slice-row-items.ensures) in
    let is : row ≡ get_or graph.rows place row = c.row-item.is ∙ ap (λ l. get_or l place row) c.as_slice-row-items.ensures in
    calls_have_targets graph row (subst (RowFits graph) (sym is) (All-get_or (RowFits graph) graph.rows place row h c.requires.rows))

pub loop-row-preserved : goal.loop-row-preserved
loop-row-preserved c =
    let graph = c.args.graph.now in
    let place = c.loop-row.row-index in
    let row = c.row-item.result in
    let h : place < length graph.rows = omega (arith, c.loop-row-test.true, ap length c.as_slice-row-items.ensures) in
    let is : row ≡ get_or graph.rows place row = c.row-item.is ∙ ap (λ l. get_or l place row) c.as_slice-row-items.ensures in
    let at = slice_get-get_or graph.rows place row h ∙ ap Some (sym is) in
    let more = one_more (ImportsBy graph) c.loop-row.imports.items c.in_ok-imported.field-0.items c.push.new.self.items place c.loop-row.invariant.each c.loop-row.invariant.lists
    (imports_by graph place row c.in_ok-imported.field-0.items at c.in_ok-imported.ensures)
    (c.in_ok-push.ensures.items ∙ ap (λ l. c.loop-row.imports.items ++ l ∷ []) c.from_vec.ensures) in
    record { each = more.0; lists = more.1 }

pub returns : goal.returns
returns c =
    let graph = c.args.graph.now in
    let end : c.loop-row.row-index ≡ length graph.rows = omega (arith, c.loop-row-test.false, c.loop-row.auto.row-index-end, ap length c.as_slice-row-items.ensures) in
    all_imports graph c.loop-row.imports.items (c.loop-row.invariant.each ∙ end) (λ k h. c.loop-row.invariant.lists k (omega arith))
