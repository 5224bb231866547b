use Rattle.std.proofs.Common.{◌≡◌, ◌<◌, [], ◌∷◌, ◌++◌, length, get_or, Some, sym, ap, subst, ◌∙◌, arith}
use Rattle.std.proofs.lemmas.List.{get_or_default}
use Rattle.std.proofs.lemmas.List.Elements.{All-get_or}
use Rattle.std.proofs.lemmas.Option.{slice_get-get_or}
use Rattle.pk_types.specs.Fitting.{RowFits}
use Rattle.chunk_groups.specs.Lines.{LoadsWith}
use Rattle.chunk_groups.proofs.Gathering.{one_more}
use Rattle.chunk_groups.proofs.LineRows.{calls_have_targets, loads_with, all_loads}
use Rattle.chunk_groups.proofs.lines.loads.Goals as goal

pub with_required-requires : goal.with_required-requires
with_required-requires c =
    let graph = c.args.graph.now in
    let place = c.loop-number.number in
    let row = c.row-item.result in
    let h : place < length graph.rows = omega (arith, c.loop-number-test.true, ap length c.as_slice-row-items.ensures) in
    let is : row ≡ get_or graph.rows place row = c.row-item.is ∙ ap (λ l. get_or l place row) c.as_slice-row-items.ensures in
    calls_have_targets graph row (subst (RowFits graph) (sym is) (All-get_or (RowFits graph) graph.rows place row h c.requires.fits.rows))

pub loop-number-preserved : goal.loop-number-preserved
loop-number-preserved c =
    let graph = c.args.graph.now in
    let place = c.loop-number.number in
    let row = c.row-item.result in
    let h : place < length graph.rows = omega (arith, c.loop-number-test.true, ap length c.as_slice-row-items.ensures) in
    let is : row ≡ get_or graph.rows place row = c.row-item.is ∙ ap (λ l. get_or l place row) c.as_slice-row-items.ensures in
    let edges = c.args.edges.now in
    let at = slice_get-get_or graph.rows place row h ∙ ap Some (sym is) in
    let within : place < length edges = omega (arith, c.requires.each, h) in
    let read : c.in_ok-targets.targets.items ≡ get_or edges place [] =
    c.in_ok-targets.ensures.items ∙ c.as_slice.ensures ∙ c.index-edges-number.is ∙ get_or_default edges place c.index-edges-number.result [] within in
    let more = one_more (LoadsWith graph edges) c.loop-number.loads.items c.in_ok-with_required.field-0.items c.push.new.self.items place c.loop-number.invariant.each
    c.loop-number.invariant.lists (loads_with graph edges place row c.in_ok-targets.targets.items c.in_ok-with_required.field-0.items at read c.in_ok-with_required.ensures)
    (c.in_ok-push.ensures.items ∙ ap (λ l. c.loop-number.loads.items ++ l ∷ []) c.from_vec.ensures) in
    record { each = more.0; lists = more.1 }

pub returns : goal.returns
returns c =
    let graph = c.args.graph.now in
    let end : c.loop-number.number ≡ length graph.rows = omega (arith, c.loop-number-test.false, c.loop-number.auto.number-end, ap length c.as_slice-row-items.ensures) in
    all_loads graph c.args.edges.now c.loop-number.loads.items c.requires.each (c.loop-number.invariant.each ∙ end) (λ k h. c.loop-number.invariant.lists k (omega arith))
