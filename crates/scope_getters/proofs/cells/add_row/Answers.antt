use Rattle.std.proofs.Common.{◌<◌, ℕ, List, length, sym, subst, ◌∙◌, arith}
use Rattle.prune_graph.specs.Gathering.{IsUnused}
use Rattle.module_spelling.specs.Layout.{Layout}
use Rattle.scope_getters.specs.Gaining.{Gains, IsOfRequest}
use Rattle.scope_getters.proofs.Gaining.{below_none, below_more}
use Rattle.scope_getters.proofs.CellGains.{row_gains}
use Rattle.scope_getters.proofs.cells.add_row.Goals as goal

pub loop-request-init : goal.loop-request-init
loop-request-init c = record {
  same = λ j. c.args.speller.now;
  gains = below_none c.args.cells.now.keys (IsOfRequest c.args.speller.now c.args.from c.add_sites.new.through c.args.row.now.targets);
}

pub add_request-requires-clause-from : goal.add_request-requires-clause-from
add_request-requires-clause-from c = subst (λ (l : Layout). c.args.from < length l.graph.rows) (sym c.loop-request.invariant.same) c.requires.from

pub loop-request-preserved : goal.loop-request-preserved
loop-request-preserved c =
    let layout = c.args.speller.now in
    let through = c.add_sites.new.through in
    let targets = c.args.row.now.targets in
    let request = c.loop-request.request in
    let one : Gains c.loop-request.cells.keys (IsOfRequest layout c.args.from through targets request) c.add_request.new.cells.keys =
    subst (λ (l : List ℕ). Gains c.loop-request.cells.keys (IsOfRequest layout c.args.from through l request) c.add_request.new.cells.keys) c.as_slice.ensures
    (subst (λ (l : Layout). Gains c.loop-request.cells.keys (IsOfRequest l c.args.from through c.as_slice.result.now request) c.add_request.new.cells.keys) c.loop-request.invariant.same
    c.in_ok-add_request.ensures.gains) in
    record {
      same = c.in_ok-add_request.ensures.same ∙ c.loop-request.invariant.same;
      gains = below_more c.args.cells.now.keys c.loop-request.cells.keys c.add_request.new.cells.keys (IsOfRequest layout c.args.from through targets) request
          c.loop-request.invariant.gains one;
    }

pub returns-clause-gains : goal.returns-clause-gains
returns-clause-gains c =
    let row = c.args.row.now in
    row_gains c.args.speller.now c.args.from row c.in_ok-through.through c.add_sites.new.through c.loop-request.request c.args.cells.now.keys c.loop-request.cells.keys
    (omega (arith, c.loop-request-test.false, c.loop-request.auto.request-end, c.len-count.ensures, c.requires.row.each))
    (subst (λ n. IsUnused n c.in_ok-through.through) (omega (arith, c.loop-request-test.false, c.loop-request.auto.request-end)) c.in_ok-through.ensures)
    c.in_ok-add_sites.ensures c.loop-request.invariant.gains
