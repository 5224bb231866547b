use Rattle.std.proofs.Common.{◌≡◌, length, ap, subst, ◌∙◌, arith}
use Rattle.module_spelling.specs.Layout.{Layout}
use Rattle.pk_types.specs.declared.graph.Graph.{Graph}
use Rattle.scope_getters.specs.Gaining.{Gains, Below, IsOfModule}
use Rattle.scope_getters.proofs.Gaining.{below_none, below_more}
use Rattle.scope_getters.proofs.cells.add_modules.Goals as goal

pub loop-from-init : goal.loop-from-init
loop-from-init c = record {
  same = λ j. c.args.speller.now;
  gains = below_none c.args.cells.now.keys (IsOfModule c.args.speller.now c.args.active.now);
}

pub loop-from-preserved : goal.loop-from-preserved
loop-from-preserved c =
    record {
      same = c.in_ok-add_module.ensures.same ∙ c.loop-from.invariant.same;
      gains = below_more c.args.cells.now.keys c.loop-from.cells.keys c.add_module.new.cells.keys (IsOfModule c.args.speller.now c.args.active.now) c.loop-from.from
          c.loop-from.invariant.gains
          (subst (λ (l : Layout). Gains c.loop-from.cells.keys (IsOfModule l c.args.active.now c.loop-from.from) c.add_module.new.cells.keys) c.loop-from.invariant.same
          c.in_ok-add_module.ensures.gains);
    }

pub returns-clause-gains : goal.returns-clause-gains
returns-clause-gains c =
    let end : c.loop-from.from ≡ length c.args.speller.now.graph.rows =
    omega (arith, c.loop-from-test.false, c.loop-from.auto.from-end, c.len-count.ensures, ap (λ (g : Graph). length g.rows) c.graph.ensures.graph) in
    subst (λ n. Gains c.args.cells.now.keys (Below n (IsOfModule c.args.speller.now c.args.active.now)) c.loop-from.cells.keys) end c.loop-from.invariant.gains
