use Rattle.std.proofs.Common.{◌≡◌, length, ap, subst, ◌∙◌, arith}
use Rattle.module_spelling.specs.Layout.{Layout}
use Rattle.pk_types.specs.declared.graph.Graph.{Graph}
use Rattle.scope_getters.specs.Gaining.{Gains, Below, IsOfSpace}
use Rattle.scope_getters.proofs.Gaining.{below_none, below_more}
use Rattle.scope_getters.proofs.cells.add_spaces.Goals as goal

pub loop-root-init : goal.loop-root-init
loop-root-init c = record {
  same = λ j. c.args.speller.now;
  gains = below_none c.args.cells.now.keys (IsOfSpace c.args.speller.now c.args.spaces.now);
}

pub loop-root-preserved : goal.loop-root-preserved
loop-root-preserved c =
    record {
      same = c.in_ok-add_listed.ensures.same ∙ c.loop-root.invariant.same;
      gains = below_more c.args.cells.now.keys c.loop-root.cells.keys c.add_listed.new.cells.keys (IsOfSpace c.args.speller.now c.args.spaces.now) c.loop-root.root
          c.loop-root.invariant.gains
          (subst (λ (l : Layout). Gains c.loop-root.cells.keys (IsOfSpace l c.args.spaces.now c.loop-root.root) c.add_listed.new.cells.keys) c.loop-root.invariant.same
          c.in_ok-add_listed.ensures.gains);
    }

pub returns-clause-gains : goal.returns-clause-gains
returns-clause-gains c =
    let end : c.loop-root.root ≡ length c.args.speller.now.graph.rows =
    omega (arith, c.loop-root-test.false, c.loop-root.auto.root-end, c.len-count.ensures, ap (λ (g : Graph). length g.rows) c.graph.ensures.graph) in
    subst (λ n. Gains c.args.cells.now.keys (Below n (IsOfSpace c.args.speller.now c.args.spaces.now)) c.loop-root.cells.keys) end c.loop-root.invariant.gains
