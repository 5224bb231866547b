use Rattle.std.proofs.Common.{◌≡◌, rules, ℕ, List, [], length, sym, subst, ap, arith}
use Rattle.pk_types.specs.declared.graph.Graph.{Graph}
use Rattle.scope_getters.specs.Gaining.{Gains, Below, CallsFor}
use Rattle.scope_getters.proofs.Gaining.{below_none, below_more}
use Rattle.scope_getters.proofs.Calling.{all_called}
use Rattle.scope_getters.proofs.called.called_modules.Goals as goal

pub loop-from-init : goal.loop-from-init
loop-from-init c =
    let Calls = CallsFor c.args.speller.now.graph c.args.active.now in
    let none : c.new-called.result.keys ≡ [] = search rules in
    subst (λ (keys : List ℕ). Gains [] (Below 0 Calls) keys) (sym none) (below_none [] Calls)

pub loop-from-preserved : goal.loop-from-preserved
loop-from-preserved c =
    below_more [] c.loop-from.called.keys c.add_called.new.called.keys (CallsFor c.args.speller.now.graph c.args.active.now) c.loop-from.from c.loop-from.invariant c.in_ok-add_called.ensures

pub returns : goal.returns
returns c =
    let end : c.loop-from.from ≡ length c.args.speller.now.graph.rows =
    omega (arith, c.loop-from-test.false, c.loop-from.auto.from-end, c.len-count.ensures, ap (λ (g : Graph). length g.rows) c.graph.ensures.graph) in
    all_called c.args.speller.now.graph c.args.active.now c.loop-from.called.keys c.loop-from.from end c.loop-from.invariant
