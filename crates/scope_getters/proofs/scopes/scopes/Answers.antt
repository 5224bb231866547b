use Rattle.std.proofs.Common.{◌∷◌, [], length, ap, subst, ◌∙◌, arith}
use Rattle.std.proofs.lemmas.List.{length-append}
use Rattle.module_spelling.specs.Layout.{Layout}
use Rattle.scope_getters.specs.Gaining.{IsListed}
use Rattle.scope_getters.proofs.Heads.{one_behind}
use Rattle.scope_getters.proofs.scopes.scopes.Goals as goal

pub loop-root-preserved : goal.loop-root-preserved
loop-root-preserved c =
    let layout = c.args.speller.now in
    let old = c.loop-root.scopes.items in
    let scope = c.in_ok-scope.field-0 in
    let listed : IsListed layout c.args.spaces.now c.args.cells.now.keys c.loop-root.root scope =
    subst (λ (l : Layout). IsListed l c.args.spaces.now c.args.cells.now.keys c.loop-root.root scope) c.loop-root.invariant.same c.in_ok-scope.ensures.scope in
    record {
      same = c.in_ok-scope.ensures.same ∙ c.loop-root.invariant.same;
      each = omega (arith, ap length c.in_ok-push.ensures.items, length-append old (scope ∷ []), c.loop-root.invariant.each);
      scopes = one_behind (λ root s. IsListed layout c.args.spaces.now c.args.cells.now.keys root s) old c.push.new.self.items c.loop-root.root scope
          c.in_ok-push.ensures.items c.loop-root.invariant.each c.loop-root.invariant.scopes listed;
    }
