use Rattle.std.proofs.Common.{[], ◌∷◌, ◌++◌, map, sym, ap, ◌∙◌}
use Rattle.std.specs.List.{range_with_len}
use Rattle.plan_core.specs.Scopes.{items_along, scope_items}
use Rattle.plan_core.proofs.Ranges.{range_more, scopes_more}
use Rattle.plan_core.proofs.scopes.own_scopes.Goals as goal

pub loop-number-preserved : goal.loop-number-preserved
loop-number-preserved c =
    let edges = c.args.edges.now in
    let number = c.loop-number.number in
    record {
      root = c.in_ok-push.ensures.items ∙ ap (λ l. l ++ number ∷ []) c.loop-number.invariant.root ∙ sym (range_more number);
      items = c.in_ok-push-2.ensures.items
          ∙ ap (λ l. l ++ c.in_ok-scope_items.field-0 ∷ []) c.loop-number.invariant.items
          ∙ ap (λ i. map (scope_items edges) (range_with_len 0 number) ++ i ∷ []) (c.in_ok-scope_items.ensures ∙ ap (λ l. items_along l number) c.as_slice.ensures)
          ∙ sym (scopes_more edges number c.index-edges-number.result c.loop-number-test.true c.index-edges-number.is);
    }
