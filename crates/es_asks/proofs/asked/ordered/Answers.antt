use Rattle.std.proofs.Common.{◌<◌, ◌≤◌, List, length, sym, subst, ◌∙◌}
use Rattle.std.specs.Prelude.{ℕ}
use Rattle.es_outline.specs.Outline.{Marks}
use Rattle.es_scope.specs.FactsOf.{IsOrdered}
use Rattle.es_scope.specs.Listed.{AreThose}
use Rattle.es_asks.proofs.Passed.{one_ordered, all_ordered}
use Rattle.es_asks.proofs.asked.ordered.Goals as goal

pub loop-place-preserved : goal.loop-place-preserved
loop-place-preserved c requests once asked =
    one_ordered c.args.outlined.now once (length c.args.outlined.now.marks) requests c.args.numbers.now asked c.loop-place.place c.loop-place.order.keys
    c.note.new.numbers.keys c.order_at.result c.order_at.ensures
    (subst (λ (marks : Marks). c.loop-place.place < length marks) c.marks-place-end.ensures c.loop-place-test.true)
    c.in_ok-note.ensures (c.loop-place.invariant requests once asked)

pub returns : goal.returns
returns c requests once asked =
    subst (λ (l : List ℕ). AreThose (IsOrdered c.args.outlined.now requests) l)
    (sym (c.from_vec.ensures ∙ c.in_ok-items.ensures.items ∙ c.as_slice.ensures.keys))
    (all_ordered c.args.outlined.now once (length c.args.outlined.now.marks) requests c.args.numbers.now asked c.loop-place.place c.loop-place.order.keys
    (subst (λ (marks : Marks). length marks ≤ c.loop-place.place) c.marks-place-end.ensures c.loop-place-test.false)
    (c.loop-place.invariant requests once asked))
