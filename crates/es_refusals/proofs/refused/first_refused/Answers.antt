use Rattle.std.proofs.Common.{◌≤◌, length, subst}
use Rattle.es_outline.specs.Outline.{Marks}
use Rattle.es_refusals.proofs.FirstFound.{one_clear, first_there, never}
use Rattle.es_refusals.proofs.refused.first_refused.Goals as goal

pub loop-index-preserved : goal.loop-index-preserved
loop-index-preserved c =
    one_clear c.args.outlined.now c.args.scopes.now c.args.enclosing.now c.in_ok-forwarded.forwarded c.loop-index.index c.in_ok-refusal.field-0
    c.loop-index.invariant c.in_ok-refusal.ensures c.in_default.is

pub returns-in-Some : goal.returns-in-Some
returns-in-Some c =
    first_there c.args.outlined.now c.args.scopes.now c.args.enclosing.now c.in_ok-forwarded.forwarded c.requires.scopes c.requires.enclosing c.in_ok-forwarded.ensures
    c.loop-index.index c.in_ok-refusal.field-0 c.in-Some.refusal c.loop-index.invariant c.in_ok-refusal.ensures c.in-Some.is

pub returns : goal.returns
returns c =
    never c.args.outlined.now c.args.scopes.now c.args.enclosing.now c.in_ok-forwarded.forwarded c.requires.scopes c.requires.enclosing c.in_ok-forwarded.ensures
    c.loop-index.index c.loop-index.invariant (subst (λ (marks : Marks). length marks ≤ c.loop-index.index) c.marks-mark-items.ensures c.loop-index-test.false)
