use Rattle.std.proofs.Common.{sym, ◌∙◌}
use Rattle.es_asks.specs.Asked.{Passes, asked_for}
use Rattle.es_asks.proofs.AskedLaws.{asked_there, nothing_asked}
use Rattle.es_asks.proofs.asked.number_at.Goals as goal

pub returns-in_ok-number-in-Some-clause-passes : goal.returns-in_ok-number-in-Some-clause-passes
returns-in_ok-number-in-Some-clause-passes c =
    Passes.some c.take.new.requests.items.items (asked_for c.args.outlined.now c.in-Some.asking) c.in_ok-number-in-Some.number
    (asked_there c.args.outlined.now c.args.scopes.now c.args.forwarded.now c.requires.scopes c.requires.forwarded c.args.place c.in-Some.asking
    (sym c.in_ok-asking.ensures ∙ c.in-Some.is))
    c.in_ok-number-in-Some.ensures.takes

pub returns-in-None-clause-passes : goal.returns-in-None-clause-passes
returns-in-None-clause-passes c =
    Passes.none (nothing_asked c.args.outlined.now c.args.scopes.now c.args.forwarded.now c.requires.scopes c.requires.forwarded c.args.place
    (sym c.in_ok-asking.ensures ∙ c.in-None.is))
