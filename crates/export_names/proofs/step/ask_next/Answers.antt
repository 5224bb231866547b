use Rattle.export_names.proofs.GoingOn.{goes_end, goes_past, goes_in}
use Rattle.export_names.proofs.step.ask_next.Goals as goal

pub returns-in_default : goal.returns-in_default
returns-in_default c = goes_end c.args.resolver.now c.args.stars c.args.waiting.now.items c.in_default.ensures.cases

pub returns-then-not-is_es : goal.returns-then-not-is_es
returns-then-not-is_es c =
    let other = c.is_es.ensures.other c.if-not-is_es.true in
    goes_past c.args.resolver.now c.args.stars c.args.waiting.now.items c.in-Some.field-0-0.now c.in-Some.rest c.in-Some.ensures.cases.0 c.requires other.0 other.1 other.2

pub returns : goal.returns
returns c = goes_in c.args.resolver.now c.args.stars c.args.waiting.now.items c.in-Some.field-0-0.now c.in-Some.rest c.in-Some.ensures.cases.0 c.requires c.push.new.self.items
    (c.is_es.ensures.es c.if-not-is_es.false) c.in_ok-push.ensures.items
