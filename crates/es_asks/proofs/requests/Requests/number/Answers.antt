use Rattle.std.proofs.Common.{List, sym, subst, ◌∙◌}
use Rattle.pk_types.specs.declared.facts.Request.{Request}
use Rattle.es_asks.specs.Requested.{request_of, Takes, AreKeyed}
use Rattle.es_asks.proofs.Requested.{known_taken, fresh_taken, keyed_more}
use Rattle.es_asks.proofs.requests.Requests.number.Goals as goal

pub returns-in-Some-clause-takes : goal.returns-in-Some-clause-takes
returns-in-Some-clause-takes c =
    known_taken c.args.self.now.items.items c.args.self.now.numbers.entries c.args.text.now c.args.how c.in-Some.number c.requires.keyed (sym c.told.ensures ∙ c.in-Some.is)

pub returns-clause-takes : goal.returns-clause-takes
returns-clause-takes c =
    subst (Takes c.args.self.now.items.items c.add.new.self.items.items (request_of c.args.text.now c.args.how)) (sym c.in_ok-number.ensures.number)
    (fresh_taken c.args.self.now.items.items c.add.new.self.items.items c.args.self.now.numbers.entries c.args.text.now c.args.how c.requires.keyed
    (sym c.told.ensures ∙ c.in_default.is) c.in_ok-number.ensures.items)

pub returns-clause-keyed : goal.returns-clause-keyed
returns-clause-keyed c =
    subst (λ (l : List Request). AreKeyed c.add.new.self.numbers.entries l) (sym c.in_ok-number.ensures.items)
    (keyed_more c.args.self.now.items.items c.args.self.now.numbers.entries c.add.new.self.numbers.entries c.args.text.now c.args.how c.requires.keyed c.in_ok-number.ensures.tells)
