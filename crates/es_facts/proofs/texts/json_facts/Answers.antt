use Rattle.std.proofs.Common.{Ok, None, sym, subst}
use Rattle.pk_types.specs.declared.facts.NameKind.TheVariants as name
use Rattle.es_facts.specs.Answer.{TellsJson, HasFacts, HasFault}
use Rattle.es_facts.proofs.texts.json_facts.Goals as goal

pub returns-then-not-branch-clause-answer : goal.returns-then-not-branch-clause-answer
returns-then-not-branch-clause-answer c =
    HasFault.bad_json (subst (λ is. TellsJson c.args.bytes.now (Ok is)) c.if-not-branch.true c.in_ok-is_json.ensures)

pub returns-clause-answer : goal.returns-clause-answer
returns-clause-answer c =
    let text = c.args.bytes.now in
    let json = subst (λ is. TellsJson text (Ok is)) c.if-not-branch.false c.in_ok-is_json.ensures in
    subst (λ facts. HasFacts text name.Json facts None) (sym c.none.ensures.empty) (HasFacts.json json)
