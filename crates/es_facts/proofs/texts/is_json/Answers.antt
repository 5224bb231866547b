use Rattle.std.proofs.Common.{Some, subst}
use Rattle.es_facts.specs.Answer.{JudgesJson}
use Rattle.es_facts.proofs.texts.is_json.Goals as goal

pub returns-in-Some-NotJson : goal.returns-in-Some-NotJson
returns-in-Some-NotJson c =
    subst (λ one_fault. JudgesJson c.args.bytes.now (Some one_fault)) c.in-Some-NotJson.field-0-is c.in-Some-NotJson.ensures

pub returns-in-Some-NotObject : goal.returns-in-Some-NotObject
returns-in-Some-NotObject c =
    subst (λ one_fault. JudgesJson c.args.bytes.now (Some one_fault)) c.in-Some-NotObject.field-0-is c.in-Some-NotObject.ensures
