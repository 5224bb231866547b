use Rattle.std.proofs.Common.{Err, ap}
use Rattle.node_resolve.proofs.Sights.{sight_says, sight_no_json, sight_no_object}
use Rattle.node_resolve.proofs.sight.sight_of.Goals as goal

pub returns-in-Ok : goal.returns-in-Ok
returns-in-Ok c short = sight_says c.args.text.now c.as_slice.result.now c.as_slice.ensures c.in-Ok.said short c.in-Ok.ensures.value

pub returns-in-Err-NotJson : goal.returns-in-Err-NotJson
returns-in-Err-NotJson c short =
    sight_no_json c.args.text.now c.as_slice.result.now c.as_slice.ensures (c.in-Err-NotJson.ensures.is_not_json (ap (λ f. Err f) c.in-Err-NotJson.field-0-is))

pub returns-in-Err-NotObject : goal.returns-in-Err-NotObject
returns-in-Err-NotObject c short =
    sight_no_object c.args.text.now c.as_slice.result.now c.as_slice.ensures (c.in-Err-NotObject.ensures.is_not_object (ap (λ f. Err f) c.in-Err-NotObject.field-0-is))
