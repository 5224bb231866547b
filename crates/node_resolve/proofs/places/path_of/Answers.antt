use Rattle.std.proofs.Common.{Err, ap}
use Rattle.node_resolve.proofs.PathParts.{no_path_long, no_path_broken}
use Rattle.node_resolve.proofs.places.path_of.Goals as goal

pub returns-in-Err-Long : goal.returns-in-Err-Long
returns-in-Err-Long c =
    let at = c.in-Err-Long in
    no_path_long c.args.text.now at.field-0-0 ((at.ensures.long at.field-0-0).0 (ap (λ f. Err f) at.field-0-is))

pub returns-in-Err-Bad : goal.returns-in-Err-Bad
returns-in-Err-Bad c =
    let at = c.in-Err-Bad in
    no_path_broken c.args.text.now at.field-0-0 c.requires.some ((at.ensures.bad at.field-0-0).0 (ap (λ f. Err f) at.field-0-is))
