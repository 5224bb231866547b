use Rattle.es_declares.proofs.Joining.{joined_are}
use Rattle.es_declares.proofs.declarations.Declarations.new.Goals as goal

pub returns : goal.returns
returns c = joined_are c.args.outlined.now c.args.asked.now.requests c.args.scopes.now.texts c.joined.result c.in_ok-imports.imports c.in_ok-bindings.bindings
    c.in_ok-imports.ensures c.in_ok-bindings.ensures c.joined.ensures.imports c.joined.ensures.import_at c.joined.ensures.bindings c.joined.ensures.binding_of
    c.joined.ensures.default_binding
