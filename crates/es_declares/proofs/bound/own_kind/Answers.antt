use Rattle.es_declares.proofs.OwnLaws.{own_is}
use Rattle.es_declares.proofs.bound.own_kind.Goals as goal

pub returns : goal.returns
returns c = own_is c.args.outlined.now c.args.scopes.now c.requires.scopes c.args.place c.is_first.result c.declared.result c.own_if.result c.is_first.ensures
    c.declared.ensures c.own_if.ensures
