use Rattle.es_scope.proofs.FirstTold.{one_inserted}
use Rattle.es_scope.proofs.firsts.Firsts.tell.Goals as goal

pub returns-in_ok-insert : goal.returns-in_ok-insert
returns-in_ok-insert c =
    one_inserted c.self.inside.places.entries c.args.self.now c.insert.new.self.entries c.args.scope c.args.number c.args.place c.told.result c.self.view_is c.told.ensures
    c.if-is_none.ensures c.in_ok-insert.ensures.updates.0
